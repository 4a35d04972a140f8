-- seal runs exactly as the subject has it (`seal_exact`).
use Rattle.std.proofs.Common.{◌≡◌, ℕ, ◌+◌, Bool, true, false, cond, eqb, length, Ok, Err, sym, refl, ap, ◌∙◌, subst, arith, eqb-true}
use mathlib.Core.Option.{Option}
use borrow.Author.Tests.{eqb-false}
use Rattle.records.specs.declared.refusal.Refusal.TheVariants.{RowsDue}
use Rattle.meaning.specs.Terms.{names}
use Rattle.meaning.specs.Mixes.{Draft, Trial, sealed, undecided, Stage, filling, trying, Grants, full_sheet}
use Rattle.meaning.specs.Mixes as subject
use Rattle.calls.specs.Reading.{Plain, read_sheet}
use Rattle.calls.specs.Bridge.{Fair}
use Rattle.calls.specs.Granted.{Passed}
use Rattle.calls.specs.Stores.{Held}
use Rattle.calls.specs.Sheets.{Filling, rows_due, new_trial}
use Rattle.calls.specs.Trials.{plain_of}
use Rattle.calls.specs.Views.{Orderly, Whole, no_fork, plain_in, read_draft, read_trial}
use Rattle.calls.specs.Exact.{SealExact, SealIsExact}
use Rattle.calls.proofs.Enough.{enough_holds}
use Rattle.calls.proofs.Filled.{codes_in, rows_in, constraints_in, names_in}
use Rattle.calls.proofs.Granted.{granted}

-- a seal that the subject grants has every row in
pub record Full (D : Draft) : Type 0 where
  pub labels : length D.sheet.codes ≡ D.labels
  pub terms : length D.sheet.rows ≡ D.terms
  pub constraints : length D.sheet.constraints ≡ D.constraints

full_when : (K : ℕ → Option ℕ) (D : Draft) (st : Stage) → Grants K (filling D) subject.seal st → Full D
full_when K D st (full_sheet l t c) = record { labels = l; terms = t; constraints = c }

module _ (K : ℕ → Option ℕ) (f : Filling) (h : Held) (o : Orderly f h) where
  -- no row is due: all that were to come are in
  all_in :
      rows_due f ≡ 0 → (f.labels_in ≡ f.labels) × (f.terms_in ≡ f.terms) × (f.constraints_in ≡ f.constraints)
  all_in e =
      (omega arith, omega arith, omega arith)

  module _
      (el : f.labels_in ≡ f.labels) (et : f.terms_in ≡ f.terms) (ec : f.constraints_in ≡ f.constraints) where
    -- the sheet of the trial
    same_plain : plain_in f h ≡ plain_of (new_trial f) h
    same_plain = cc

    -- and its names
    same_names : names (read_sheet (plain_of (new_trial f) h)) ≡ f.labels + f.free
    same_names = ap (λ (P : Plain). names (read_sheet P)) (sym same_plain) ∙ names_in f h o el

    -- the trial is the one that the sheet begins with
    same_trial : sealed (read_sheet (plain_in f h)) ≡ read_trial (new_trial f) h
    same_trial = cc (same_plain, same_names)

    -- its facts are the constraints, which fit
    fair : Fair (plain_of (new_trial f) h) (plain_of (new_trial f) h).constraints (f.labels + f.free)
    fair =
        subst (Fair (plain_of (new_trial f) h) (plain_of (new_trial f) h).constraints) same_names
        ((granted.4 (plain_of (new_trial f) h)).0 (subst Passed same_plain o.passed))

    whole : Whole (new_trial f) h
    whole = search (arith, fair, fair.sheet, no_fork)

    sealed_is :
        Whole (new_trial f) h ×
        Grants K (filling (read_draft f h)) subject.seal (trying (read_trial (new_trial f) h))
    sealed_is = (
      whole,
      subst (λ (T : Trial). Grants K (filling (read_draft f h)) subject.seal (trying T)) same_trial
          (full_sheet (codes_in f h o ∙ el) (rows_in f h o ∙ et) (constraints_in f h o ∙ ec)),
    )

  -- by whether rows are due
  by_due :
      (z : Bool) → eqb (rows_due f) 0 ≡ z → SealExact K f h (cond z (Ok (new_trial f)) (Err (RowsDue (rows_due f))))
  by_due true e =
      let a = all_in (eqb-true _ _ e) in
      sealed_is a.0 a.1 a.2
  by_due false e =
      λ st g.
      (let F = full_when K (read_draft f h) st g in
      let el : f.labels_in ≡ f.labels = sym (codes_in f h o) ∙ F.labels in
      let et : f.terms_in ≡ f.terms = sym (rows_in f h o) ∙ F.terms in
      let ec : f.constraints_in ≡ f.constraints = sym (constraints_in f h o) ∙ F.constraints in
      eqb-false _ _ e (omega arith))

pub seal_exact : SealIsExact
seal_exact K f h o =
    rw (enough_holds h o.enough) (by_due K f h o (eqb (rows_due f) 0) refl)
