-- A label row is granted exactly as the subject has it (`label_exact`).
use Rattle.std.proofs.Common.{◌≡◌, ℕ, ◌+◌, ◌<◌, Bool, true, false, cond, ltb, List, [], ◌∷◌, ◌++◌, take, set, Ok, refl, ap, ◌∙◌, arith, ltb-false, ltb-true}
use mathlib.Core.Option.{Option, none, some}
use borrow.Author.Tests.{both_ways}
use Rattle.std.proofs.lemmas.List.{take_more_set}
use Rattle.records.specs.declared.refusal.Refusal.TheVariants.{NotDue, UnknownLabel}
use Rattle.std.specs.declared.option.Option.TheVariants as option
use Rattle.records.specs.declared.record.RowRecord.TheVariants as row
use Rattle.records.specs.Reading.{row_in}
use Rattle.labels.specs.Kinds.{has_value, known_by}
use Rattle.meaning.specs.Mixes.{Draft, drafted, with_code, filling, Grants, label_row}
use Rattle.meaning.specs.Mixes as subject
use Rattle.calls.specs.Stores.{Held, with_labels}
use Rattle.calls.specs.Sheets.{Filling, one_label, label_added, row_added, not_added}
use Rattle.calls.specs.Views.{Orderly, plain_in, read_draft}
use Rattle.calls.proofs.Bytes.{RowTold}
use Rattle.calls.proofs.Enough.{label_kept}
use Rattle.calls.proofs.Filled.{none_passed, codes_in, no_terms, no_constraints_yet}
use Rattle.calls.proofs.AddCases.{Exactly, refused}

-- a code that is known has a value
valued : (o : Option ℕ) → has_value o ≡ true → (x : ℕ) × (o ≡ some x)
valued none e = absurd cc
valued (some x) e = (x, refl)

module _ (K : ℕ → Option ℕ) (f : Filling) (h : Held) (o : Orderly f h) (bs : List ℕ) where
  -- the stores with the label
  abbrev stored : ℕ → Held
  stored c = with_labels h (set h.labels f.labels_in c)

  more :
      (c : ℕ) → f.labels_in < f.labels →
      take (f.labels_in + 1) (stored c).labels ≡ take f.labels_in h.labels ++ (c ∷ [])
  more c l =
      take_more_set h.labels f.labels_in c (omega arith)

  -- the draft has one code more
  draft_is :
      (c : ℕ) → f.labels_in < f.labels →
      drafted (read_draft f h) (with_code (read_draft f h).sheet c) ≡ read_draft (one_label f) (stored c)
  draft_is c l =
      cc (more c l)

  -- all stays in order: there are neither terms nor constraints yet
  orderly : (c : ℕ) → f.labels_in < f.labels → Orderly (one_label f) (stored c)
  orderly c l =
      let et = no_terms f h o l in
      let ec = no_constraints_yet f h o l in
      search (
        arith,
        label_kept h f.labels_in c o.enough,
        none_passed (plain_in (one_label f) (stored c)) (ap (λ (k : ℕ). take k h.terms) et)
            (ap (λ (k : ℕ). take k h.facts) ec),
      )

  -- the subject grants it
  grants :
      (c : ℕ) → f.labels_in < f.labels → RowTold bs (option.Some (row.Label c)) → known_by K c ≡ true →
      Grants K (filling (read_draft f h)) (subject.add bs) (filling (read_draft (one_label f) (stored c)))
  grants c l told ek =
      let v = valued (K c) ek in
      let ec = told.5 in
      rw (told.4, ← draft_is c l, ← ec)
      (label_row {D = read_draft f h} told.0 told.1 told.2 told.3 (omega (arith, codes_in f h o)) (ap K ec ∙ v.1))

  by_known :
      (c : ℕ) → row_in bs ≡ option.Some (row.Label c) → RowTold bs (option.Some (row.Label c)) → f.labels_in < f.labels → (z : Bool) →
      known_by K c ≡ z →
      Exactly K f h bs
      (cond z
      (record { result = Ok tt; sheet = one_label f; stores = stored c })
      (not_added f h (UnknownLabel c)))
  by_known c e told l true ek = (orderly c l, grants c l told ek)
  by_known c e told l false ek =
      refused K f h bs (option.Some (row.Label c)) e (UnknownLabel c) (λ q. both_ways (known_by K c) ek q.1)

  pub label_exact :
      (c : ℕ) → row_in bs ≡ option.Some (row.Label c) → RowTold bs (option.Some (row.Label c)) → Exactly K f h bs (row_added K f h (option.Some (row.Label c)))
  label_exact c e told = by_due (ltb f.labels_in f.labels) refl
    where
      by_due :
          (z : Bool) → ltb f.labels_in f.labels ≡ z →
          Exactly K f h bs (cond z (label_added K f h c) (not_added f h NotDue))
      by_due true q = by_known c e told (ltb-true _ _ q) (known_by K c) refl
      by_due false q =
          refused K f h bs (option.Some (row.Label c)) e NotDue
          (λ p. omega (arith, ltb-false _ _ q, p.0, codes_in f h o))
