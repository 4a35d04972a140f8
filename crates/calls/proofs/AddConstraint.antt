-- A constraint row is granted exactly as the subject has it (`constraint_exact`).
use Rattle.std.proofs.Common.{◌≡◌, ℕ, ◌+◌, ◌<◌, Bool, true, false, cond, ◌&&◌, ltb, leb, List, [], ◌∷◌, ◌++◌, map, take, set, Ok, sym, refl, ap, ◌∙◌, subst, arith, ltb-false, ltb-true}
use Rattle.std.proofs.lemmas.Bool.{and_from, and_parts}
use mathlib.Core.Option.{Option}
use borrow.Author.Tests.{both_ways}
use Rattle.std.specs.List.{AllByRecursion}
use Rattle.std.proofs.ByRecursion.{All-append}
use Rattle.std.proofs.lemmas.List.{take_more_set, map_push}
use Rattle.records.specs.declared.rows.Fact.{Fact as FactRow}
use Rattle.records.specs.declared.rows.TermRow.{TermRow}
use Rattle.records.specs.declared.rows.ConstraintRow.{ConstraintRow}
use Rattle.records.specs.declared.refusal.Refusal.TheVariants.{NotDue, IllConstraint}
use Rattle.std.specs.declared.option.Option.TheVariants as option
use Rattle.records.specs.declared.record.RowRecord.TheVariants as row
use Rattle.records.specs.Reading.{row_in}
use Rattle.meaning.specs.Terms.{names}
use Rattle.meaning.specs.Mixes.{Draft, drafted, with_constraint, filling, Grants, constraint_row, fact_bytes}
use Rattle.meaning.specs.Mixes as subject
use Rattle.calls.specs.Reading.{read_fact, write_fact, read_sheet, FactFits, Good}
use Rattle.calls.specs.Tests.{fact_ok}
use Rattle.calls.specs.Granted.{Passed}
use Rattle.calls.specs.Stores.{Held, with_facts}
use Rattle.calls.specs.Sheets.{Filling, one_constraint, constraint_added, row_added, not_added}
use Rattle.records.specs.Reading.{fact_said}
use Rattle.calls.specs.Views.{Orderly, plain_in, read_draft}
use Rattle.calls.proofs.Bytes.{RowTold, constraint_bytes}
use Rattle.calls.proofs.FactBytes.{said_by, fact_written, said_back, said_again, sign_low, fact_refits}
use Rattle.calls.proofs.Enough.{fact_kept}
use Rattle.calls.proofs.Filled.{codes_in, rows_in, constraints_in, names_in}
use Rattle.calls.proofs.Granted.{granted}
use Rattle.calls.proofs.AddCases.{Case, Exactly, refused}

module _ (K : ℕ → Option ℕ) (f : Filling) (h : Held) (o : Orderly f h) (bs : List ℕ) where
  -- the rows that are in
  abbrev rows : List TermRow
  rows = take f.terms_in h.terms

  -- the stores with the fact
  abbrev stored : FactRow → Held
  stored w = with_facts h (set h.facts f.constraints_in w)

  -- the sheet so far is good
  good : Good (plain_in f h)
  good = ((granted.4 (plain_in f h)).0 o.passed).sheet

  more :
      (w : FactRow) → f.constraints_in < f.constraints →
      take (f.constraints_in + 1) (stored w).facts ≡ take f.constraints_in h.facts ++ (w ∷ [])
  more w l =
      take_more_set h.facts f.constraints_in w (omega arith)

  -- the draft has one constraint more
  draft_is :
      (w : FactRow) → f.constraints_in < f.constraints →
      drafted (read_draft f h) (with_constraint (read_draft f h).sheet (read_fact rows w))
      ≡ read_draft (one_constraint f) (stored w)
  draft_is w l =
      cc (ap (map (read_fact rows)) (more w l), map_push (read_fact rows) (take f.constraints_in h.facts) w)

  -- each constraint passed
  passed :
      (w : FactRow) → f.constraints_in < f.constraints → fact_ok rows (names (read_sheet (plain_in f h))) w ≡ true →
      Passed (plain_in (one_constraint f) (stored w))
  passed w l e =
      record {
        rows = o.passed.rows;
        constraints =
            subst (AllByRecursion (λ (x : FactRow). fact_ok rows (names (read_sheet (plain_in f h))) x ≡ true)) (sym (more w l))
            (All-append _ (take f.constraints_in h.facts) (w ∷ []) o.passed.constraints (e, tt));
      }

  orderly :
      (w : FactRow) → f.labels_in ≡ f.labels → f.terms_in ≡ f.terms → f.constraints_in < f.constraints →
      fact_ok rows (names (read_sheet (plain_in f h))) w ≡ true → Orderly (one_constraint f) (stored w)
  orderly w el et l e =
      search (arith, fact_kept h f.constraints_in w o.enough, passed w l e)

  -- the subject grants it
  grants :
      (r : ConstraintRow) → f.labels_in ≡ f.labels → f.terms_in ≡ f.terms → f.constraints_in < f.constraints →
      RowTold bs (option.Some (row.Constraint r)) → leb r.sign 1 ≡ true →
      FactFits (plain_in f h) (names (read_sheet (plain_in f h))) (fact_said r) →
      Grants K (filling (read_draft f h)) (subject.add bs)
      (filling (read_draft (one_constraint f) (stored (fact_said r))))
  grants r el et l told es b =
      let F = read_fact rows (fact_said r) in
      let er : said_by (write_fact F) ≡ r = ap said_by b.written ∙ said_again r es in
      rw (
        ← fact_written F (told ∙ ap (λ (x : ConstraintRow). 67 ∷ 78 ∷ constraint_bytes x) (sym er)),
        ← draft_is (fact_said r) l,
      )
      (constraint_row {D = read_draft f h} F (codes_in f h o ∙ el) (rows_in f h o ∙ et) (omega (arith, constraints_in f h o)) b.fits)

  -- the sign and the fact of a row that the subject's case has
  fits_when :
      (r : ConstraintRow) → Case K (read_draft f h) (option.Some (row.Constraint r)) →
      (leb r.sign 1 ≡ true) × FactFits (plain_in f h) (names (read_sheet (plain_in f h))) (fact_said r)
  fits_when r q =
      let F = q.0 in
      let n = names (read_sheet (plain_in f h)) in (
        subst (λ (x : ConstraintRow). leb x.sign 1 ≡ true) q.1 (sign_low (write_fact F).positive),
        subst (λ (x : ConstraintRow). FactFits (plain_in f h) n (fact_said x)) q.1
            (subst (FactFits (plain_in f h) n) (sym (said_back (write_fact F)))
            (fact_refits (plain_in f h) good n F q.2.fits)),
      )

  by_test :
      (r : ConstraintRow) → row_in bs ≡ option.Some (row.Constraint r) → RowTold bs (option.Some (row.Constraint r)) →
      f.labels_in ≡ f.labels → f.terms_in ≡ f.terms → f.constraints_in < f.constraints → (z : Bool) →
      (leb r.sign 1 && fact_ok rows (f.labels + f.free) (fact_said r)) ≡ z →
      Exactly K f h bs
      (cond z
      (record { result = Ok tt; sheet = one_constraint f; stores = stored (fact_said r) })
      (not_added f h (IllConstraint f.constraints_in)))
  by_test r e told el et l true q =
      let p = and_parts (leb r.sign 1) (fact_ok rows (f.labels + f.free) (fact_said r)) q in
      let q' = ap (λ (n : ℕ). fact_ok rows n (fact_said r)) (names_in f h o el) ∙ p.1 in (
        orderly (fact_said r) el et l q',
        grants r el et l told p.0
            ((granted.1 (plain_in f h) good.rows_fit (names (read_sheet (plain_in f h))) (fact_said r)).0 q'),
      )
  by_test r e told el et l false q =
      refused K f h bs (option.Some (row.Constraint r)) e (IllConstraint f.constraints_in)
      (λ c.
      (let b = fits_when r c in
      both_ways (leb r.sign 1 && fact_ok rows (f.labels + f.free) (fact_said r)) q
      (and_from _ _ b.0
      (ap (λ (n : ℕ). fact_ok rows n (fact_said r)) (sym (names_in f h o el))
      ∙ (granted.1 (plain_in f h) good.rows_fit (names (read_sheet (plain_in f h))) (fact_said r)).1 b.1))))

  by_due :
      (r : ConstraintRow) → row_in bs ≡ option.Some (row.Constraint r) → RowTold bs (option.Some (row.Constraint r)) →
      f.labels_in ≡ f.labels → f.terms_in ≡ f.terms → (z : Bool) → ltb f.constraints_in f.constraints ≡ z →
      Exactly K f h bs (cond z (constraint_added f h r) (not_added f h NotDue))
  by_due r e told el et true q =
      by_test r e told el et (ltb-true _ _ q)
      (leb r.sign 1 && fact_ok rows (f.labels + f.free) (fact_said r)) refl
  by_due r e told el et false q =
      refused K f h bs (option.Some (row.Constraint r)) e NotDue
      (λ c. omega (arith, ltb-false _ _ q, c.2.due, constraints_in f h o))

  by_terms :
      (r : ConstraintRow) → row_in bs ≡ option.Some (row.Constraint r) → RowTold bs (option.Some (row.Constraint r)) →
      f.labels_in ≡ f.labels → (z : Bool) → ltb f.terms_in f.terms ≡ z →
      Exactly K f h bs
      (cond z (not_added f h NotDue)
      (cond (ltb f.constraints_in f.constraints) (constraint_added f h r) (not_added f h NotDue)))
  by_terms r e told el true q =
      refused K f h bs (option.Some (row.Constraint r)) e NotDue
      (λ c. omega (arith, ltb-true _ _ q, c.2.terms, rows_in f h o))
  by_terms r e told el false q =
      by_due r e told el (omega (arith, ltb-false _ _ q)) (ltb f.constraints_in f.constraints) refl

  pub constraint_exact :
      (r : ConstraintRow) → row_in bs ≡ option.Some (row.Constraint r) → RowTold bs (option.Some (row.Constraint r)) →
      Exactly K f h bs (row_added K f h (option.Some (row.Constraint r)))
  constraint_exact r e told = by_labels (ltb f.labels_in f.labels) refl
    where
      by_labels :
          (z : Bool) → ltb f.labels_in f.labels ≡ z →
          Exactly K f h bs
          (cond z (not_added f h NotDue)
          (cond (ltb f.terms_in f.terms) (not_added f h NotDue)
          (cond (ltb f.constraints_in f.constraints) (constraint_added f h r) (not_added f h NotDue))))
      by_labels true q =
          refused K f h bs (option.Some (row.Constraint r)) e NotDue
          (λ c. omega (arith, ltb-true _ _ q, c.2.labels, codes_in f h o))
      by_labels false q =
          by_terms r e told (omega (arith, ltb-false _ _ q)) (ltb f.terms_in f.terms) refl
