-- A term row is granted exactly as the subject has it (`term_exact`).
use Rattle.std.proofs.Common.{◌≡◌, ℕ, ◌+◌, ◌<◌, ◌≤◌, Bool, true, false, cond, ltb, ◌⊎◌, List, [], ◌∷◌, ◌++◌, map, length, take, set, Ok, sym, refl, ap, ◌∙◌, subst, inl, inr, arith, ltb-false, ltb-true}
use mathlib.Core.Option.{Option, some}
use borrow.Author.Tests.{both_ways}
use lib.ListN.{get_elem?}
use Rattle.std.proofs.lemmas.List.{map_push, take_more_set, take_at, take-append-le}
use Rattle.records.specs.declared.rows.TermRow.{TermRow}
use Rattle.records.specs.declared.refusal.Refusal.TheVariants.{NotDue, IllTerm}
use Rattle.std.specs.declared.option.Option.TheVariants as option
use Rattle.records.specs.declared.record.RowRecord.TheVariants as row
use Rattle.records.specs.Reading.{row_in}
use Rattle.meaning.specs.Terms.{names}
use Rattle.meaning.specs.Mixes.{Draft, drafted, with_row, filling, Grants, term_row}
use Rattle.meaning.specs.Mixes as subject
use Rattle.calls.specs.Reading.{read_row, read_fact, read_sheet, RowFits}
use Rattle.calls.specs.Tests.{row_ok}
use Rattle.calls.specs.Granted.{Passed}
use Rattle.calls.specs.Stores.{Held, with_terms}
use Rattle.calls.specs.Sheets.{Filling, one_term, term_added, row_added, not_added}
use Rattle.calls.specs.Views.{Orderly, plain_in, read_draft}
use Rattle.calls.proofs.Lookups.{below}
use Rattle.calls.proofs.Bytes.{RowTold, term_bytes}
use Rattle.calls.proofs.RowBytes.{row_written, row_refits}
use Rattle.meaning.proofs.Lookups.{last_or_before}
use Rattle.calls.proofs.Enough.{term_kept}
use Rattle.calls.proofs.Filled.{codes_in, rows_in, plain_rows, names_in, no_constraints}
use Rattle.calls.proofs.Granted.{granted}
use Rattle.calls.proofs.AddCases.{Case, Exactly, refused}

-- rows that passed as they came, and one more over them
rows_more :
    (rows : List TermRow) (r : TermRow) (n : ℕ) →
    ((t : ℕ) (x : TermRow) → get_elem? rows t ≡ some x → row_ok (take t rows) n t x ≡ true) →
    row_ok rows n (length rows) r ≡ true →
    (t : ℕ) (x : TermRow) → get_elem? (rows ++ (r ∷ [])) t ≡ some x →
    row_ok (take t (rows ++ (r ∷ []))) n t x ≡ true
rows_more rows r n old new t x e = go (last_or_before rows r t x e)
  where
    go :
        (get_elem? rows t ≡ some x) ⊎ ((t ≡ length rows) × (r ≡ x)) →
        row_ok (take t (rows ++ (r ∷ []))) n t x ≡ true
    go (inl p) =
        let l = below rows t x p in
        ap (λ (l : List TermRow). row_ok l n t x) (take-append-le t rows (r ∷ []) (omega arith)) ∙ old t x p
    go (inr p) =
        let et = p.0 in
        let ex = p.1 in
        ap (λ (l : List TermRow). row_ok l n t x) (take_at rows (r ∷ []) t (sym et))
        ∙ (λ i. row_ok rows n (et i) (sym ex i))
        ∙ new

module _ (K : ℕ → Option ℕ) (f : Filling) (h : Held) (o : Orderly f h) (bs : List ℕ) where
  -- the rows before it
  abbrev before : List TermRow
  before = take f.terms_in h.terms

  -- the stores with the term
  abbrev stored : TermRow → Held
  stored r = with_terms h (set h.terms f.terms_in r)

  more : (r : TermRow) → f.terms_in < f.terms → take (f.terms_in + 1) (stored r).terms ≡ before ++ (r ∷ [])
  more r l =
      take_more_set h.terms f.terms_in r (omega arith)

  -- there are no constraints yet, so that none is read anew
  none_yet : f.terms_in < f.terms → take f.constraints_in h.facts ≡ []
  none_yet l = ap (λ (k : ℕ). take k h.facts) (no_constraints f h o l)

  read_none :
      f.terms_in < f.terms → (rows rows' : List TermRow) →
      map (read_fact rows) (take f.constraints_in h.facts)
      ≡ map (read_fact rows') (take f.constraints_in h.facts)
  read_none l rows rows' = ap (map (read_fact rows)) (none_yet l) ∙ sym (ap (map (read_fact rows')) (none_yet l))

  -- the draft has one row more
  draft_is :
      (r : TermRow) → f.terms_in < f.terms →
      drafted (read_draft f h) (with_row (read_draft f h).sheet (read_row r)) ≡ read_draft (one_term f) (stored r)
  draft_is r l =
      cc (
        ap (map read_row) (more r l),
        map_push read_row before r,
        read_none l before (take (f.terms_in + 1) (stored r).terms),
      )

  -- each row passed as it came
  passed :
      (r : TermRow) → f.terms_in < f.terms →
      row_ok before (names (read_sheet (plain_in f h))) f.terms_in r ≡ true →
      Passed (plain_in (one_term f) (stored r))
  passed r l e =
      subst Passed
      (λ i.
      record {
        codes = take f.labels_in h.labels;
        free = f.free;
        rows = sym (more r l) i;
        constraints = sym (none_yet l) i;
      })
      (record {
        rows =
            rows_more before r (names (read_sheet (plain_in f h))) o.passed.rows
            (ap (λ (t : ℕ). row_ok before (names (read_sheet (plain_in f h))) t r) (plain_rows f h o) ∙ e);
        constraints = tt;
      })

  orderly :
      (r : TermRow) → f.labels_in ≡ f.labels → f.terms_in < f.terms →
      row_ok before (names (read_sheet (plain_in f h))) f.terms_in r ≡ true → Orderly (one_term f) (stored r)
  orderly r el l e =
      let ec = no_constraints f h o l in
      search (arith, term_kept h f.terms_in r o.enough, passed r l e)

  -- the subject grants it
  grants :
      (r : TermRow) → f.labels_in ≡ f.labels → f.terms_in < f.terms → RowTold bs (option.Some (row.Term r)) →
      RowFits (plain_in f h) f.terms_in r →
      Grants K (filling (read_draft f h)) (subject.add bs) (filling (read_draft (one_term f) (stored r)))
  grants r el l told b =
      rw (
        ← row_written (read_row r) (told ∙ ap (λ (x : TermRow). 84 ∷ 77 ∷ term_bytes x) (sym b.written)),
        ← draft_is r l,
      )
      (term_row {D = read_draft f h} (read_row r) (codes_in f h o ∙ el) (omega (arith, rows_in f h o)) b.low b.high
      (rw (rows_in f h o) b.fits))

  -- a row that fits is one that the subject's case has
  fits_when :
      (r : TermRow) → Case K (read_draft f h) (option.Some (row.Term r)) → RowFits (plain_in f h) f.terms_in r
  fits_when r q =
      let R = q.0 in
      let c = q.2 in
      subst (RowFits (plain_in f h) f.terms_in) q.1
      (row_refits (plain_in f h) f.terms_in R c.low c.high (rw (rows_in f h o) at c.fits))

  -- the rows that are in are as many as asked
  short : f.terms_in ≤ length before
  short = let e = plain_rows f h o in omega arith

  by_test :
      (r : TermRow) → row_in bs ≡ option.Some (row.Term r) → RowTold bs (option.Some (row.Term r)) → f.labels_in ≡ f.labels →
      f.terms_in < f.terms → (z : Bool) → row_ok before (f.labels + f.free) f.terms_in r ≡ z →
      Exactly K f h bs
      (cond z (record { result = Ok tt; sheet = one_term f; stores = stored r })
      (not_added f h (IllTerm f.terms_in)))
  by_test r e told el l true q =
      let q' = ap (λ (n : ℕ). row_ok before n f.terms_in r) (names_in f h o el) ∙ q in
      (orderly r el l q', grants r el l told ((granted.0 (plain_in f h) f.terms_in r short).0 q'))
  by_test r e told el l false q =
      refused K f h bs (option.Some (row.Term r)) e (IllTerm f.terms_in)
      (λ c.
      both_ways (row_ok before (f.labels + f.free) f.terms_in r) q
      (ap (λ (n : ℕ). row_ok before n f.terms_in r) (sym (names_in f h o el))
      ∙ (granted.0 (plain_in f h) f.terms_in r short).1 (fits_when r c)))

  by_due :
      (r : TermRow) → row_in bs ≡ option.Some (row.Term r) → RowTold bs (option.Some (row.Term r)) → f.labels_in ≡ f.labels → (z : Bool) →
      ltb f.terms_in f.terms ≡ z → Exactly K f h bs (cond z (term_added f h r) (not_added f h NotDue))
  by_due r e told el true q =
      by_test r e told el (ltb-true _ _ q) (row_ok before (f.labels + f.free) f.terms_in r) refl
  by_due r e told el false q =
      refused K f h bs (option.Some (row.Term r)) e NotDue
      (λ c. omega (arith, ltb-false _ _ q, c.2.due, rows_in f h o))

  pub term_exact :
      (r : TermRow) → row_in bs ≡ option.Some (row.Term r) → RowTold bs (option.Some (row.Term r)) →
      Exactly K f h bs (row_added K f h (option.Some (row.Term r)))
  term_exact r e told = by_labels (ltb f.labels_in f.labels) refl
    where
      by_labels :
          (z : Bool) → ltb f.labels_in f.labels ≡ z →
          Exactly K f h bs
          (cond z (not_added f h NotDue)
          (cond (ltb f.terms_in f.terms) (term_added f h r) (not_added f h NotDue)))
      by_labels true q =
          refused K f h bs (option.Some (row.Term r)) e NotDue
          (λ c. omega (arith, ltb-true _ _ q, c.2.labels, codes_in f h o))
      by_labels false q =
          by_due r e told (omega (arith, ltb-false _ _ q)) (ltb f.terms_in f.terms) refl
