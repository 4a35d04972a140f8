-- Rows are granted exactly where they fit, and a sheet whose rows passed as they came is fair (`granted`).
use Rattle.std.proofs.Common.{◌≡◌, ℕ, ◌<◌, List, [], ◌∷◌, map, length, take, drop, sym, ap, ◌∙◌, arith, take-append-drop, length-take}
use Rattle.std.specs.List.{AllByRecursion}
use Rattle.std.proofs.ByRecursion.{All-weaker}
use Rattle.records.specs.declared.rows.Fact.{Fact as FactRow}
use Rattle.records.specs.declared.rows.TermRow.{TermRow}
use Rattle.meaning.specs.Terms.{Fact, names, FormFits}
use Rattle.calls.specs.Reading.{Plain, read_sheet, read_fact, RowsFit, FactFits}
use Rattle.calls.specs.Bridge.{Fair}
use Rattle.calls.specs.Tests.{row_ok}
use Rattle.calls.specs.Granted.{Passed, Granted}
use Rattle.calls.proofs.Lookups.{below}
use Rattle.calls.proofs.Tested.{row_fits, fact_fits}
use Rattle.calls.proofs.Exact.{row_passes, fact_passes}
use Rattle.calls.proofs.Stays.{row_stays, op_stays}

-- the test of row t over the rows before it, and over all
as_it_came :
    (rows : List TermRow) (n t : ℕ) (r : TermRow) → t < length rows → row_ok rows n t r ≡ row_ok (take t rows)
    n t r
as_it_came rows n t r l =
    ap (λ (x : List TermRow). row_ok x n t r) (sym (take-append-drop t rows))
    ∙ row_stays (take t rows) (drop t rows) n t r (omega (arith, length-take t rows))

-- the constraints read fit where the rows do
forms_fit :
    (P : Plain) (n : ℕ) (fs : List FactRow) → AllByRecursion (FactFits P n) fs →
    AllByRecursion (λ (c : Fact). FormFits (read_sheet P).rows n c.form) (map (read_fact P.rows) fs)
forms_fit P n [] h = tt
forms_fit P n (f ∷ fs) h = (h.0.fits, forms_fit P n fs h.1)

fair_when : (P : Plain) → Passed P → Fair P P.constraints (names (read_sheet P))
fair_when P h =
    let n = names (read_sheet P) in
    let fits : RowsFit P =
    λ t r e.
    (let l = below P.rows t r e in
    row_fits P t r (omega arith) (as_it_came P.rows (names (read_sheet P)) t r l ∙ h.rows t r e)) in
    let facts = All-weaker _ (FactFits P n) (fact_fits P fits n) P.constraints h.constraints in
    record {
      sheet = record { rows_fit = fits; constraints_fit = forms_fit P n P.constraints facts };
      named = omega arith;
      facts_fit = facts;
    }

when_fair : (P : Plain) → Fair P P.constraints (names (read_sheet P)) → Passed P
when_fair P h =
    record {
      rows =
          λ t r e.
          (let l = below P.rows t r e in
          sym (as_it_came P.rows (names (read_sheet P)) t r l) ∙ row_passes P t r
          (h.sheet.rows_fit t r e));
      constraints = All-weaker _ _ (fact_passes P (names (read_sheet P))) P.constraints h.facts_fit;
    }

pub granted : Granted
granted = (
  λ P t r l. (row_fits P t r l, row_passes P t r),
  λ P fits n f. (fact_fits P fits n f, fact_passes P n f),
  row_stays,
  op_stays,
  λ P. (fair_when P, when_fair P),
)
