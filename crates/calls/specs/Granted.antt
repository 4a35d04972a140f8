-- A row passes its tests exactly where it fits, and a sheet whose rows passed as they came is fair.
use Rattle.std.specs.Prelude.{◌≡◌, ℕ, ◌≤◌, true, ◌↔◌, List, ◌++◌, length, take}
use Rattle.std.proofs.Math.Option.{some}
use Rattle.std.specs.List.{AllByRecursion}
use Rattle.std.proofs.Math.ListN.{get_elem?}
use Rattle.records.specs.declared.rows.Fact.{Fact as FactRow}
use Rattle.records.specs.declared.rows.TermRow.{TermRow}
use Rattle.meaning.specs.Terms.{Op, Row, names, OpFits}
use Rattle.calls.specs.Reading.{Plain, read_sheet, RowFits, RowsFit, FactFits}
use Rattle.calls.specs.Bridge.{Fair}
use Rattle.calls.specs.Tests.{row_ok, fact_ok}

-- A term row passes exactly where it fits; its number is at most that of the rows that are in.
abbrev pub RowGranted : Type 0
RowGranted =
    (P : Plain) (t : ℕ) (r : TermRow) → t ≤ length P.rows →
    (row_ok P.rows (names (read_sheet P)) t r ≡ true) ↔ RowFits P t r

-- Over rows that fit, a constraint passes exactly where it fits.
abbrev pub FactGranted : Type 0
FactGranted =
    (P : Plain) → RowsFit P → (n : ℕ) (f : FactRow) →
    (fact_ok P.rows n f ≡ true) ↔ FactFits P n f

-- The test of row t over the rows before it is the test over all rows.
abbrev pub RowStays : Type 0
RowStays =
    (rows more : List TermRow) (n t : ℕ) (r : TermRow) → t ≤ length rows →
    row_ok (rows ++ more) n t r ≡ row_ok rows n t r

-- What an operation asks, it has over more rows too.
abbrev pub OpStays : Type 0
OpStays =
    (rs more : List Row) (n t k : ℕ) (o : Op) → OpFits rs n t k o → OpFits (rs ++ more) n t k o

-- Each term row passed over the rows before it, and each constraint over all rows.
pub record Passed (P : Plain) : Type 0 where
  pub rows :
      (t : ℕ) (r : TermRow) → get_elem? P.rows t ≡ some r →
      row_ok (take t P.rows) (names (read_sheet P)) t r ≡ true
  pub constraints : AllByRecursion (λ (f : FactRow). fact_ok P.rows (names (read_sheet P)) f ≡ true) P.constraints

-- That is exactly a good sheet whose constraints are a branch that fits.
abbrev pub SheetGranted : Type 0
SheetGranted = (P : Plain) → Passed P ↔ Fair P P.constraints (names (read_sheet P))

-- All of these.
abbrev pub Granted : Type 0
Granted = RowGranted × FactGranted × RowStays × OpStays × SheetGranted
