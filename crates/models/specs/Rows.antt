-- What each term row holds, as tuples of representatives, from what its operands hold; and what the values of the
-- terms are.
use Rattle.std.specs.Prelude.{◌≡◌, ℕ, ◌<◌, ◌≤◌, cond, ◌&&◌, List, [], map, length, take, Some, None, Option, ◌==◌, slice_index_or, sum_by}
use Rattle.records.specs.declared.rows.Fact.{Fact}
use Rattle.records.specs.declared.rows.TermRow.{TermRow}
use Rattle.rules.specs.Looked.{row_at}
use Rattle.meaning.specs.Meaning.{Interp, Value}
use Rattle.meaning.specs.Model.{rep, Named}
use Rattle.calls.specs.Reading.{Plain, read_fact, read_sheet}
use Rattle.calls.specs.Bridge.{Fair}
use Rattle.calls.specs.Models.{tuples_below, tuples_in}
use Rattle.values.specs.Sets.{In, Apart}
use Rattle.values.specs.Tuples.{turning, following, joining, linked}
use Rattle.values.specs.Gathers.{Either, Both, Without, Made, Paired, Reach}
use Rattle.records.specs.declared.tuple.Tuple.{Tuple}
use Rattle.models.specs.Tuples.{Shows, by_names}
use Rattle.records.specs.declared.kinds.Operation.{Operation}
use Rattle.records.specs.declared.kinds.Operation.TheVariants.{
  Variable,
  Empty,
  Single,
  Union,
  Intersection,
  Difference,
  Transpose,
  Product,
  Join,
  Closure,
}

-- The operation with this number; closure for all past 8.
abbrev pub operation_of : ℕ → Operation
operation_of n =
    cond (n == 0) Variable
    (cond (n == 1) Empty
    (cond (n == 2) Single
    (cond (n == 3) Union
    (cond (n == 4) Intersection
    (cond (n == 5) Difference
    (cond (n == 6) Transpose
    (cond (n == 7) Product
    (cond (n == 8) Join Closure))))))))

-- The tuple of a fact, names by their representatives.
abbrev pub fact_tuple : List ℕ → Fact → Tuple
fact_tuple rs f = by_names rs f.a f.b f.c f.d

-- The tuple of a singleton's row.
abbrev pub row_tuple : List ℕ → TermRow → Tuple
row_tuple rs w = by_names rs w.a w.b w.c w.d

-- The tuple that a fact puts into variable k: only a positive fact of form 1 on it does.
abbrev pub offered : List ℕ → ℕ → Fact → Option Tuple
offered rs k f =
    cond (f.form == 1 && (f.positive && f.term == k)) (Some (fact_tuple rs f)) None

-- What row k holds: p is the arity of its first operand, S and R are what its operands hold.
abbrev pub RowHolds : Operation → List ℕ → List Fact → TermRow → ℕ → ℕ → (Tuple → Type 0) →
    (Tuple → Type 0) → Tuple → Type 0
RowHolds Variable rs facts w k p S R t = (f : Fact) × In facts f × (offered rs k f ≡ Some t)
RowHolds Empty rs facts w k p S R t = ⊥
RowHolds Single rs facts w k p S R t = row_tuple rs w ≡ t
RowHolds Union rs facts w k p S R t = Either S R t
RowHolds Intersection rs facts w k p S R t = Both S R t
RowHolds Difference rs facts w k p S R t = Without S R t
RowHolds Transpose rs facts w k p S R t = Made (turning w.arity) S t
RowHolds Product rs facts w k p S R t = Paired (following p) S R t
RowHolds Join rs facts w k p S R t = Paired (joining p) S R t
RowHolds Closure rs facts w k p S R t = Reach linked S t

-- What term j holds, where these are the terms' values in order: nothing if there is none.
abbrev pub value_of : List (List Tuple) → ℕ → List Tuple
value_of vs j = slice_index_or vs j []

-- How many tuples the first k values have together.
abbrev pub total : List (List Tuple) → ℕ → ℕ
total vs k = sum_by length (take k vs)

-- What the meaning of values rests on: a fair sheet and branch, and representatives that keep name 0, as all
-- lawful ones do, so that unused bytes stay zero.
pub record Ground (P : Plain) (facts : List Fact) (n : ℕ) (rs : List ℕ) : Type 0 where
  pub fair : Fair P facts n
  pub zero_kept : rep rs 0 ≡ 0

-- The interpretation over representatives.
abbrev pub named_by : Plain → List Fact → List ℕ → Interp ℕ
named_by P facts rs = Named (read_sheet P) rs (map (read_fact P.rows) facts)

-- The first k values are those of the first k terms: each tuple once, and so many as these have together.
pub record Upto (P : Plain) (facts : List Fact) (rs : List ℕ) (k : ℕ) (vs : List (List Tuple)) : Type 0 where
  pub once : (j : ℕ) → j < k → Apart (value_of vs j)
  pub each : (j : ℕ) → j < k →
      Shows (row_at P.rows j).arity (In (value_of vs j)) (Value (read_sheet P).rows (named_by P facts rs) j)
  pub counted : tuples_below (read_sheet P) (named_by P facts rs) k ≡ total vs k

-- The plain sheet with these rows.
abbrev pub with_rows : List ℕ → ℕ → List Fact → List TermRow → Plain
with_rows codes free constraints rows =
    record { codes = codes; free = free; rows = rows; constraints = constraints }

-- Where all is fair, whatever else the sheet has, Q holds of it.
abbrev pub Fairly : List ℕ → List Fact → List TermRow → (Plain → Type 0) → Type 0
Fairly rs facts rows Q =
    (codes : List ℕ) (free : ℕ) (constraints : List Fact) (n : ℕ) →
    Ground (with_rows codes free constraints rows) facts n rs → Q (with_rows codes free constraints rows)

-- Where all is fair, the first k values are what the terms mean.
abbrev pub Valued : List ℕ → List Fact → List TermRow → ℕ → List (List Tuple) → Type 0
Valued rs facts rows k vs = Fairly rs facts rows (λ P. Upto P facts rs k vs)

-- What evaluation in so many slots answers: these are all values, and there was room for them; or, where all is fair,
-- they have more tuples than there are slots.
abbrev pub Evaluated : List ℕ → List Fact → List TermRow → ℕ → List (List Tuple) → Option (Unit {0}) → Type 0
Evaluated rs facts rows room vs (Some _) = Valued rs facts rows (length rows) vs × (total vs (length rows) ≤ room)
Evaluated rs facts rows room vs None =
    Fairly rs facts rows (λ P. room < tuples_in (read_sheet P) (named_by P facts rs))
