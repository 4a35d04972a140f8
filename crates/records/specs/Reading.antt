-- How the bytes of a record are read: two mark bytes, the fields, and a model's bytes after its count.
use Rattle.std.specs.Prelude.{ℕ, ◌+◌, ◌*◌, Bool, cond, ◌&&◌, List, length, drop, Some, None, Option, ◌==◌, nat_le, slice_index}
use Rattle.records.specs.declared.rows.Header.{Header}
use Rattle.records.specs.declared.rows.TermRow.{TermRow}
use Rattle.records.specs.declared.rows.ConstraintRow.{ConstraintRow}
use Rattle.records.specs.declared.rows.Fact.{Fact}
use Rattle.records.specs.declared.rows.Step.{Step}
use Rattle.records.specs.declared.record.RowRecord.{RowRecord}
use Rattle.records.specs.declared.record.RowRecord.TheVariants as row
use Rattle.records.specs.declared.record.StepRecord.{StepRecord}
use Rattle.records.specs.declared.record.StepRecord.TheVariants as code

-- what the record of a step says
pub data Move : Type 0 where
  rule : Step → Move
  model : ℕ → List ℕ → Move
  other : Move

-- the code's own answer, with the bytes that it borrows
abbrev pub seen : Option StepRecord → Move
seen (Some (code.Rule s)) = rule s
seen (Some (code.Model n r)) = model n r.now
seen None = other

-- byte i of a record
abbrev pub byte : List ℕ → ℕ → ℕ
byte bs i = slice_index bs i

-- the record begins with these two letters
abbrev pub marked : ℕ → ℕ → List ℕ → Bool
marked x y bs = byte bs 0 == x && byte bs 1 == y

-- the record has these letters and this length
abbrev pub whole : ℕ → ℕ → ℕ → List ℕ → Bool
whole n x y bs = length bs == n && marked x y bs

-- a code from its four bytes, highest first
abbrev pub code_from : ℕ → ℕ → ℕ → ℕ → ℕ
code_from a b c d = ((a * 256 + b) * 256 + c) * 256 + d

-- the fields of each record, by their places
abbrev pub header_of : List ℕ → Header
header_of bs =
    record {
      letter = byte bs 2;
      labels = byte bs 3;
      free = byte bs 4;
      terms = byte bs 5;
      constraints = byte bs 6;
    }

abbrev pub code_of : List ℕ → ℕ
code_of bs = code_from (byte bs 2) (byte bs 3) (byte bs 4) (byte bs 5)

abbrev pub term_of : List ℕ → TermRow
term_of bs =
    record { op = byte bs 2; arity = byte bs 3; a = byte bs 4; b = byte bs 5; c = byte bs 6; d = byte bs 7 }

abbrev pub constraint_of : List ℕ → ConstraintRow
constraint_of bs =
    record {
      form = byte bs 2;
      sign = byte bs 3;
      term = byte bs 4;
      a = byte bs 5;
      b = byte bs 6;
      c = byte bs 7;
      d = byte bs 8;
    }

abbrev pub step_of : List ℕ → Step
step_of bs =
    record {
      rule = byte bs 2;
      p = byte bs 3 * 256 + byte bs 4;
      q = byte bs 5 * 256 + byte bs 6;
      t = byte bs 7;
      w = byte bs 8;
    }

-- SH with 7 bytes is a header
abbrev pub header_in : List ℕ → Option Header
header_in bs = cond (whole 7 83 72 bs) (Some (header_of bs)) None

-- what reading a row gives: nothing where the bytes are none
abbrev pub RowRead : Type 0
RowRead = Option RowRecord

-- LB with 6 bytes, TM with 8 and CN with 9 are rows
abbrev pub row_in : List ℕ → RowRead
row_in bs =
    cond (whole 6 76 66 bs) (Some (row.Label (code_of bs)))
    (cond (whole 8 84 77 bs) (Some (row.Term (term_of bs)))
    (cond (whole 9 67 78 bs) (Some (row.Constraint (constraint_of bs))) None))

-- ST with 9 bytes is a step by a rule, MD with 3 or more is a model: its count, and what comes after
abbrev pub step_in : List ℕ → Move
step_in bs =
    cond (whole 9 83 84 bs) (rule (step_of bs))
    (cond (nat_le 3 (length bs) && marked 77 68 bs) (model (byte bs 2) (drop 3 bs)) other)

-- the fact that a constraint row says, where its sign is 0 or 1.
abbrev pub fact_said : ConstraintRow → Fact
fact_said r = record {
  form = r.form;
  positive = (r.sign == 1);
  term = r.term;
  a = r.a;
  b = r.b;
  c = r.c;
  d = r.d;
}
