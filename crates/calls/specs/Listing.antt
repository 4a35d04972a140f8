-- The call list as a function: the lines of a settled trial from its numbers and stores, and what is written.
use Rattle.std.specs.Prelude.{ℕ, Bool, cond, ◌&&◌, List, [], ◌∷◌, ◌++◌, map, length, take, drop, Ok, Err, Result, ◌==◌, nat_lt}
use Rattle.std.specs.List.{flat_map}
use Rattle.records.specs.declared.rows.Fact.{Fact}
use Rattle.records.specs.declared.rows.TermRow.{TermRow}
use Rattle.records.specs.declared.refusal.Refusal.{Refusal}
use Rattle.records.specs.declared.refusal.Refusal.TheVariants.{StoresShort, BufferShort}
use Rattle.records.specs.declared.verdict.Verdict.{Verdict}
use Rattle.records.specs.declared.verdict.Verdict.TheVariants as verdict
use Rattle.rules.specs.Facts.{is_in}
use Rattle.rules.specs.Looked.{row_at}
use Rattle.meaning.specs.Model.{rep}
use Rattle.meaning.specs.Mixes.{name_lines}
use Rattle.meaning.specs.Text.{Line, closed, opened, inside, text}
use Rattle.calls.specs.Reading.{tuple_of}
use Rattle.calls.specs.Stores.{Held, enough}
use Rattle.calls.specs.Sheets.{Counts}
use Rattle.calls.specs.RuleSteps.{rows_of, branch_facts}

-- A fact that is listed: a positive member of a term that there is and that is a variable.
abbrev pub is_listed : List TermRow → Fact → Bool
is_listed rows f = is_in f && (nat_lt f.term (length rows) && (row_at rows f.term).op == 0)

-- Its line, names by representative; another fact has none.
abbrev pub fact_lines : List ℕ → List TermRow → Fact → List Line
fact_lines rs rows f =
    cond (is_listed rows f) (inside f.term (map (rep rs) (tuple_of rows f)) ∷ []) []

-- The lines of a model after g granted records: the names with their representatives, then the facts.
abbrev pub open_lines : ℕ → List ℕ → List TermRow → List Fact → List Line
open_lines g rs rows facts = opened g ∷ (name_lines rs 0 ++ flat_map (fact_lines rs rows) facts)

-- The lines by the verdict.
abbrev pub lines_by : Verdict → Counts → Held → List Line
lines_by verdict.Undecided t h = []
lines_by verdict.Closed t h = closed t.granted ∷ []
lines_by verdict.Open t h =
    open_lines t.granted (take t.names h.representatives) (rows_of t h) (branch_facts t h)

-- The lines of a trial.
abbrev pub lines_of : Counts → Held → List Line
lines_of t h = lines_by t.verdict t h

-- What list answers, and the buffer then.
pub record Written : Type 0 where
  pub result : Result ℕ Refusal
  pub buffer : List ℕ

-- Bytes that fit are written at the front of the buffer; else the length needed is named and nothing written.
abbrev pub written : List ℕ → List ℕ → Written
written out bs =
    cond (nat_lt (length out) (length bs)) (record { result = Err (BufferShort (length bs)); buffer = out })
    (record { result = Ok (length bs); buffer = bs ++ drop (length bs) out })

-- The call list, for a settled trial.
abbrev pub list_of : Counts → Held → List ℕ → Written
list_of t h out =
    cond (enough h) (written out (text (lines_of t h))) (record { result = Err StoresShort; buffer = out })
