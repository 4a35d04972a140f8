-- What the check of a model answers.
use Rattle.std.specs.Prelude.{◌≡◌, ℕ, cond, List, map, length, take, Ok, Err, Result, nat_le}
use Rattle.records.specs.declared.rows.Fact.{Fact}
use Rattle.records.specs.declared.rows.TermRow.{TermRow}
use Rattle.records.specs.declared.refusal.Refusal.{Refusal}
use Rattle.records.specs.declared.refusal.Refusal.TheVariants.{TuplesOver}
use Rattle.meaning.specs.Terms.{Sheet}
use Rattle.meaning.specs.Meaning.{CodeMeaning, Interp, Satisfies}
use Rattle.meaning.specs.Model.{Listed}
use Rattle.calls.specs.Reading.{Plain, read_fact, read_sheet}
use Rattle.calls.specs.Bridge.{read_branch, Fair}
use Rattle.calls.specs.Models.{tuples_in, first_false, on_constraints, model_answer}
use Rattle.models.specs.Rows.{Ground, named_by, with_rows}

-- The answer for lawful representatives, where there is room for so many tuples.
abbrev pub judged : Sheet → Interp ℕ → ℕ → Result (Unit {0}) Refusal
judged S I most =
    cond (nat_le (tuples_in S I) most) (on_constraints (first_false S I S.constraints 0)) (Err TuplesOver)

-- The plain sheet of a check: its constraints are the first m facts of the branch.
abbrev pub sheet_of : List ℕ → ℕ → List TermRow → List Fact → ℕ → Plain
sheet_of codes free rows facts m = with_rows codes free (take m facts) rows

-- The answer for lawful representatives is that, where all is fair and the constraints are the first m facts.
abbrev pub Judged : List ℕ → List Fact → List TermRow → ℕ → ℕ → Result (Unit {0}) Refusal → Type 0
Judged rs facts rows m most r =
    (codes : List ℕ) (free : ℕ) (n : ℕ) → Ground (sheet_of codes free rows facts m) facts n rs →
    r ≡ judged (read_sheet (sheet_of codes free rows facts m))
    (named_by (sheet_of codes free rows facts m) facts rs) most

-- The answer is what the definition of models says, on every sheet and branch that are fair, for as many
-- representatives as the count says.
abbrev pub Answers : CodeMeaning → List ℕ → List TermRow → List Fact → ℕ → ℕ → ℕ → List ℕ →
    Result (Unit {0}) Refusal → Type 0
Answers K codes rows facts m names count rs r =
    (free : ℕ) → Fair (sheet_of codes free rows facts m) facts names → length rs ≡ count →
    r ≡ model_answer K (read_sheet (sheet_of codes free rows facts m))
    (read_branch (sheet_of codes free rows facts m) facts names) count rs

-- Where it is granted, the interpretation that will be listed, each name meaning what its representative
-- stands for, satisfies the sheet.
abbrev pub Satisfying : CodeMeaning → List ℕ → List TermRow → List Fact → ℕ → ℕ → ℕ → List ℕ →
    Result (Unit {0}) Refusal → Type 0
Satisfying K codes rows facts m names count rs r =
    (free : ℕ) → Fair (sheet_of codes free rows facts m) facts names → length rs ≡ count → r ≡ Ok tt →
    Satisfies (read_sheet (sheet_of codes free rows facts m))
    (Listed K (read_sheet (sheet_of codes free rows facts m)) rs (map (read_fact rows) facts))
