-- The law of verdicts: what CLOSED and OPEN say about the sheet, whatever calls were made.
use Rattle.std.specs.Prelude.{◌≡◌, ℕ, ◌⊎◌, List, ◌≢◌}
use Rattle.std.proofs.Math.Option.{some}
use Rattle.meaning.specs.Terms.{Sheet}
use Rattle.meaning.specs.Meaning.{CodeMeaning, Thing, Interp, Reads, Satisfies, Satisfiable}
use Rattle.meaning.specs.Model.{Alike}
use Rattle.meaning.specs.Text.{Line, text}
use Rattle.meaning.specs.Reading.{read_lines}
use Rattle.meaning.specs.Mixes.{Header, Made, fresh, CLOSED, OPEN, Trial, listing, Tells}
use Rattle.meaning.specs.Mixes.{Stage, filling, trying, settled, Call, Mix}

-- The trial T is where a mix of calls ends, settled or not, that follows a granted make under the meaning K
-- of codes. The kind's letter, the records and the calls are any.
pub record Reaches (K : CodeMeaning) (T : Trial) : Type 0 where
  pub letter : ℕ
  pub bytes : List ℕ
  pub header : Header
  pub made : Made letter bytes header
  pub calls : List Call
  pub stage : Stage
  pub mix : Mix K (filling (fresh header)) calls stage
  pub ends : (stage ≡ trying T) ⊎ (stage ≡ settled T)

-- CLOSED: no interpretation of the sheet satisfies it.
abbrev pub ClosedIsTrue : Type 0
ClosedIsTrue =
    (K : CodeMeaning) (T : Trial) → Reaches K T → T.verdict ≡ CLOSED → ¬ (Satisfiable K T.sheet)

-- The lines tell an interpretation, and each that they tell is one of the sheet under K and satisfies it.
pub record Truthful (K : CodeMeaning) (S : Sheet) (ls : List Line) : Type 0 where
  pub some_told : (I : Interp Thing) × Tells K S ls I
  pub all_told : (I : Interp Thing) → Tells K S ls I → Reads K S I × Satisfies S I

-- OPEN: the bytes of the listing are read back as lines that are truthful.
abbrev pub OpenIsTrue : Type 0
OpenIsTrue =
    (K : CodeMeaning) (T : Trial) → Reaches K T → (rs : List ℕ) → T.verdict ≡ OPEN rs →
    (ls : List Line) × (read_lines (text (listing T)) ≡ some ls) × Truthful K T.sheet ls

-- Two sheets with the same labels, terms and constraints; the free names may differ.
pub record SameRows (S S' : Sheet) : Type 0 where
  pub codes : S.codes ≡ S'.codes
  pub rows : S.rows ≡ S'.rows
  pub constraints : S.constraints ≡ S'.constraints

-- The same rows under two meanings that agree on which of these rows' labels are the same: they are not
-- CLOSED under the one and OPEN under the other, whatever the calls.
abbrev pub VerdictsAgree : Type 0
VerdictsAgree =
    (K K' : CodeMeaning) (T T' : Trial) → Reaches K T → Reaches K' T' →
    SameRows T.sheet T'.sheet → Alike K K' T.sheet →
    T.verdict ≡ CLOSED → (rs : List ℕ) → T'.verdict ≢ OPEN rs

-- The law of verdicts, its three parts together.
abbrev pub LawOfVerdicts : Type 0
LawOfVerdicts = ClosedIsTrue × OpenIsTrue × VerdictsAgree
