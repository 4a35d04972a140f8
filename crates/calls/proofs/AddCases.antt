-- What the subject asks of a row that it grants, by how the code reads the row (`case_of`).
use Rattle.std.proofs.Common.{◌≡◌, ℕ, ◌<◌, ◌≤◌, true, List, length, sym, refl, ap, subst}
use mathlib.Core.Option.{Option}
use Rattle.records.specs.declared.refusal.Refusal.{Refusal}
use Rattle.std.specs.declared.option.Option.TheVariants as option
use Rattle.records.specs.declared.record.RowRecord.TheVariants as row
use Rattle.records.specs.Reading.{RowRead, row_in}
use Rattle.labels.specs.Kinds.{has_value, known_by}
use Rattle.meaning.specs.Terms.{Row, Fact, names, OpFits, FormFits}
use Rattle.meaning.specs.Mixes.{Draft, Stage, filling, Grants, label_row, term_row, constraint_row}
use Rattle.meaning.specs.Mixes as subject
use Rattle.calls.specs.Reading.{write_row, write_fact}
use Rattle.calls.specs.Stores.{Held}
use Rattle.calls.specs.Sheets.{Filling, Added, not_added}
use Rattle.calls.specs.Views.{read_draft}
use Rattle.calls.specs.Exact.{AddExact}
use Rattle.calls.proofs.RowBytes.{row_read}
use Rattle.calls.proofs.FactBytes.{said_by, fact_read}

-- What is asked of a term row.
pub record TermCase (D : Draft) (R : Row) : Type 0 where
  pub labels : length D.sheet.codes ≡ D.labels
  pub due : length D.sheet.rows < D.terms
  pub low : 1 ≤ R.arity
  pub high : R.arity ≤ 4
  pub fits : OpFits D.sheet.rows (names D.sheet) (length D.sheet.rows) R.arity R.op

-- What is asked of a constraint row.
pub record ConstraintCase (D : Draft) (F : Fact) : Type 0 where
  pub labels : length D.sheet.codes ≡ D.labels
  pub terms : length D.sheet.rows ≡ D.terms
  pub due : length D.sheet.constraints < D.constraints
  pub fits : FormFits D.sheet.rows (names D.sheet) F.form

-- What is asked, by the row that was read.
abbrev pub Case : (ℕ → Option ℕ) → Draft → RowRead → Type 0
Case K D (option.Some (row.Label c)) = (length D.sheet.codes < D.labels) × (known_by K c ≡ true)
Case K D (option.Some (row.Term r)) = (R : Row) × (write_row R ≡ r) × TermCase D R
Case K D (option.Some (row.Constraint r)) = (F : Fact) × (said_by (write_fact F) ≡ r) × ConstraintCase D F
Case K D option.None = ⊥

pub case_of :
    (K : ℕ → Option ℕ) (D : Draft) (bs : List ℕ) (st : Stage) → Grants K (filling D) (subject.add bs) st →
    Case K D (row_in bs)
case_of K D bs st (label_row a b c d l e) = (l, ap has_value e)
case_of K D bs st (term_row R l t low high b) =
    subst (Case K D) (sym (row_read R))
    (R, refl, record { labels = l; due = t; low = low; high = high; fits = b })
case_of K D bs st (constraint_row F l t c b) =
    subst (Case K D) (sym (fact_read F)) (F, refl, record { labels = l; terms = t; due = c; fits = b })

-- what add left is exact
abbrev pub Exactly : (ℕ → Option ℕ) → Filling → Held → List ℕ → Added → Type 0
Exactly K f h bs a = AddExact K f h bs a.sheet a.stores a.result

-- a row that is refused where the subject's case has no proof
pub refused :
    (K : ℕ → Option ℕ) (f : Filling) (h : Held) (bs : List ℕ) (x : RowRead) → row_in bs ≡ x → (e : Refusal) →
    (Case K (read_draft f h) x → ⊥) → Exactly K f h bs (not_added f h e)
refused K f h bs x q e never =
    (refl, refl, λ st g. never (subst (Case K (read_draft f h)) q (case_of K (read_draft f h) bs st g)))
