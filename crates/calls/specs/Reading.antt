-- The plain records read as rows and facts of the calculus, and written back.
use Rattle.std.specs.Prelude.{◌≡◌, ℕ, ◌≤◌, Bool, cond, List, [], ◌∷◌, map, take, ◌==◌, slice_index}
use Rattle.std.proofs.Math.Option.{some}
use Rattle.std.specs.List.{AllByRecursion}
use Rattle.std.proofs.Math.ListN.{get_elem?}
use Rattle.records.specs.declared.rows.Fact.{Fact as FactRow}
use Rattle.records.specs.declared.rows.TermRow.{TermRow}
use Rattle.records.specs.declared.tuple.Tuple.{Tuple}
use Rattle.rules.specs.declared.cited.Alt.{Alt as AltRow}
use Rattle.records.specs.Tuples as tuple
use Rattle.rules.specs.declared.cited.Facts.{Facts}
use Rattle.rules.specs.declared.cited.Facts.TheVariants as facts
use Rattle.rules.specs.Facts.{in_fact, eq_fact, same_fact}
use Rattle.rules.specs.Rules.{facts_of}
use Rattle.rules.specs.Looked.{row_at}
use Rattle.meaning.specs.Terms.{Op, variable, empty, single, union, inter, diff, transp, prod, join, closure}
use Rattle.meaning.specs.Terms.{Row, Form, member, equal, same, Fact, Sheet, names, OpFits, FormFits}
use Rattle.meaning.specs.Calculus.{Alt}

-- ── reading ────────────────────────────────────────────────────────────────

-- The operation with the number k; x and y are its operands, v is a singleton's tuple. A number past 9 is
-- read as closure too, but closure is not written with it, so no such row fits.
abbrev pub op_of : ℕ → ℕ → ℕ → List ℕ → Op
op_of k x y v =
    cond (k == 0) variable
    (cond (k == 1) empty
    (cond (k == 2) (single v)
    (cond (k == 3) (union x y)
    (cond (k == 4) (inter x y)
    (cond (k == 5) (diff x y)
    (cond (k == 6) (transp x)
    (cond (k == 7) (prod x y)
    (cond (k == 8) (join x y) (closure x)))))))))

-- The list of four numbers.
abbrev pub four : ℕ → ℕ → ℕ → ℕ → List ℕ
four x y z v = x ∷ y ∷ z ∷ v ∷ []

-- A term row, read.
abbrev pub read_row : TermRow → Row
read_row r =
    record {
      op = op_of r.op r.a r.b (take r.arity (four r.a r.b r.c r.d));
      arity = r.arity;
    }

-- The tuple of a fact of form 1 is as long as the arity of its term.
abbrev pub tuple_of : List TermRow → FactRow → List ℕ
tuple_of rows f = take (row_at rows f.term).arity (four f.a f.b f.c f.d)

-- What a fact says, its sign apart, by its form: 1 a member, 2 equal names, 3 equal terms.
abbrev pub read_form : List TermRow → FactRow → Form
read_form rows f =
    cond (f.form == 1) (member (tuple_of rows f) f.term)
    (cond (f.form == 2) (equal f.a f.b) (same f.term f.a))

-- A fact, read.
abbrev pub read_fact : List TermRow → FactRow → Fact
read_fact rows f = record { sign = f.positive; form = read_form rows f }

-- ── writing ────────────────────────────────────────────────────────────────

-- A tuple of up to four names in four fields; the others are zero.
abbrev pub names_of : List ℕ → Tuple
names_of u = tuple.names (slice_index u 0) (slice_index u 1) (slice_index u 2) (slice_index u 3)

-- A form with its sign, written.
abbrev pub write_form : Bool → Form → FactRow
write_form g (member u t) = in_fact g (names_of u) t
write_form g (equal x y) = eq_fact g x y
write_form g (same s r) = same_fact g s r

-- A fact, written.
abbrev pub write_fact : Fact → FactRow
write_fact f = write_form f.sign f.form

-- The row with the operation number o, the arity k and these operands.
abbrev pub row_of : ℕ → ℕ → Tuple → TermRow
row_of o k u = record { op = o; arity = k; a = u.a; b = u.b; c = u.c; d = u.d }

-- An operation with the arity k, written.
abbrev pub write_op : ℕ → Op → TermRow
write_op k variable = row_of 0 k (tuple.names 0 0 0 0)
write_op k empty = row_of 1 k (tuple.names 0 0 0 0)
write_op k (single v) = row_of 2 k (names_of v)
write_op k (union s r) = row_of 3 k (tuple.names s r 0 0)
write_op k (inter s r) = row_of 4 k (tuple.names s r 0 0)
write_op k (diff s r) = row_of 5 k (tuple.names s r 0 0)
write_op k (transp s) = row_of 6 k (tuple.names s 0 0 0)
write_op k (prod s r) = row_of 7 k (tuple.names s r 0 0)
write_op k (join s r) = row_of 8 k (tuple.names s r 0 0)
write_op k (closure s) = row_of 9 k (tuple.names s 0 0 0)

-- A row, written.
abbrev pub write_row : Row → TermRow
write_row r = write_op r.arity r.op

-- Facts, written.
abbrev pub write_facts : List Fact → List FactRow
write_facts fs = map write_fact fs

-- The first four of these facts, in order.
abbrev pub facts_from : List FactRow → Facts
facts_from [] = facts.Empty
facts_from (f ∷ []) = facts.One f
facts_from (f ∷ g ∷ []) = facts.Two f g
facts_from (f ∷ g ∷ h ∷ []) = facts.Three f g h
facts_from (f ∷ g ∷ h ∷ i ∷ fs) = facts.Four f g h i

-- An alternative of up to four facts, written.
abbrev pub write_alt : Alt → AltRow
write_alt a = record { fresh = a.fresh; facts = facts_from (write_facts a.facts) }

-- The facts of an alternative.
abbrev pub alt_facts : AltRow → List FactRow
alt_facts a = facts_of a

-- An alternative, read.
abbrev pub read_alt : List TermRow → AltRow → Alt
read_alt rows a = record { fresh = a.fresh; facts = map (read_fact rows) (alt_facts a) }

-- ── a sheet of plain records ───────────────────────────────────────────────

-- A sheet in plain records: the codes of the labels, how many free names there are, rows and constraints.
pub record Plain : Type 0 where
  pub codes : List ℕ
  pub free : ℕ
  pub rows : List TermRow
  pub constraints : List FactRow

-- A sheet, read.
abbrev pub read_sheet : Plain → Sheet
read_sheet P =
    record {
      codes = P.codes;
      free = P.free;
      rows = map read_row P.rows;
      constraints = map (read_fact P.rows) P.constraints;
    }

-- Row t of a sheet fits: it has an operation that there is and zero in unused bytes (it is what is written
-- of it), an arity from 1 to 4, and operands as its operation asks.
pub record RowFits (P : Plain) (t : ℕ) (r : TermRow) : Type 0 where
  pub written : write_row (read_row r) ≡ r
  pub low : 1 ≤ r.arity
  pub high : r.arity ≤ 4
  pub fits : OpFits (read_sheet P).rows (names (read_sheet P)) t r.arity (read_row r).op

-- A fact of a branch with n names fits: it has a form that there is and zero in unused bytes, names below n,
-- and a tuple as long as its term's arity, or two terms of one arity.
pub record FactFits (P : Plain) (n : ℕ) (f : FactRow) : Type 0 where
  pub written : write_fact (read_fact P.rows f) ≡ f
  pub fits : FormFits (read_sheet P).rows n (read_form P.rows f)

-- Every row fits.
abbrev pub RowsFit : Plain → Type 0
RowsFit P = (t : ℕ) (r : TermRow) → get_elem? P.rows t ≡ some r → RowFits P t r

-- A good sheet: every row and every constraint fits.
pub record Good (P : Plain) : Type 0 where
  pub rows_fit : RowsFit P
  pub constraints_fit :
      AllByRecursion (λ c. FormFits (read_sheet P).rows (names (read_sheet P)) c.form) (read_sheet P).constraints
