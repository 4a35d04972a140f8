-- Each row of a fair sheet holds what its term means, where its operands do: `row_shows`.
use Rattle.std.proofs.Common.{◌≡◌, ℕ, ◌+◌, ◌<◌, ◌≤◌, Bool, true, false, cond, eqb, List, length, take, sym, refl, ap, ◌∙◌, subst, arith}
use mathlib.Core.Option.{some}
use Rattle.records.specs.declared.rows.Fact.{Fact}
use Rattle.records.specs.declared.rows.TermRow.{TermRow}
use Rattle.rules.specs.Facts.{no_row}
use Rattle.rules.specs.Looked.{row_at}
use Rattle.meaning.specs.Terms.{Op, variable, empty, single, union, inter, diff, transp, prod, join, closure}
use Rattle.meaning.specs.Terms.{names, Arity, Before, RowIs, OpFits, node, term}
use Rattle.meaning.specs.Meaning.{In, Value}
use Rattle.meaning.proofs.Lengths.{opened, shut}
use Rattle.calls.specs.Reading.{Plain, op_of, four, read_row, read_sheet, write_op}
use Rattle.calls.proofs.Lookups.{remap, there_at}
use Rattle.calls.proofs.Rows.{arity_of, arity_low, full}
use Rattle.records.specs.Tuples as tuple
use Rattle.records.specs.declared.tuple.Tuple.{Tuple}
use Rattle.models.specs.Tuples.{Shows}
use Rattle.models.specs.Rows.{operation_of, RowHolds, Ground, named_by}
use Rattle.records.specs.declared.kinds.Operation.{Operation}
use Rattle.records.specs.declared.kinds.Operation.TheVariants.{
  Variable,
  Empty,
  Single,
  Union,
  Intersection,
  Difference,
  Transpose,
  Product,
  Join,
  Closure,
}
use Rattle.models.proofs.Shown.{shows_as, shows_at, shows_union, shows_inter, shows_diff, shows_transp}
use Rattle.models.proofs.Shown.{shows_prod, shows_join, shows_closure}
use Rattle.models.proofs.Variables.{shows_variable, shows_single}

-- an operation with its operands x and y, or a singleton's tuple v
abbrev pub as_op : Operation → ℕ → ℕ → List ℕ → Op
as_op Variable x y v = variable
as_op Empty x y v = empty
as_op Single x y v = single v
as_op Union x y v = union x y
as_op Intersection x y v = inter x y
as_op Difference x y v = diff x y
as_op Transpose x y v = transp x
as_op Product x y v = prod x y
as_op Join x y v = join x y
as_op Closure x y v = closure x

-- a number is read as the same operation here and there
module _ (x y : ℕ) (v : List ℕ) where
  either : (b : Bool) (o o' : Operation) (p p' : Op) → as_op o x y v ≡ p → as_op o' x y v ≡ p' →
      as_op (cond b o o') x y v ≡ cond b p p'
  either true o o' p p' e e' = e
  either false o o' p p' e e' = e'

  pub operation_is : (k : ℕ) → as_op (operation_of k) x y v ≡ op_of k x y v
  operation_is k =
      either (eqb k 0) _ _ _ _ refl
      (either (eqb k 1) _ _ _ _ refl
      (either (eqb k 2) _ _ _ _ refl
      (either (eqb k 3) _ _ _ _ refl
      (either (eqb k 4) _ _ _ _ refl
      (either (eqb k 5) _ _ _ _ refl
      (either (eqb k 6) _ _ _ _ refl
      (either (eqb k 7) _ _ _ _ refl
      (either (eqb k 8) _ _ _ _ refl refl))))))))

module _ (P : Plain) (facts : List Fact) (n : ℕ) (rs : List ℕ) (ground : Ground P facts n rs) (t : ℕ)
    (A : ℕ → Tuple → Type 0)
    (ops : (j : ℕ) → j < t →
    Shows (row_at P.rows j).arity (A j) (Value (read_sheet P).rows (named_by P facts rs) j)) where
  -- an operand, with the arity that the row asks for
  operand : (j k : ℕ) → Before (read_sheet P).rows t j k →
      Shows k (A j) (Value (read_sheet P).rows (named_by P facts rs) j)
  operand j k b = shows_at k (arity_of P b.1) (ops j b.0)

  low : {j k : ℕ} → Arity (read_sheet P).rows j k → (1 ≤ k) × (k ≤ 4)
  low a = arity_low P ground.fair.sheet a

  module _ (w : TermRow) (is : row_at P.rows t ≡ w) (high : w.arity ≤ 4) where
    node_shows : (o : Operation) →
        RowIs (read_sheet P).rows t (as_op o w.a w.b (take w.arity (four w.a w.b w.c w.d))) w.arity →
        OpFits (read_sheet P).rows (names (read_sheet P)) t w.arity
        (as_op o w.a w.b (take w.arity (four w.a w.b w.c w.d))) →
        write_op w.arity (as_op o w.a w.b (take w.arity (four w.a w.b w.c w.d))) ≡ w →
        Shows w.arity (RowHolds o rs facts w t (row_at P.rows w.a).arity (A w.a) (A w.b))
        (In (named_by P facts rs)
        (node t (as_op o w.a w.b (take w.arity (four w.a w.b w.c w.d))) (term (read_sheet P).rows)))
    node_shows Variable row fits wr =
        shows_at w.arity (ap (λ (x : TermRow). x.arity) is)
        (shows_variable P facts n rs ground.zero_kept ground.fair.facts_fit t w.arity row)
    node_shows Empty row fits wr = record {
      flat = λ x m. absurd m;
      sound = λ x m. m;
      complete = λ u m. absurd m;
    }
    node_shows Single row fits wr =
        shows_single rs ground.zero_kept w (ap (λ (x : TermRow). tuple.names x.a x.b x.c x.d) wr)
    node_shows Union row fits wr =
        shows_union w.arity (A w.a) (A w.b) _ _ (operand w.a w.arity fits.0) (operand w.b w.arity fits.1)
    node_shows Intersection row fits wr =
        shows_inter w.arity (A w.a) (A w.b) _ _ (operand w.a w.arity fits.0) (operand w.b w.arity fits.1)
    node_shows Difference row fits wr =
        shows_diff w.arity (A w.a) (A w.b) _ _ (operand w.a w.arity fits.0) (operand w.b w.arity fits.1)
    node_shows Transpose row fits wr =
        shows_transp w.arity (A w.a) (Value (read_sheet P).rows (named_by P facts rs) w.a) (low fits.1).0 (low fits.1).1
        (operand w.a w.arity fits)
    node_shows Product row fits wr =
        let i : ℕ = fits.0 in
        let j : ℕ = fits.1 in
        let p : (row_at P.rows w.a).arity ≡ i = arity_of P fits.2.1 in
        let l = low fits.3.1 in
        subst
        (λ q. Shows w.arity (RowHolds Product rs facts w t q (A w.a) (A w.b))
        (In (named_by P facts rs) (node t (prod w.a w.b) (term (read_sheet P).rows)))) (sym p)
        (shows_at w.arity (sym fits.4)
        (shows_prod i j (A w.a) (A w.b) (Value (read_sheet P).rows (named_by P facts rs) w.a)
        (Value (read_sheet P).rows (named_by P facts rs) w.b) (omega (arith, l.0, fits.4)) (omega (arith, fits.4))
        (operand w.a i fits.2) (operand w.b j fits.3)))
    node_shows Join row fits wr =
        let i : ℕ = fits.0 in
        let j : ℕ = fits.1 in
        let p : (row_at P.rows w.a).arity ≡ i + 1 = arity_of P fits.2.1 in
        let l = low fits.2.1 in
        let m = low fits.3.1 in
        subst
        (λ q. Shows w.arity (RowHolds Join rs facts w t q (A w.a) (A w.b))
        (In (named_by P facts rs) (node t (join w.a w.b) (term (read_sheet P).rows)))) (sym p)
        (shows_at w.arity (sym fits.4)
        (shows_join i j (A w.a) (A w.b) (Value (read_sheet P).rows (named_by P facts rs) w.a)
        (Value (read_sheet P).rows (named_by P facts rs) w.b) (omega (arith, l.1)) (omega (arith, m.1)) (omega (arith, fits.4))
        (operand w.a (i + 1) fits.2) (operand w.b (j + 1) fits.3)))
    node_shows Closure row fits wr =
        shows_at w.arity (sym fits.1)
        (shows_closure (A w.a) (Value (read_sheet P).rows (named_by P facts rs) w.a) (operand w.a 2 fits.0))

  pub row_shows : t < length P.rows →
      Shows (row_at P.rows t).arity
      (RowHolds (operation_of (row_at P.rows t).op) rs facts (row_at P.rows t) t
      (row_at P.rows (row_at P.rows t).a).arity (A (row_at P.rows t).a) (A (row_at P.rows t).b))
      (Value (read_sheet P).rows (named_by P facts rs) t)
  row_shows l =
      let w : TermRow = row_at P.rows t in
      let v : List ℕ = take w.arity (four w.a w.b w.c w.d) in
      let o : Op = as_op (operation_of w.op) w.a w.b v in
      let there = there_at P.rows t no_row l in
      let fit = ground.fair.sheet.rows_fit t w there in
      let e = sym (operation_is w.a w.b v w.op) in
      let row : RowIs (read_sheet P).rows t o w.arity =
      remap read_row P.rows t w there ∙ ap (λ (x : Op). some (record { op = x; arity = w.arity })) e in
      let full_rows = (full P ground.fair.sheet).rows_fit in
      shows_as (Value (read_sheet P).rows (named_by P facts rs) t)
      (shut (read_sheet P).rows (names (read_sheet P)) full_rows (named_by P facts rs) t o w.arity row)
      (opened (read_sheet P).rows (names (read_sheet P)) full_rows (named_by P facts rs) t o w.arity row)
      (node_shows w refl fit.high (operation_of w.op) row
      (subst (OpFits (read_sheet P).rows (names (read_sheet P)) t w.arity) e fit.fits)
      (ap (write_op w.arity) (sym e) ∙ fit.written))
