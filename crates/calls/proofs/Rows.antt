-- Rows of a good sheet: each is what is written of it (`row_of`), and the sheet that is read is full
-- (`full`).
use Rattle.std.proofs.Common.{◌≡◌, ℕ, ◌<◌, ◌≤◌, true, eqb, length, take, sym, ap, ◌∙◌, subst, arith, eqb-true}
use mathlib.Core.Option.{some}
use lib.ListN.{get_elem?}
use Rattle.rules.specs.Facts.{no_row}
use Rattle.rules.specs.Looked.{row_at}
use Rattle.meaning.specs.Terms.{Op, Row, names, RowIs, Is, Arity, OpFits, Full}
use Rattle.calls.specs.Reading.{op_of, four, read_row, write_op, write_row, Plain, read_sheet, Good}
use Rattle.calls.proofs.Lookups.{unmap, remap, got, there, there_at, below}

module _ (P : Plain) where
  -- the row of a term that is there
  found :
      (t : ℕ) {k : ℕ} {o : Op} → RowIs (read_sheet P).rows t o k →
      (get_elem? P.rows t ≡ some (row_at P.rows t)) × (read_row (row_at P.rows t) ≡ record { op = o; arity = k })
  found t {k} {o} h =
      let r = unmap read_row P.rows t (record { op = o; arity = k }) h in
      let e : row_at P.rows t ≡ r.0 = got P.rows t no_row r.0 r.1 in
      (r.1 ∙ ap some (sym e), ap read_row e ∙ r.2)

  -- the arity of a term is that of its row
  pub arity_of : {t k : ℕ} → Arity (read_sheet P).rows t k → (row_at P.rows t).arity ≡ k
  arity_of {t} a = ap (λ (x : Row). x.arity) (found t a.row).1

  -- a row that is there gives its term's arity
  pub arity_there : (s : ℕ) → s < length P.rows → Arity (read_sheet P).rows s (row_at P.rows s).arity
  arity_there s l =
      record {
        op = (read_row (row_at P.rows s)).op;
        row = remap read_row P.rows s (row_at P.rows s) (there_at P.rows s no_row l);
      }

  -- a term that has an arity is there
  pub term_below : {s k : ℕ} → Arity (read_sheet P).rows s k → s < length P.rows
  term_below {s} a = below P.rows s _ (found s a.row).0

module _ (P : Plain) (good : Good P) where
  -- the row of a term is what is written of it
  pub row_is : (t : ℕ) (o : Op) (k : ℕ) → RowIs (read_sheet P).rows t o k → row_at P.rows t ≡ write_op k o
  row_is t o k h = let r = found P t h in sym (good.rows_fit t _ r.0).written ∙ ap write_row r.1

  pub row_of : {t : ℕ} {o : Op} (is : Is (read_sheet P).rows t o) → row_at P.rows t ≡ write_op is.arity o
  row_of {t} {o} is = row_is t o is.arity is.row

  -- arities are 1 to 4
  pub arity_low : {t k : ℕ} → Arity (read_sheet P).rows t k → (1 ≤ k) × (k ≤ 4)
  arity_low {t} a =
      let f = good.rows_fit t _ (found P t a.row).0 in
      let e = arity_of P a in
      (omega (arith, f.low), omega (arith, f.high))

  -- the sheet that is read is full
  pub full : Full (read_sheet P)
  full = record {
    rows_fit = λ t o k h.
        let r = found P t h in
        subst (λ (x : Row). OpFits (read_sheet P).rows (names (read_sheet P)) t x.arity x.op) r.1
        (good.rows_fit t _ r.0).fits;
    constraints_fit = good.constraints_fit;
  }

  -- a term whose operation is tested is there
  pub is_op :
      (t k : ℕ) → 1 ≤ k → eqb (row_at P.rows t).op k ≡ true →
      Is (read_sheet P).rows t
      (op_of k (row_at P.rows t).a (row_at P.rows t).b
      (take (row_at P.rows t).arity
      (four (row_at P.rows t).a (row_at P.rows t).b (row_at P.rows t).c (row_at P.rows t).d)))
  is_op t k l e =
      let r = row_at P.rows t in
      let ek : (row_at P.rows t).op ≡ k = eqb-true _ _ e in
      let h = there P.rows t no_row (λ x. x.op) (λ z. omega arith) in
      let u = four r.a r.b r.c r.d in
      record {
        arity = r.arity;
        row =
            cc (remap read_row P.rows t r h, ek);
      }
