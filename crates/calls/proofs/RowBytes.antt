-- A row of the subject is read from its bytes as what is written of it (`row_read`), which fits where it does.
use Rattle.std.proofs.Common.{◌≡◌, ℕ, ◌≤◌, List, [], ◌∷◌, length, get_or, take, sym, refl, ap, ◌∙◌, subst, arith}
use Rattle.std.specs.declared.option.Option.TheVariants as option
use Rattle.records.specs.declared.record.RowRecord.TheVariants as row
use Rattle.records.specs.Reading.{row_in}
use Rattle.meaning.specs.Terms.{Op, single, Row, names, OpFits}
use Rattle.meaning.specs.Mixes.{op_code, operands, row_bytes}
use Rattle.meaning.specs.Mixes as subject
use Rattle.calls.specs.Reading.{four, read_row, write_op, write_row, Plain, read_sheet, RowFits}
use Rattle.calls.proofs.Bytes.{term_bytes}
use Rattle.calls.proofs.Written.{took}

-- four bytes are the first four of the list, zero where there are none
pub four_are : (u : List ℕ) → subject.four u ≡ four (get_or u 0 0) (get_or u 1 0) (get_or u 2 0) (get_or u 3 0)
four_are [] = refl
four_are (x ∷ []) = refl
four_are (x ∷ y ∷ []) = refl
four_are (x ∷ y ∷ z ∷ []) = refl
four_are (x ∷ y ∷ z ∷ v ∷ u) = refl

-- a row as bytes is what is written of it
row_bytes_are : (R : Row) → row_bytes R ≡ term_bytes (write_row R)
row_bytes_are R = go R.arity R.op
  where
    go : (k : ℕ) (o : Op) → op_code o ∷ k ∷ subject.four (operands o) ≡ term_bytes (write_op k o)
    go k (single v) = ap (λ (l : List ℕ). 2 ∷ k ∷ l) (four_are v)
    go k _ = refl

-- and it is read as that
pub row_read : (R : Row) → row_in (84 ∷ 77 ∷ row_bytes R) ≡ option.Some (row.Term (write_row R))
row_read R = ap (λ (l : List ℕ). row_in (84 ∷ 77 ∷ l)) (row_bytes_are R)

-- where a row is what is written of it, its bytes are the subject's
pub row_written : (R : Row) {bs : List ℕ} → bs ≡ 84 ∷ 77 ∷ term_bytes (write_row R) → 84 ∷ 77 ∷ row_bytes R ≡ bs
row_written R e = ap (λ (l : List ℕ). 84 ∷ 77 ∷ l) (row_bytes_are R) ∙ sym e

-- a tuple of at most four names, from four fields
taken :
    (k : ℕ) (v : List ℕ) → length v ≡ k → k ≤ 4 →
    take k (four (get_or v 0 0) (get_or v 1 0) (get_or v 2 0) (get_or v 3 0)) ≡ v
taken k v e l =
    ap (λ (j : ℕ). take j (four (get_or v 0 0) (get_or v 1 0) (get_or v 2 0) (get_or v 3 0))) (sym e) ∙ took v (omega arith)

module _ (rs : List Row) (n t : ℕ) where
  -- a row that fits is read back from what is written of it
  op_back :
      (k : ℕ) (o : Op) → k ≤ 4 → OpFits rs n t k o →
      ◌≡◌ {A = Row} (read_row (write_op k o)) (record { op = o; arity = k })
  op_back k (single v) l b = λ i. record { op = single (taken k v b.0 l i); arity = k }
  op_back k _ l b = refl

  pub row_back : (R : Row) → R.arity ≤ 4 → OpFits rs n t R.arity R.op → read_row (write_row R) ≡ R
  row_back R l b = op_back R.arity R.op l b

-- what is written of a row that fits does
pub row_refits :
    (P : Plain) (t : ℕ) (R : Row) → 1 ≤ R.arity → R.arity ≤ 4 →
    OpFits (read_sheet P).rows (names (read_sheet P)) t R.arity R.op → RowFits P t (write_row R)
row_refits P t R low high b =
    let e = row_back (read_sheet P).rows (names (read_sheet P)) t R high b in
    record {
      written = ap write_row e;
      low = subst (λ (x : Row). 1 ≤ x.arity) (sym e) low;
      high = subst (λ (x : Row). x.arity ≤ 4) (sym e) high;
      fits =
          subst (λ (x : Row). OpFits (read_sheet P).rows (names (read_sheet P)) t x.arity x.op) (sym e) b;
    }
