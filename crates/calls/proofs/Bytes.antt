-- What is read from bytes says which bytes they are (`header_told`, `row_told`).
use Rattle.std.proofs.Common.{◌≡◌, ℕ, zero, suc, Bool, true, false, cond, eqb, List, [], ◌∷◌, length, Some, None, Option, refl, ap, arith, eqb-true}
use Rattle.std.proofs.lemmas.Bool.{and_parts}
use Rattle.records.specs.declared.rows.Header.{Header}
use Rattle.records.specs.declared.rows.TermRow.{TermRow}
use Rattle.records.specs.declared.rows.ConstraintRow.{ConstraintRow}
use Rattle.std.specs.declared.option.Option.TheVariants as option
use Rattle.records.specs.declared.record.RowRecord.TheVariants as row
use Rattle.records.specs.Reading.{
  RowRead,
  byte,
  marked,
  whole,
  code_from,
  header_of,
  code_of,
  term_of,
  constraint_of,
  header_in,
  row_in,
}

-- ── the records as bytes, their marks apart ────────────────────────────────

abbrev pub header_bytes : Header → List ℕ
header_bytes H = H.letter ∷ H.labels ∷ H.free ∷ H.terms ∷ H.constraints ∷ []

abbrev pub term_bytes : TermRow → List ℕ
term_bytes r = r.op ∷ r.arity ∷ r.a ∷ r.b ∷ r.c ∷ r.d ∷ []

abbrev pub constraint_bytes : ConstraintRow → List ℕ
constraint_bytes r = r.form ∷ r.sign ∷ r.term ∷ r.a ∷ r.b ∷ r.c ∷ r.d ∷ []

-- ── a list by its places ───────────────────────────────────────────────────

-- the first k values of g
abbrev places : ℕ → (ℕ → ℕ) → List ℕ
places zero g = []
places (suc k) g = g 0 ∷ places k (λ i. g (suc i))

-- a list of k bytes is its bytes 0 to k - 1
listed : (k : ℕ) (bs : List ℕ) → length bs ≡ k → bs ≡ places k (byte bs)
listed zero [] e = refl
listed zero (x ∷ bs) e = absurd (omega arith)
listed (suc k) [] e = absurd (omega arith)
listed (suc k) (x ∷ bs) e = ap (λ (l : List ℕ). x ∷ l) (listed k bs (omega arith))

-- a record with these letters and this length
pub spelt :
    (k x y : ℕ) (bs : List ℕ) → whole (suc (suc k)) x y bs ≡ true →
    bs ≡ x ∷ y ∷ places k (λ i. byte bs (suc (suc i)))
spelt k x y bs e =
    let p = and_parts (eqb (length bs) (suc (suc k))) (marked x y bs) e in
    let q = and_parts (eqb (byte bs 0) x) (eqb (byte bs 1) y) p.1 in
    let ex = eqb-true (byte bs 0) x q.0 in
    let ey = eqb-true (byte bs 1) y q.1 in
    cc (listed (suc (suc k)) bs (eqb-true _ _ p.0))

-- ── what is told ───────────────────────────────────────────────────────────

-- what a header that was read says of the bytes
abbrev pub HeaderTold : List ℕ → Option Header → Type 0
HeaderTold bs None = Unit {0}
HeaderTold bs (Some H) = bs ≡ 83 ∷ 72 ∷ header_bytes H

pub header_told : (bs : List ℕ) → HeaderTold bs (header_in bs)
header_told bs = go (whole 7 83 72 bs) refl
  where
    go : (z : Bool) → whole 7 83 72 bs ≡ z → HeaderTold bs (cond z (Some (header_of bs)) None)
    go true e = spelt 5 83 72 bs e
    go false e = tt

-- what a row that was read says of the bytes
abbrev pub RowTold : List ℕ → RowRead → Type 0
RowTold bs (option.Some (row.Label c)) =
    (x : ℕ) × (y : ℕ) × (z : ℕ) × (v : ℕ) × (bs ≡ 76 ∷ 66 ∷ x ∷ y ∷ z ∷ v ∷ []) × (code_from x y z v ≡ c)
RowTold bs (option.Some (row.Term r)) = bs ≡ 84 ∷ 77 ∷ term_bytes r
RowTold bs (option.Some (row.Constraint r)) = bs ≡ 67 ∷ 78 ∷ constraint_bytes r
RowTold bs option.None = Unit {0}

pub row_told : (bs : List ℕ) → RowTold bs (row_in bs)
row_told bs = by_label (whole 6 76 66 bs) refl
  where
    by_constraint :
        (z : Bool) → whole 9 67 78 bs ≡ z → RowTold bs (cond z (option.Some (row.Constraint (constraint_of bs))) option.None)
    by_constraint true e = spelt 7 67 78 bs e
    by_constraint false e = tt

    by_term :
        (z : Bool) → whole 8 84 77 bs ≡ z →
        RowTold bs
        (cond z (option.Some (row.Term (term_of bs)))
        (cond (whole 9 67 78 bs) (option.Some (row.Constraint (constraint_of bs))) option.None))
    by_term true e = spelt 6 84 77 bs e
    by_term false e = by_constraint (whole 9 67 78 bs) refl

    by_label :
        (z : Bool) → whole 6 76 66 bs ≡ z →
        RowTold bs
        (cond z (option.Some (row.Label (code_of bs)))
        (cond (whole 8 84 77 bs) (option.Some (row.Term (term_of bs)))
        (cond (whole 9 67 78 bs) (option.Some (row.Constraint (constraint_of bs))) option.None)))
    by_label true e = (byte bs 2, byte bs 3, byte bs 4, byte bs 5, spelt 4 76 66 bs e, refl)
    by_label false e = by_term (whole 8 84 77 bs) refl
