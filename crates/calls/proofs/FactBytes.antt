-- A fact of the subject is read from its bytes as what is written of it (`fact_read`), which fits where it does.
use Rattle.std.proofs.Common.{◌≡◌, ℕ, zero, suc, ◌+◌, Bool, true, false, eqb, leb, List, [], ◌∷◌, sym, refl, ap, ◌∙◌, subst, arith, leb-true}
use mathlib.Core.Option.{none}
use Rattle.records.specs.declared.rows.Fact.{Fact as FactRow}
use Rattle.records.specs.declared.rows.ConstraintRow.{ConstraintRow}
use Rattle.std.specs.declared.option.Option.TheVariants as option
use Rattle.records.specs.declared.record.RowRecord.TheVariants as row
use Rattle.records.specs.Reading.{row_in}
use Rattle.meaning.specs.Terms.{Form, member, equal, same, Fact, FormFits}
use Rattle.meaning.specs.Calculus.{alt}
use Rattle.meaning.specs.Mixes.{sign_byte, form_bytes, fact_bytes}
use Rattle.calls.specs.Reading.{write_form, write_fact, Plain, read_sheet, FactFits, Good}
use Rattle.records.specs.Reading.{fact_said}
use Rattle.calls.proofs.Bytes.{constraint_bytes}
use Rattle.calls.proofs.RowBytes.{four_are}
use Rattle.calls.proofs.Written.{alts_kept}

-- the constraint row that says a fact
abbrev pub said_by : FactRow → ConstraintRow
said_by w =
    record {
      form = w.form;
      sign = sign_byte w.positive;
      term = w.term;
      a = w.a;
      b = w.b;
      c = w.c;
      d = w.d;
    }

-- a fact as bytes is what is written of it
fact_bytes_are : (F : Fact) → fact_bytes F ≡ constraint_bytes (said_by (write_fact F))
fact_bytes_are F = go F.sign F.form
  where
    go : (g : Bool) (k : Form) → form_bytes (sign_byte g) k ≡ constraint_bytes (said_by (write_form g k))
    go g (member u t) = ap (λ (l : List ℕ). 1 ∷ sign_byte g ∷ t ∷ l) (four_are u)
    go g (equal x y) = refl
    go g (same s r) = refl

-- and it is read as that
pub fact_read : (F : Fact) → row_in (67 ∷ 78 ∷ fact_bytes F) ≡ option.Some (row.Constraint (said_by (write_fact F)))
fact_read F = ap (λ (l : List ℕ). row_in (67 ∷ 78 ∷ l)) (fact_bytes_are F)

-- where a constraint is what is written of a fact, its bytes are the subject's
pub fact_written :
    (F : Fact) {bs : List ℕ} → bs ≡ 67 ∷ 78 ∷ constraint_bytes (said_by (write_fact F)) → 67 ∷ 78 ∷ fact_bytes F ≡ bs
fact_written F e = ap (λ (l : List ℕ). 67 ∷ 78 ∷ l) (fact_bytes_are F) ∙ sym e

-- the fact that a row says, and the row that says a fact
pub said_back : (w : FactRow) → fact_said (said_by w) ≡ w
said_back w =
    λ i. record w { positive = go w.positive i }
  where
    go : (g : Bool) → eqb (sign_byte g) 1 ≡ g
    go true = refl
    go false = refl

pub sign_low : (g : Bool) → leb (sign_byte g) 1 ≡ true
sign_low true = refl
sign_low false = refl

pub said_again : (r : ConstraintRow) → leb r.sign 1 ≡ true → said_by (fact_said r) ≡ r
said_again r e =
    λ i. record r { sign = go r.sign e i }
  where
    go : (s : ℕ) → leb s 1 ≡ true → sign_byte (eqb s 1) ≡ s
    go zero e = refl
    go (suc zero) e = refl
    go (suc (suc s)) e = absurd (let l = leb-true (suc (suc s)) 1 e in omega arith)

-- what is written of a fact that fits does
pub fact_refits :
    (P : Plain) → Good P → (n : ℕ) (F : Fact) → FormFits (read_sheet P).rows n F.form → FactFits P n (write_fact F)
fact_refits P good n F b =
    let z : n + 0 ≡ n = omega arith in
    subst (λ (m : ℕ). FactFits P m (write_fact F)) z
    (alts_kept (λ c. none) P good n (alt 0 (F ∷ []) ∷ []) (omega arith, tt)
    ((subst (λ (m : ℕ). FormFits (read_sheet P).rows m F.form) (sym z) b, tt), tt)).0.0
