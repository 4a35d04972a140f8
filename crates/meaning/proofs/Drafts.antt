-- A sheet that is full stays full as its rows come in: `full_fresh`, `full_code`, `full_row`, `full_constraint`.
use Rattle.std.proofs.Common.{◌≡◌, ℕ, ◌+◌, ◌<◌, ◌≤◌, List, [], ◌∷◌, ◌++◌, length, sym, subst, ⊎_elim, arith, length-append}
use Rattle.std.proofs.ByRecursion.{All-append, All-weaker}
use Rattle.meaning.specs.Terms.{Op, single, union, inter, diff, transp, prod, join, closure, Row, Form, member, equal, same, Fact, Sheet, names, Arity, Before, OpFits, FormFits, Full}
use Rattle.meaning.specs.Mixes.{Header, fresh, with_code, with_row, with_constraint}
use Rattle.meaning.proofs.Lookups.{ahead, last_or_before}
use Rattle.meaning.proofs.RuleFits.{form_up}

-- rows and constraints still fit when another name or another row comes in
pub op_up : (rs : List Row) (n m : ℕ) → n ≤ m → (t k : ℕ) (o : Op) → OpFits rs n t k o → OpFits rs m t k o
op_up rs n m l t k (single v) f = (f.0, All-weaker (λ i. i < n) (λ i. i < m) (λ i h. omega arith) v f.1)
op_up rs n m l t k _ f = f

module _ (rs ms : List Row) where
  arity_more : (t k : ℕ) → Arity rs t k → Arity (rs ++ ms) t k
  arity_more t k a = record { op = a.op; row = ahead rs ms t _ a.row }

  before_more : (t s k : ℕ) → Before rs t s k → Before (rs ++ ms) t s k
  before_more t s k b = (b.0, arity_more s k b.1)

  pub op_more : (n t k : ℕ) (o : Op) → OpFits rs n t k o → OpFits (rs ++ ms) n t k o
  op_more n t k (union s r) f = (before_more t s k f.0, before_more t r k f.1)
  op_more n t k (inter s r) f = (before_more t s k f.0, before_more t r k f.1)
  op_more n t k (diff s r) f = (before_more t s k f.0, before_more t r k f.1)
  op_more n t k (transp s) f = before_more t s k f
  op_more n t k (prod s r) f = (f.0, f.1, before_more t s f.0 f.2, before_more t r f.1 f.3, f.4)
  op_more n t k (join s r) f = (f.0, f.1, before_more t s (f.0 + 1) f.2, before_more t r (f.1 + 1) f.3, f.4)
  op_more n t k (closure s) f = (before_more t s 2 f.0, f.1)
  op_more n t k _ f = f

  pub form_more : (n : ℕ) (f : Form) → FormFits rs n f → FormFits (rs ++ ms) n f
  form_more n (member u t) h = (arity_more t (length u) h.0, h.1)
  form_more n (equal a b) h = h
  form_more n (same s r) h = (h.0, arity_more s h.0 h.1, arity_more r h.0 h.2)

pub full_fresh : (H : Header) → Full (fresh H).sheet
full_fresh H = record { rows_fit = λ t o k h. absurd cc; constraints_fit = tt }

pub full_code : (S : Sheet) (c : ℕ) → Full S → Full (with_code S c)
full_code S c f =
    let l : names S ≤ names (with_code S c) = omega (arith, length-append S.codes (c ∷ [])) in
    record {
      rows_fit = λ t o k h. op_up S.rows (names S) (names (with_code S c)) l t k o (f.rows_fit t o k h);
      constraints_fit = All-weaker (λ (x : Fact). FormFits S.rows (names S) x.form) (λ (x : Fact). FormFits S.rows (names (with_code S c)) x.form) (λ x. form_up S.rows (names S) (names (with_code S c)) l x.form) S.constraints f.constraints_fit;
    }

pub full_row : (S : Sheet) (r : Row) → Full S → OpFits S.rows (names S) (length S.rows) r.arity r.op → Full (with_row S r)
full_row S r f h = record {
  rows_fit = λ t o k q. ⊎_elim (λ p. more t k o (f.rows_fit t o k p)) (λ p. last t o k p.0 p.1) (last_or_before S.rows r t _ q);
  constraints_fit = All-weaker (λ (x : Fact). FormFits S.rows (names S) x.form) (λ (x : Fact). FormFits (S.rows ++ (r ∷ [])) (names S) x.form) (λ x. form_more S.rows (r ∷ []) (names S) x.form) S.constraints f.constraints_fit;
}
  where
    more : (t k : ℕ) (o : Op) → OpFits S.rows (names S) t k o → OpFits (S.rows ++ (r ∷ [])) (names S) t k o
    more t k o g = op_more S.rows (r ∷ []) (names S) t k o g

    last : (t : ℕ) (o : Op) (k : ℕ) → t ≡ length S.rows → r ≡ record { op = o; arity = k } → OpFits (S.rows ++ (r ∷ [])) (names S) t k o
    last t o k e q = subst (λ (i : ℕ). OpFits (S.rows ++ (r ∷ [])) (names S) i k o) (sym e) (subst (λ (x : Row). OpFits (S.rows ++ (r ∷ [])) (names S) (length S.rows) x.arity x.op) q (more (length S.rows) r.arity r.op h))

pub full_constraint : (S : Sheet) (c : Fact) → Full S → FormFits S.rows (names S) c.form → Full (with_constraint S c)
full_constraint S c f h = record {
  rows_fit = f.rows_fit;
  constraints_fit = All-append (λ (x : Fact). FormFits S.rows (names S) x.form) S.constraints (c ∷ []) f.constraints_fit (h, tt);
}
