-- Each tuple in a term's value is as long as the term's arity says: `value_length`.
use Rattle.std.proofs.Common.{◌≡◌, ℕ, zero, suc, ◌+◌, ◌<◌, List, [], ◌∷◌, ◌++◌, reverse, length, sym, ap, ◌∙◌, subst, ⊎_elim, not-suc-le-zero, arith, length-append}
use lib.ListN.{length-map, length-reverse}
use Rattle.meaning.specs.Terms.{Op, variable, empty, single, union, inter, diff, transp, prod, join, closure, Row, Tm, node, term, RowIs, OpFits}
use Rattle.meaning.specs.Meaning.{Interp, In, Value, Sized}
use Rattle.meaning.proofs.Decoded.{smaller, term_node}

module _ {A : Type 0} (rs : List Row) (n : ℕ) (fit : (t : ℕ) (o : Op) (k : ℕ) → RowIs rs t o k → OpFits rs n t k o) (I : Interp A) where
  pub opened : (t : ℕ) (o : Op) (k : ℕ) → RowIs rs t o k → (u : List A) → Value rs I t u → In I (node t o (term rs)) u
  opened t o k h u v = subst (λ (x : Tm). In I x u) (term_node rs t o k h (smaller rs n t k o (fit t o k h))) v

  pub shut : (t : ℕ) (o : Op) (k : ℕ) → RowIs rs t o k → (u : List A) → In I (node t o (term rs)) u → Value rs I t u
  shut t o k h u v = subst (λ (x : Tm). In I x u) (sym (term_node rs t o k h (smaller rs n t k o (fit t o k h)))) v

  module _ (sized : Sized rs I) where
    long : (t : ℕ) (o : Op) (k : ℕ) → RowIs rs t o k → OpFits rs n t k o → ((s : ℕ) (o' : Op) (i : ℕ) → s < t → RowIs rs s o' i → (w : List A) → Value rs I s w → length w ≡ i) → (u : List A) → In I (node t o (term rs)) u → length u ≡ k
    long t variable k h f ih u v = sized t k h u v
    long t empty k h f ih u v = absurd v
    long t (single w) k h f ih u v = ap length v ∙ length-map w I.name ∙ f.0
    long t (union s r) k h f ih u v = ⊎_elim (ih s f.0.1.op k f.0.0 f.0.1.row u) (ih r f.1.1.op k f.1.0 f.1.1.row u) v
    long t (inter s r) k h f ih u v = ih s f.0.1.op k f.0.0 f.0.1.row u v.0
    long t (diff s r) k h f ih u v = ih s f.0.1.op k f.0.0 f.0.1.row u v.0
    long t (transp s) k h f ih u v = sym (length-reverse u) ∙ ih s f.1.op k f.0 f.1.row (reverse u) v
    long t (prod s r) k h f ih u v =
        let a : length v.0 ≡ f.0 = ih s f.2.1.op f.0 f.2.0 f.2.1.row v.0 v.3 in
        let b : length v.1 ≡ f.1 = ih r f.3.1.op f.1 f.3.0 f.3.1.row v.1 v.4 in
        omega (arith, ap length v.2, length-append v.0 v.1)
    long t (join s r) k h f ih u v =
        let a : length (v.0 ++ (v.1 ∷ [])) ≡ f.0 + 1 = ih s f.2.1.op (f.0 + 1) f.2.0 f.2.1.row (v.0 ++ (v.1 ∷ [])) v.4 in
        let b : suc (length v.2) ≡ f.1 + 1 = ih r f.3.1.op (f.1 + 1) f.3.0 f.3.1.row (v.1 ∷ v.2) v.5 in
        omega (arith, ap length v.3, length-append v.0 v.2, length-append v.0 (v.1 ∷ []))
    long t (closure s) k h f ih u v = ap length v.2 ∙ sym f.1

    long_below : (N t : ℕ) (o : Op) (k : ℕ) → t < N → RowIs rs t o k → (u : List A) → Value rs I t u → length u ≡ k
    long_below zero t o k l h u v = absurd (not-suc-le-zero l)
    long_below (suc N) t o k l h u v = long t o k h (fit t o k h) (λ s o' i b. long_below N s o' i (omega arith)) u (opened t o k h u v)

    pub value_length : (t : ℕ) (o : Op) (k : ℕ) → RowIs rs t o k → (u : List A) → Value rs I t u → length u ≡ k
    value_length t o k h u v = long_below (suc t) t o k (omega arith) h u v
