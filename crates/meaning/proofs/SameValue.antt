-- Satisfaction depends on an interpretation only through the names of the sheet and the members of its variables: `satisfies_same`.
use Rattle.std.proofs.Common.{◌≡◌, ℕ, zero, suc, ◌+◌, ◌<◌, Bool, true, false, ◌↔◌, List, [], ◌∷◌, ◌++◌, map, reverse, sym, ◌∙◌, subst, inl, inr, ⊎_elim, not-suc-le-zero, arith}
use mathlib.Core.List.{Memᴰ as Mem}
use Rattle.std.specs.List.{AllByRecursion}
use Rattle.meaning.specs.Terms.{Op, variable, empty, single, union, inter, diff, transp, prod, join, closure, Row, Tm, Var, Empty, Single, Union, Inter, Diff, Transp, Prod, Join, Closure, node, term, Form, member, equal, same, Fact, Sheet, names, RowIs, Is, OpFits, FormFits, Full}
use Rattle.meaning.specs.Meaning.{one, Interp, In, Value, Holds, Sat, SatFact, Satisfies}
use Rattle.meaning.specs.Chains.{chain_bind}
use Rattle.meaning.proofs.Decoded.{smaller, term_node}
use Rattle.meaning.proofs.Names.{map_old}

-- the variables of a term are variables of the sheet, and the names of its singletons are below n
abbrev pub Built : List Row → ℕ → Tm → Type 0
Built rs n (Var t) = Is rs t variable
Built rs n Empty = Unit {0}
Built rs n (Single v) = AllByRecursion (λ e. e < n) v
Built rs n (Union s r) = Built rs n s × Built rs n r
Built rs n (Inter s r) = Built rs n s × Built rs n r
Built rs n (Diff s r) = Built rs n s × Built rs n r
Built rs n (Transp s) = Built rs n s
Built rs n (Prod s r) = Built rs n s × Built rs n r
Built rs n (Join s r) = Built rs n s × Built rs n r
Built rs n (Closure s) = Built rs n s

-- every term of a sheet is built so
module _ (rs : List Row) (n : ℕ) (fit : (t : ℕ) (o : Op) (k : ℕ) → RowIs rs t o k → OpFits rs n t k o) where
  built_node : (t : ℕ) (o : Op) (k : ℕ) → RowIs rs t o k → OpFits rs n t k o → ((s : ℕ) (o' : Op) (i : ℕ) → s < t → RowIs rs s o' i → Built rs n (term rs s)) → Built rs n (node t o (term rs))
  built_node t variable k h f ih = record { arity = k; row = h }
  built_node t empty k h f ih = tt
  built_node t (single v) k h f ih = f.1
  built_node t (union s r) k h f ih = (ih s f.0.1.op k f.0.0 f.0.1.row, ih r f.1.1.op k f.1.0 f.1.1.row)
  built_node t (inter s r) k h f ih = (ih s f.0.1.op k f.0.0 f.0.1.row, ih r f.1.1.op k f.1.0 f.1.1.row)
  built_node t (diff s r) k h f ih = (ih s f.0.1.op k f.0.0 f.0.1.row, ih r f.1.1.op k f.1.0 f.1.1.row)
  built_node t (transp s) k h f ih = ih s f.1.op k f.0 f.1.row
  built_node t (prod s r) k h f ih = (ih s f.2.1.op f.0 f.2.0 f.2.1.row, ih r f.3.1.op f.1 f.3.0 f.3.1.row)
  built_node t (join s r) k h f ih = (ih s f.2.1.op (f.0 + 1) f.2.0 f.2.1.row, ih r f.3.1.op (f.1 + 1) f.3.0 f.3.1.row)
  built_node t (closure s) k h f ih = ih s f.0.1.op 2 f.0.0 f.0.1.row

  built_below : (N t : ℕ) (o : Op) (k : ℕ) → t < N → RowIs rs t o k → Built rs n (term rs t)
  built_below zero t o k l h = absurd (not-suc-le-zero l)
  built_below (suc N) t o k l h =
      subst (λ (x : Tm). Built rs n x) (sym (term_node rs t o k h (smaller rs n t k o (fit t o k h))))
      (built_node t o k h (fit t o k h) (λ s o' i b. built_below N s o' i (omega arith)))

  pub built : (t : ℕ) (o : Op) (k : ℕ) → RowIs rs t o k → Built rs n (term rs t)
  built t o k h = built_below (suc t) t o k (omega arith) h

-- two interpretations that agree on the names below n and on the members of each variable
module _ {A : Type 0} (rs : List Row) (n : ℕ) (I J : Interp A) (names_same : (i : ℕ) → i < n → I.name i ≡ J.name i) (members_same : (t k : ℕ) → RowIs rs t variable k → (u : List A) → Mem u (I.rel t) ↔ Mem u (J.rel t)) where
  pub value_same : (t : Tm) → Built rs n t → (u : List A) → In I t u ↔ In J t u
  value_same (Var t) b u = members_same t b.arity b.row u
  value_same Empty b u = (λ p. p, λ p. p)
  value_same (Single v) b u = let q = map_old I.name J.name n names_same v b in (λ e. e ∙ q, λ e. e ∙ sym q)
  value_same (Union s r) b u =
      let x = value_same s b.0 u in
      let y = value_same r b.1 u in
      (⊎_elim (λ p. inl (x.0 p)) (λ p. inr (y.0 p)), ⊎_elim (λ p. inl (x.1 p)) (λ p. inr (y.1 p)))
  value_same (Inter s r) b u =
      let x = value_same s b.0 u in
      let y = value_same r b.1 u in
      (λ p. (x.0 p.0, y.0 p.1), λ p. (x.1 p.0, y.1 p.1))
  value_same (Diff s r) b u =
      let x = value_same s b.0 u in
      let y = value_same r b.1 u in
      (λ p. (x.0 p.0, λ q. p.1 (y.1 q)), λ p. (x.1 p.0, λ q. p.1 (y.0 q)))
  value_same (Transp s) b u = value_same s b (reverse u)
  value_same (Prod s r) b u = (
    λ p. (p.0, p.1, p.2, (value_same s b.0 p.0).0 p.3, (value_same r b.1 p.1).0 p.4),
    λ p. (p.0, p.1, p.2, (value_same s b.0 p.0).1 p.3, (value_same r b.1 p.1).1 p.4),
  )
  value_same (Join s r) b u = (
    λ p. (p.0, p.1, p.2, p.3, (value_same s b.0 (p.0 ++ (p.1 ∷ []))).0 p.4, (value_same r b.1 (p.1 ∷ p.2)).0 p.5),
    λ p. (p.0, p.1, p.2, p.3, (value_same s b.0 (p.0 ++ (p.1 ∷ []))).1 p.4, (value_same r b.1 (p.1 ∷ p.2)).1 p.5),
  )
  value_same (Closure s) b u = (
    λ p. (p.0, p.1, p.2, chain_bind (λ x y r. one ((value_same s b (x ∷ (y ∷ []))).0 r)) p.3),
    λ p. (p.0, p.1, p.2, chain_bind (λ x y r. one ((value_same s b (x ∷ (y ∷ []))).1 r)) p.3),
  )

  module _ (fit : (t : ℕ) (o : Op) (k : ℕ) → RowIs rs t o k → OpFits rs n t k o) where
    holds_same : (f : Form) → FormFits rs n f → Holds rs I I.name f ↔ Holds rs J J.name f
    holds_same (member u t) h =
        let q = map_old I.name J.name n names_same u h.1 in
        let v = value_same (term rs t) (built rs n fit t h.0.op _ h.0.row) in
        (λ p. subst (Value rs J t) q ((v (map I.name u)).0 p), λ p. (v (map I.name u)).1 (subst (Value rs J t) (sym q) p))
    holds_same (equal a b) h =
        (λ e. sym (names_same a h.0) ∙ e ∙ names_same b h.1, λ e. names_same a h.0 ∙ e ∙ sym (names_same b h.1))
    holds_same (same s r) h =
        let x = value_same (term rs s) (built rs n fit s h.1.op _ h.1.row) in
        let y = value_same (term rs r) (built rs n fit r h.2.op _ h.2.row) in (
          λ p u. (λ q. (y u).0 ((p u).0 ((x u).1 q)), λ q. (x u).0 ((p u).1 ((y u).1 q))),
          λ p u. (λ q. (y u).1 ((p u).0 ((x u).0 q)), λ q. (x u).1 ((p u).1 ((y u).0 q))),
        )

    sat_same : (g : Bool) (f : Form) → FormFits rs n f → Sat rs I I.name g f → Sat rs J J.name g f
    sat_same true f h p = (holds_same f h).0 p
    sat_same false f h p = λ q. p ((holds_same f h).1 q)

    pub all_same : (cs : List Fact) → AllByRecursion (λ (c : Fact). FormFits rs n c.form) cs → AllByRecursion (SatFact rs I I.name) cs → AllByRecursion (SatFact rs J J.name) cs
    all_same [] h p = tt
    all_same (c ∷ cs) h p = (sat_same c.sign c.form h.0 p.0, all_same cs h.1 p.1)

pub satisfies_same : {A : Type 0} (S : Sheet) → Full S → (I J : Interp A) → ((i : ℕ) → i < names S → I.name i ≡ J.name i) → ((t k : ℕ) → RowIs S.rows t variable k → (u : List A) → Mem u (I.rel t) ↔ Mem u (J.rel t)) → Satisfies S I → Satisfies S J
satisfies_same S full I J ns ms p = all_same S.rows (names S) I J ns ms full.rows_fit S.constraints full.constraints_fit p
