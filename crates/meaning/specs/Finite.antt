-- The value of a term, over a carrier with decided equality, is a finite list; so membership is decided.
use Rattle.std.specs.Prelude.{◌≡◌, ℕ, ◌⊎◌, ◌↔◌, List, [], ◌∷◌, ◌++◌, map, reverse, ◌≢◌}
use Rattle.std.proofs.Math.Path.{refl, sym, ap, ap₂, subst}
use Rattle.std.proofs.Common.{◌∙◌, arith, inl, inr}
use Rattle.std.proofs.lemmas.List.{same_from_push}
use Rattle.std.proofs.Math.Logic.{⊎_elim}
use Rattle.std.proofs.Math.Logic.Dec
use mathlib.Core.List.{reverse-reverse, Memᴰ as Mem}
use mathlib.Core.List.Memᴰ
use mathlib.Core.List.{head-eq_of_cons-eq, tail-eq_of_cons-eq}
use Rattle.meaning.specs.Terms.{Tm, Var, Empty, Single, Union, Inter, Diff, Transp, Prod, Join, Closure}
use Rattle.meaning.specs.Meaning.{Interp, In}
use Rattle.meaning.specs.Chains.{first, last, chain_dec}

-- A predicate with a finite list of exactly its elements.
pub record Finite {X : Type 0} (P : X → Type 0) : Type 0 where
  pub items : List X
  pub all : (x : X) → P x → Mem x items
  pub only : (x : X) → Mem x items → P x

module _ {X : Type 0} where
  -- Being in a list is decided.
  unfoldable pub mem_dec : Discrete X → (x : X) (l : List X) → Dec (Mem x l)
  mem_dec d x [] = no Memᴰ.not-nil
  mem_dec d x (y ∷ l) = go (d x y) (mem_dec d x l)
    where
      go : Dec (x ≡ y) → Dec (Mem x l) → Dec (Mem x (y ∷ l))
      go (yes e) m = yes (Mem.head e)
      go (no n) (yes m) = yes (Mem.tail m)
      go (no n) (no k) = no (λ m. ⊎_elim n k (Memᴰ.cases_cons m))

  -- And so is a predicate with such a list.
  unfoldable pub finite_dec : Discrete X → {P : X → Type 0} → Finite P → (x : X) → Dec (P x)
  finite_dec d {P} F x = go (mem_dec d x F.items)
    where
      go : Dec (Mem x F.items) → Dec (P x)
      go (yes m) = yes (F.only x m)
      go (no n) = no (λ p. n (F.all x p))

  -- No element.
  unfoldable pub none_of : {P : X → Type 0} → ((x : X) → P x → ⊥) → Finite P
  none_of n = record { items = []; all = λ x p. absurd (n x p); only = λ x m. absurd (Memᴰ.not-nil m) }

  -- One element.
  unfoldable pub one_of : {P : X → Type 0} (x₀ : X) → P x₀ → ((x : X) → P x → x ≡ x₀) → Finite P
  one_of {P} x₀ p u = record {
    items = x₀ ∷ [];
    all = λ x q. Mem.head (u x q);
    only = λ x m. subst P (sym (Memᴰ.eq_of_singleton m)) p;
  }

  -- The elements of a list.
  unfoldable pub listed : (l : List X) → Finite (λ x. Mem x l)
  listed l = record { items = l; all = λ x m. m; only = λ x m. m }

  -- What a decided test keeps of a list.
  unfoldable pub keep : {Q : X → Type 0} → ((x : X) → Dec (Q x)) → (l : List X) → Finite (λ x. Mem x l × Q x)
  keep d [] = none_of (λ x p. Memᴰ.not-nil p.0)
  keep {Q} d (y ∷ l) = go (d y) (keep d l)
    where
      go : Dec (Q y) → Finite (λ x. Mem x l × Q x) → Finite (λ x. Mem x (y ∷ l) × Q x)
      go (yes q) F = record {
        items = y ∷ F.items;
        all = λ x p.
            ⊎_elim (λ e. Mem.head e) (λ m. Mem.tail (F.all x (m, p.1)))
            (Memᴰ.cases_cons p.0);
        only = λ x m.
            ⊎_elim (λ e. (Mem.head e, subst Q (sym e) q))
            (λ m'. (Mem.tail (F.only x m').0, (F.only x m').1)) (Memᴰ.cases_cons m);
      }
      go (no n) F = record {
        items = F.items;
        all = λ x p.
            ⊎_elim (λ e. absurd (n (subst Q e p.1))) (λ m. F.all x (m, p.1))
            (Memᴰ.cases_cons p.0);
        only = λ x m. (Mem.tail (F.only x m).0, (F.only x m).1);
      }

  -- The elements of two predicates together.
  unfoldable pub either : {P Q : X → Type 0} → Finite P → Finite Q → Finite (λ x. P x ⊎ Q x)
  either F G = record {
    items = F.items ++ G.items;
    all = λ x.
        ⊎_elim (λ p. Memᴰ.append_left G.items (F.all x p))
        (λ q. Memᴰ.append_right F.items (G.all x q));
    only = λ x m.
        ⊎_elim (λ m'. inl (F.only x m')) (λ m'. inr (G.only x m')) (Memᴰ.append_cases F.items m);
  }

  -- Another predicate that says the same.
  unfoldable pub remap : {P Q : X → Type 0} →
      Finite P → ((x : X) → P x → Q x) → ((x : X) → Q x → P x) → Finite Q
  remap F f g = record { items = F.items; all = λ x q. F.all x (g x q); only = λ x m. f x (F.only x m) }

  -- What a decided test keeps of a predicate.
  unfoldable pub kept : {P Q : X → Type 0} → Finite P → ((x : X) → Dec (Q x)) → Finite (λ x. P x × Q x)
  kept F d = remap (keep d F.items) (λ x p. (F.only x p.0, p.1)) (λ x p. (F.all x p.0, p.1))

  -- Some member fails a decided test, or all pass it.
  unfoldable pub all_or : {Q : X → Type 0} → ((x : X) → Dec (Q x)) → (l : List X) →
      ((x : X) × Mem x l × ¬ (Q x)) ⊎ ((x : X) → Mem x l → Q x)
  all_or d [] = inr (λ x m. absurd (Memᴰ.not-nil m))
  all_or {Q} d (y ∷ l) = go (d y) (all_or d l)
    where
      go : Dec (Q y) → ((x : X) × Mem x l × ¬ (Q x)) ⊎ ((x : X) → Mem x l → Q x) →
          ((x : X) × Mem x (y ∷ l) × ¬ (Q x)) ⊎ ((x : X) → Mem x (y ∷ l) → Q x)
      go (no n) r = inl (y, Mem.head refl, n)
      go (yes q) (inl p) = inl (p.0, Mem.tail p.1, p.2)
      go (yes q) (inr f) =
          inr (λ x m. ⊎_elim (λ e. subst Q (sym e) q) (λ m'. f x m') (Memᴰ.cases_cons m))

module _ {X Y : Type 0} where
  -- The values of a function.
  unfoldable pub image : {P : X → Type 0} → Finite P → (f : X → Y) → Finite (λ y. (x : X) × P x × (f x ≡ y))
  image F f = record {
    items = map f F.items;
    all = λ y p. Memᴰ.cast (sym p.2) (Memᴰ.map f (F.all p.0 p.1));
    only = λ y m. let r = Memᴰ.of_map f F.items m in (r.0, F.only r.0 r.1, r.2);
  }

  -- The elements that each member of a list brings.
  unfoldable pub bind_list : {Q : X → Y → Type 0} (l : List X) → ((x : X) → Finite (Q x)) →
      Finite (λ y. (x : X) × Mem x l × Q x y)
  bind_list [] G = none_of (λ y p. Memᴰ.not-nil p.1)
  bind_list {Q} (x ∷ l) G = remap (either (G x) (bind_list l G)) from to
    where
      from : (y : Y) → Q x y ⊎ ((x' : X) × Mem x' l × Q x' y) → (x' : X) × Mem x' (x ∷ l) × Q x' y
      from y (inl q) = (x, Mem.head refl, q)
      from y (inr p) = (p.0, Mem.tail p.1, p.2)

      to : (y : Y) → (x' : X) × Mem x' (x ∷ l) × Q x' y → Q x y ⊎ ((x' : X) × Mem x' l × Q x' y)
      to y p =
          ⊎_elim (λ e. inl (subst (λ (z : X). Q z y) e p.2)) (λ m. inr (p.0, m, p.2))
          (Memᴰ.cases_cons p.1)

  -- And those that each element of a predicate brings.
  unfoldable pub bind : {P : X → Type 0} {Q : X → Y → Type 0} → Finite P → ((x : X) → Finite (Q x)) →
      Finite (λ y. (x : X) × P x × Q x y)
  bind F G =
      remap (bind_list F.items G) (λ y p. (p.0, F.only p.0 p.1, p.2))
      (λ y p. (p.0, F.all p.0 p.1, p.2))

-- Equality of tuples is decided place by place.
unfoldable pub tuple_dec : {A : Type 0} → Discrete A → Discrete (List A)
tuple_dec d [] [] = yes refl
tuple_dec d [] (y ∷ v) = no (λ e. let z : ◌≡◌ {A = ℕ} 0 1 = cc in omega arith)
tuple_dec d (x ∷ u) [] = no (λ e. let z : ◌≡◌ {A = ℕ} 0 1 = cc in omega arith)
tuple_dec d (x ∷ u) (y ∷ v) = go (d x y) (tuple_dec d u v)
  where
    go : Dec (x ≡ y) → Dec (u ≡ v) → Dec (x ∷ u ≡ y ∷ v)
    go (yes p) (yes q) = yes (ap₂ ◌∷◌ p q)
    go (yes p) (no n) = no (λ e. n (tail-eq_of_cons-eq e))
    go (no n) q = no (λ e. n (head-eq_of_cons-eq e))

module _ {A : Type 0} (d : Discrete A) where
  -- The members of all lists.
  unfoldable pub flat : List (List A) → List A
  flat [] = []
  flat (v ∷ l) = v ++ flat l

  -- A member of one of them is among these.
  pub mem_flat : {x : A} {v : List A} (l : List (List A)) → Mem v l → Mem x v → Mem x (flat l)
  unfolding flat
  mem_flat [] m k = absurd (Memᴰ.not-nil m)
  mem_flat {x} {v} (w ∷ l) m k =
      ⊎_elim (λ e. Memᴰ.append_left (flat l) (subst (Mem x) e k))
      (λ m'. Memᴰ.append_right w (mem_flat l m' k)) (Memᴰ.cases_cons m)

  -- u is the join of v and w.
  unfoldable pub Joined : List A → List A → List A → Type 0
  Joined v w u = (a : List A) × (m : A) × (b : List A) × (v ≡ a ++ (m ∷ [])) × (w ≡ m ∷ b) × (u ≡ a ++ b)

  -- A list is empty or has a last member.
  unfoldable pub unsnoc : (v : List A) → (v ≡ []) ⊎ ((a : List A) × (m : A) × (v ≡ a ++ (m ∷ [])))
  unsnoc [] = inl refl
  unsnoc (x ∷ v) = go (unsnoc v)
    where
      go : (v ≡ []) ⊎ ((a : List A) × (m : A) × (v ≡ a ++ (m ∷ []))) →
          (x ∷ v ≡ []) ⊎ ((a : List A) × (m : A) × (x ∷ v ≡ a ++ (m ∷ [])))
      go (inl e) = inr ([], x, ap (λ (l : List A). x ∷ l) e)
      go (inr p) = inr (x ∷ p.0, p.1, ap (λ (l : List A). x ∷ l) p.2)

  -- An empty list has no last member, and no first.
  pub no_snoc : (a : List A) (m : A) → [] ≢ a ++ (m ∷ [])
  no_snoc [] m e = let z : ◌≡◌ {A = ℕ} 0 1 = cc in omega arith
  no_snoc (x ∷ a) m e = let z : ◌≡◌ {A = ℕ} 0 1 = cc in omega arith

  pub no_cons : (m : A) (b : List A) → [] ≢ m ∷ b
  no_cons m b e = let z : ◌≡◌ {A = ℕ} 0 1 = cc in omega arith

  -- Two tuples have one join or none.
  unfoldable pub joined_one : (v w : List A) → Finite (Joined v w)
  unfolding Joined
  joined_one v w = go (unsnoc v) w
    where
      meet : (a : List A) (m : A) → v ≡ a ++ (m ∷ []) → (m' : A) (b : List A) → Dec (m ≡ m') →
          Finite (Joined v (m' ∷ b))
      meet a m e m' b (yes q) =
          one_of (a ++ b) (a, m, b, e, ap (λ (x : A). x ∷ b) (sym q), refl)
          (λ u p.
          let r = same_from_push a p.0 m p.1 (sym e ∙ p.3) in
          p.5 ∙ ap₂ ◌++◌ (sym r.0) (sym (tail-eq_of_cons-eq p.4)))
      meet a m e m' b (no n) =
          none_of
          (λ u p. n ((same_from_push a p.0 m p.1 (sym e ∙ p.3)).1 ∙ sym (head-eq_of_cons-eq p.4)))

      go : (v ≡ []) ⊎ ((a : List A) × (m : A) × (v ≡ a ++ (m ∷ []))) → (w : List A) → Finite (Joined v w)
      go (inl e) w = none_of (λ u p. no_snoc p.0 p.1 (sym e ∙ p.3))
      go (inr p) [] = none_of (λ u q. no_cons q.1 q.2 q.4)
      go (inr p) (m' ∷ b) = meet p.0 p.1 p.2 m' b (d p.1 m')

  -- The value of each term is a finite list.
  unfoldable pub finite : (I : Interp A) (t : Tm) → Finite (In I t)
  unfolding Joined
  finite I (Var n) = listed (I.rel n)
  finite I Empty = none_of (λ u p. p)
  finite I (Single v) = one_of (map I.name v) refl (λ u e. e)
  finite I (Union s r) = either (finite I s) (finite I r)
  finite I (Inter s r) = kept (finite I s) (finite_dec (tuple_dec d) (finite I r))
  finite I (Diff s r) = kept (finite I s) (λ u. Dec.not (finite_dec (tuple_dec d) (finite I r) u))
  finite I (Transp s) =
      remap (image (finite I s) reverse)
      (λ u p. subst (In I s) (sym (reverse-reverse p.0) ∙ ap reverse p.2) p.1)
      (λ u p. (reverse u, p, reverse-reverse u))
  finite I (Prod s r) =
      remap (bind (finite I s) (λ a. image (finite I r) (λ b. a ++ b)))
      (λ u p. (p.0, p.2.0, sym p.2.2, p.1, p.2.1))
      (λ u p. (p.0, p.3, (p.1, p.4, sym p.2)))
  finite I (Join s r) =
      remap (bind (finite I s) (λ v. bind (finite I r) (λ w. joined_one v w)))
      (λ u p.
      let q = p.2.2 in
      (q.0, q.1, q.2, q.5, subst (In I s) q.3 p.1, subst (In I r) q.4 p.2.1))
      (λ u p. (p.0 ++ (p.1 ∷ []), p.4, (p.1 ∷ p.2, p.5, (p.0, p.1, p.2, refl, refl, p.3))))
  finite I (Closure s) = closed (finite I s)
    where
      closed : Finite (In I s) → Finite (In I (Closure s))
      closed F =
          let R : A → A → Type 0 = λ p q. In I s (p ∷ (q ∷ [])) in
          let V : List A = flat F.items in
          let src : (x y : A) → R x y → Mem x V =
          λ x y r. mem_flat F.items (F.all _ r) (Mem.head refl) in
          let tgt : (x y : A) → R x y → Mem y V =
          λ x y r. mem_flat F.items (F.all _ r) (Mem.tail (Mem.head refl)) in
          let decR : (x y : A) → Dec (R x y) = λ x y. finite_dec (tuple_dec d) F (x ∷ (y ∷ [])) in
          remap (bind (listed V) (λ x. image (keep (chain_dec R V src decR x) V) (λ y. x ∷ (y ∷ []))))
          (λ u p. (p.0, p.2.0, sym p.2.2, p.2.1.1))
          (λ u p. (
            p.0,
            src p.0 (first p.3).0 (first p.3).1,
            (p.1, (tgt (last p.3).0 p.1 (last p.3).1, p.3), sym p.2),
          ))

  -- Membership is decided.
  unfoldable pub in_dec : (I : Interp A) (t : Tm) (u : List A) → Dec (In I t u)
  in_dec I t u = finite_dec (tuple_dec d) (finite I t) u

  -- Two terms that do not have the same tuples: there is a tuple that one has and the other has not.
  pub differ : (I : Interp A) (s r : Tm) → ¬ ((u : List A) → In I s u ↔ In I r u) →
      ((u : List A) × In I s u × ¬ (In I r u)) ⊎ ((u : List A) × ¬ (In I s u) × In I r u)
  differ I s r h = go (all_or (in_dec I r) (finite I s).items) (all_or (in_dec I s) (finite I r).items)
    where
      go : ((u : List A) × Mem u (finite I s).items × ¬ (In I r u))
          ⊎ ((u : List A) → Mem u (finite I s).items → In I r u) →
          ((u : List A) × Mem u (finite I r).items × ¬ (In I s u))
          ⊎ ((u : List A) → Mem u (finite I r).items → In I s u) →
          ((u : List A) × In I s u × ¬ (In I r u)) ⊎ ((u : List A) × ¬ (In I s u) × In I r u)
      go (inl p) q = inl (p.0, (finite I s).only p.0 p.1, p.2)
      go (inr f) (inl q) = inr (q.0, q.2, (finite I r).only q.0 q.1)
      go (inr f) (inr g) = absurd (h (λ u. (λ p. f u ((finite I s).all u p), λ p. g u ((finite I r).all u p))))
