-- Tuples are the same exactly where their test says so (`same_law`); what a search for one finds, and what putting
-- one in leaves of a value (`inserted`, `full`).
use Rattle.std.proofs.Common.{◌≡◌, ℕ, ◌+◌, ◌<◌, ◌≤◌, Bool, true, false, not, eqb, List, ◌∷◌, [], ◌++◌, length, get_or, take, drop, Some, None, Decides, refl, sym, ap, ◌∙◌, subst, arith, position}
use Rattle.std.proofs.lemmas.Bool.{and_parts, and_from, eqb-true, eq-eqb}
use Rattle.std.proofs.lemmas.List.{length-take-le, get_or-take, take_more_set, length-append, drop_more}
use Rattle.std.proofs.lemmas.List.Elements.{All-from_get_or}
use Rattle.std.proofs.lemmas.List.Folds.{list_any_none}
use Rattle.std.proofs.lemmas.List.Quantifiers.{position-Some}
use Rattle.std.proofs.lemmas.List.Sums.{prefix_len_passes}
use Rattle.std.specs.List.{flat_map, position_or_len}
use Rattle.values.specs.Sets.{has, put, puts, In}
use Rattle.records.specs.Tuples.{names, equal_names}
use Rattle.values.specs.Held.{Inserted}
use Rattle.records.specs.declared.tuple.Tuple.{Tuple}
use Rattle.values.specs.declared.value.Placed.{Placed}
use Rattle.values.specs.declared.value.Placed.TheVariants.{There, Added}
use Rattle.values.proofs.Theory.{in_has, in_get_d, puts-append, length-puts}

-- what is read where there is no tuple
abbrev pub no_tuple : Tuple
no_tuple = names 0 0 0 0

not_true : (b : Bool) → not b ≡ true → b ≡ false
not_true true e = sym e
not_true false e = refl

pub same_law : (a b : Tuple) → Decides (equal_names a b) (a ≡ b)
same_law a b = (to, from)
  where
    to : equal_names a b ≡ true → a ≡ b
    to h =
        let p = and_parts (eqb a.a b.a) _ h in
        let q = and_parts (eqb a.b b.b) _ p.1 in
        let r = and_parts (eqb a.c b.c) (eqb a.d b.d) q.1 in
        let e0 = eqb-true a.a b.a p.0 in
        let e1 = eqb-true a.b b.b q.0 in
        let e2 = eqb-true a.c b.c r.0 in
        let e3 = eqb-true a.d b.d r.1 in
        λ i. record { a = e0 i; b = e1 i; c = e2 i; d = e3 i }

    from : a ≡ b → equal_names a b ≡ true
    from e =
        and_from (eqb a.a b.a) _ (eq-eqb a.a b.a (ap (λ (t : Tuple). t.a) e))
        (and_from (eqb a.b b.b) _ (eq-eqb a.b b.b (ap (λ (t : Tuple). t.b) e))
        (and_from (eqb a.c b.c) _ (eq-eqb a.c b.c (ap (λ (t : Tuple). t.c) e))
        (eq-eqb a.d b.d (ap (λ (t : Tuple). t.d) e))))

module _ (xs : List Tuple) (t : Tuple) where
  -- none of the tuples before place i is t
  none_before : (i : ℕ) → i ≤ length xs → ((k : ℕ) → k < i → equal_names (get_or xs k t) t ≡ false) → has equal_names (take i xs) t ≡ false
  none_before i h f =
      let l = length-take-le i xs h in
      list_any_none (λ x. equal_names x t) (take i xs)
      (All-from_get_or (λ x. equal_names x t ≡ false) (take i xs) t
      (λ k m. subst (λ x. equal_names x t ≡ false) (sym (get_or-take i xs k t (omega arith))) (f k (omega arith))))

  -- what the search in the first j slots finds
  module _ (j : ℕ) (h : j ≤ length xs) where
    pub found : (k : ℕ) → position (λ x. equal_names x t) (take j xs) ≡ Some k → (k < j) × (get_or xs k t ≡ t) × (has equal_names (take k xs) t ≡ false)
    found k e =
        let l = length-take-le j xs h in
        let p = position-Some (λ x. equal_names x t) (take j xs) k t e in
        let low : k < j = omega (arith, p.0) in (
          low,
          sym (get_or-take j xs k t low) ∙ (same_law (get_or (take j xs) k t) t).0 p.1,
          none_before k (omega arith) (λ i m. subst (λ x. equal_names x t ≡ false) (get_or-take j xs i t (omega arith)) (p.2 i m)),
        )

    pub unfound : position (λ x. equal_names x t) (take j xs) ≡ None → has equal_names (take j xs) t ≡ false
    unfound e =
        let p : Tuple → Bool = λ x. equal_names x t in
        let all : length (take j xs) ≤ position_or_len p (take j xs) = grind (arith, e) in
        list_any_none p (take j xs)
        (All-from_get_or (λ x. p x ≡ false) (take j xs) t
        (λ k m. not_true (p (get_or (take j xs) k t)) (prefix_len_passes (λ x. not (p x)) (take j xs) k t (omega (arith, all)))))

-- what is put in is held: xs and ys are the slots before and after, j and m how many of them hold a tuple
module _ (xs ys : List Tuple) (j m : ℕ) (t : Tuple) (h : j ≤ length xs) where
  pub inserted : (p : Placed) → Inserted xs j t ys m (Some p) → take m ys ≡ put equal_names (take j xs) t
  inserted (There k) s =
      let l = length-take-le j xs h in
      let here : In (take j xs) t = subst (In (take j xs)) (get_or-take j xs k t s.0 ∙ s.1) (in_get_d (take j xs) k t (omega (arith, s.0))) in
      rw (s.3, s.4) (rw (in_has equal_names same_law (take j xs) t here) refl)
  inserted (Added k) s = rw (s.3, s.4) (rw s.2 (take_more_set xs j t s.1))

  pub full : Inserted xs j t ys m None → length xs < length (put equal_names (take j xs) t)
  full s =
      let l = length-take-le j xs h in
      let a = length-append (take j xs) (t ∷ []) in
      rw s.1 (omega (arith, s.0))

-- one turn of a loop that puts into v what each element of src offers, at the i-th, which is x and offers u
module _ {X Y : Type 0} (e : X → X → Bool) (f : Y → List X) (src : List Y) (i : ℕ) (l : i < length src) (x d : Y) (is : x ≡ get_or src i d) (v u : List X) (offered : u ≡ f x) where
  turned : puts e (puts e v u) (flat_map f (drop (i + 1) src)) ≡ puts e v (flat_map f (drop i src))
  turned =
      sym (puts-append e v u (flat_map f (drop (i + 1) src)))
      ∙ ap (λ w. puts e v (w ++ flat_map f (drop (i + 1) src))) (offered ∙ ap f is)
      ∙ ap (λ ys. puts e v (flat_map f ys)) (sym (drop_more src i d l))

  pub turn : (w : List X) → w ≡ puts e v u → puts e w (flat_map f (drop (i + 1) src)) ≡ puts e v (flat_map f (drop i src))
  turn w h = ap (λ q. puts e q (flat_map f (drop (i + 1) src))) h ∙ turned

  pub overrun : (k : ℕ) → k < length (puts e v u) → k < length (puts e v (flat_map f (drop i src)))
  overrun k h =
      let q = length-puts e (puts e v u) (flat_map f (drop (i + 1) src)) in
      omega (arith, ap length turned)
