-- Lists as sets: what putting in leaves (`puts_old`, `puts_new`, `puts_from`, `apart_puts`), and that a list
-- without repetition is not longer than one with all its elements (`not_longer`).
use Rattle.std.proofs.Common.{◌≡◌, ℕ, zero, suc, ◌<◌, ◌≤◌, Bool, true, false, cond, ◌||◌, ◌⊎◌, List, [], ◌∷◌, ◌++◌, length, get_or, Decides, sym, refl, ap, ◌∙◌, subst, inl, inr, ⊎_elim, arith, length-append}
use Rattle.std.proofs.lemmas.List.Folds.{list_any-append}
use Rattle.std.proofs.lemmas.Bool.{or_cases, or_left, or_right, cases_Bool, both_ways}
use Rattle.values.specs.Sets.{has, put, puts, In, Apart}

module _ {X : Type 0} where
  pub in_left : (xs ys : List X) (x : X) → In xs x → In (xs ++ ys) x
  in_left [] ys x m = absurd m
  in_left (a ∷ xs) ys x m = ⊎_elim (λ e. inl e) (λ n. inr (in_left xs ys x n)) m

  pub in_right : (xs ys : List X) (x : X) → In ys x → In (xs ++ ys) x
  in_right [] ys x m = m
  in_right (a ∷ xs) ys x m = inr (in_right xs ys x m)

  pub in_cases : (xs ys : List X) (x : X) → In (xs ++ ys) x → In xs x ⊎ In ys x
  in_cases [] ys x m = inr m
  in_cases (a ∷ xs) ys x m =
      ⊎_elim (λ e. inl (inl e)) (λ n. ⊎_elim (λ p. inl (inr p)) (λ q. inr q) (in_cases xs ys x n)) m

  pub in_push : (xs : List X) (y x : X) → In (xs ++ y ∷ []) x → In xs x ⊎ (y ≡ x)
  in_push xs y x m = ⊎_elim (λ p. inl p) (λ q. ⊎_elim (λ e. inr e) (λ n. absurd n) q) (in_cases xs (y ∷ []) x m)

  pub in_get_d : (xs : List X) (k : ℕ) (d : X) → k < length xs → In xs (get_or xs k d)
  in_get_d [] k d h = absurd (omega arith)
  in_get_d (y ∷ ys) zero d h = inl refl
  in_get_d (y ∷ ys) (suc k) d h = inr (in_get_d ys k d (omega arith))

  pub apart_push : (xs : List X) (y : X) → Apart xs → (In xs y → ⊥) → Apart (xs ++ y ∷ [])
  apart_push [] y a n = (λ m. m, tt)
  apart_push (x ∷ xs) y a n =
      (λ m. ⊎_elim (λ p. a.0 p) (λ e. n (inl (sym e))) (in_push xs y x m), apart_push xs y a.1 (λ m. n (inr m)))

  -- the list without one of its elements
  out : (ys : List X) (x : X) → In ys x → List X
  out [] x m = []
  out (y ∷ ys) x (inl e) = ys
  out (y ∷ ys) x (inr m) = y ∷ out ys x m

  out_length : (ys : List X) (x : X) (m : In ys x) → length ys ≡ suc (length (out ys x m))
  unfolding out
  out_length [] x m = absurd m
  out_length (y ∷ ys) x (inl e) = refl
  out_length (y ∷ ys) x (inr m) = ap suc (out_length ys x m)

  out_other : (ys : List X) (x : X) (m : In ys x) (z : X) → (x ≡ z → ⊥) → In ys z → In (out ys x m) z
  unfolding out
  out_other [] x m z n i = absurd m
  out_other (y ∷ ys) x (inl e) z n i = ⊎_elim (λ p. absurd (n (sym e ∙ p))) (λ p. p) i
  out_other (y ∷ ys) x (inr m) z n i = ⊎_elim (λ p. inl p) (λ p. inr (out_other ys x m z n p)) i

  -- a list without repetitions whose elements all lie in another is not longer
  pub not_longer : (xs ys : List X) → Apart xs → ((x : X) → In xs x → In ys x) → length xs ≤ length ys
  not_longer [] ys a f = omega arith
  not_longer (x ∷ xs) ys a f =
      let m = f x (inl refl) in
      let l = out_length ys x m in
      let r = not_longer xs (out ys x m) a.1 (λ z i. out_other ys x m z (λ e. a.0 (subst (In xs) (sym e) i)) (f z (inr i))) in
      omega arith

module _ {X : Type 0} (e : X → X → Bool) where
  pub has_push : (v : List X) (x t : X) → has e v t ≡ false → e x t ≡ false → has e (v ++ x ∷ []) t ≡ false
  has_push v x t h k =
      list_any-append (λ y. e y t) v (x ∷ []) ∙ ap (λ b. b || (e x t || false)) h ∙ ap (λ b. b || false) k

  pub length-put : (v : List X) (t : X) → length v ≤ length (put e v t)
  length-put v t =
      elim (has e v t) as (λ b. length v ≤ length (cond b v (v ++ t ∷ []))) [ true ↦ omega arith | false ↦ omega (arith, length-append v (t ∷ [])) ]

  pub length-puts : (v ts : List X) → length v ≤ length (puts e v ts)
  length-puts v [] = omega arith
  length-puts v (t ∷ ts) = let a = length-put v t in let b = length-puts (put e v t) ts in omega arith

  pub puts-append : (v ts us : List X) → puts e v (ts ++ us) ≡ puts e (puts e v ts) us
  puts-append v [] us = refl
  puts-append v (t ∷ ts) us = puts-append (put e v t) ts us

module _ {X : Type 0} (e : X → X → Bool) (law : (x y : X) → Decides (e x y) (x ≡ y)) where
  pub has_in : (v : List X) (t : X) → has e v t ≡ true → In v t
  has_in [] t h = absurd (both_ways false refl h)
  has_in (y ∷ ys) t h = ⊎_elim (λ p. inl ((law y t).0 p)) (λ p. inr (has_in ys t p)) (or_cases (e y t) (has e ys t) h)

  pub in_has : (v : List X) (t : X) → In v t → has e v t ≡ true
  in_has [] t m = absurd m
  in_has (y ∷ ys) t m =
      ⊎_elim (λ p. or_left (e y t) (has e ys t) ((law y t).1 p)) (λ p. or_right (e y t) (has e ys t) (in_has ys t p)) m

  pub has_not : (v : List X) (t : X) → has e v t ≡ false → In v t → ⊥
  has_not v t h m = both_ways (has e v t) h (in_has v t m)

  pub apart_put : (v : List X) (t : X) → Apart v → Apart (put e v t)
  apart_put v t a =
      ⊎_elim (λ (p : has e v t ≡ true). rw p a) (λ (p : has e v t ≡ false). rw p (apart_push v t a (has_not v t p))) (cases_Bool (has e v t))

  pub put_old : (v : List X) (t x : X) → In v x → In (put e v t) x
  put_old v t x m =
      ⊎_elim (λ (p : has e v t ≡ true). rw p m) (λ (p : has e v t ≡ false). rw p (in_left v (t ∷ []) x m)) (cases_Bool (has e v t))

  pub put_new : (v : List X) (t : X) → In (put e v t) t
  put_new v t =
      ⊎_elim (λ (p : has e v t ≡ true). rw p (has_in v t p)) (λ (p : has e v t ≡ false). rw p (in_right v (t ∷ []) t (inl refl))) (cases_Bool (has e v t))

  pub put_from : (v : List X) (t x : X) → In (put e v t) x → In v x ⊎ (t ≡ x)
  put_from v t x m =
      ⊎_elim (λ (p : has e v t ≡ true). inl (rw p at m)) (λ (p : has e v t ≡ false). in_push v t x (rw p at m)) (cases_Bool (has e v t))

  pub apart_puts : (v ts : List X) → Apart v → Apart (puts e v ts)
  apart_puts v [] a = a
  apart_puts v (t ∷ ts) a = apart_puts (put e v t) ts (apart_put v t a)

  pub puts_old : (v ts : List X) (x : X) → In v x → In (puts e v ts) x
  puts_old v [] x m = m
  puts_old v (t ∷ ts) x m = puts_old (put e v t) ts x (put_old v t x m)

  pub puts_new : (v ts : List X) (x : X) → In ts x → In (puts e v ts) x
  puts_new v [] x m = absurd m
  puts_new v (t ∷ ts) x m =
      ⊎_elim (λ p. puts_old (put e v t) ts x (subst (In (put e v t)) p (put_new v t))) (λ p. puts_new (put e v t) ts x p) m

  pub puts_from : (v ts : List X) (x : X) → In (puts e v ts) x → In v x ⊎ In ts x
  puts_from v [] x m = inl m
  puts_from v (t ∷ ts) x m =
      ⊎_elim (λ p. ⊎_elim (λ q. inl q) (λ q. inr (inl q)) (put_from v t x p)) (λ p. inr (inr p)) (puts_from (put e v t) ts x m)
