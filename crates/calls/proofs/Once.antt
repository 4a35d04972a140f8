-- Two lists without repetition and with the same members are equally long: `equally_long`. `once` has no
-- repetition and the same members: `once_exactly`.
use Rattle.std.proofs.Common.{◌≡◌, ◌+◌, ◌≤◌, ◌⊎◌, List, [], ◌∷◌, length, sym, refl, ◌∙◌, subst, inl, inr, ⊎_elim, arith}
use mathlib.Core.List.{Memᴰ as Mem}
use mathlib.Core.List.Memᴰ
use Rattle.meaning.specs.Finite.{Finite, mem_dec}
use Rattle.meaning.specs.Mixes.{Once, Exactly}
use Rattle.calls.specs.Models.{only_new, once}

module _ {X : Type 0} where
  -- a list without one place at which x stands
  removed : (x : X) (l : List X) → Mem x l →
      (k : List X) × (length l ≡ length k + 1) × ((y : X) → Mem y l → (y ≡ x) ⊎ Mem y k)
  removed x [] m = absurd (Memᴰ.not-nil m)
  removed x (z ∷ l) m = go (removed x l) (Memᴰ.cases_cons m)
    where
      keep : (k : List X) → ((y : X) → Mem y l → (y ≡ x) ⊎ Mem y k) →
          (y : X) → (y ≡ z) ⊎ Mem y l → (y ≡ x) ⊎ Mem y (z ∷ k)
      keep k f y (inl e) = inr (Mem.head e)
      keep k f y (inr i) = ⊎_elim (λ e. inl e) (λ j. inr (Mem.tail j)) (f y i)

      go : (Mem x l → (k : List X) × (length l ≡ length k + 1) × ((y : X) → Mem y l → (y ≡ x) ⊎ Mem y k)) →
          (x ≡ z) ⊎ Mem x l →
          (k : List X) × (length (z ∷ l) ≡ length k + 1)
          × ((y : X) → Mem y (z ∷ l) → (y ≡ x) ⊎ Mem y k)
      go ih (inl e) =
          (l, omega arith, λ y i. ⊎_elim (λ q. inl (q ∙ sym e)) (λ j. inr j) (Memᴰ.cases_cons i))
      go ih (inr i) =
          let r = ih i in
          (z ∷ r.0, omega (arith, r.1), λ y j. keep r.0 r.2 y (Memᴰ.cases_cons j))

  -- a list without repetition is not longer than one with all its members
  pub not_longer : (l k : List X) → Once l → ((x : X) → Mem x l → Mem x k) → length l ≤ length k
  not_longer [] k o h = omega arith
  not_longer (x ∷ l) k o h =
      let r = removed x k (h x (Mem.head refl)) in
      let ih = not_longer l r.0 o.1
      (λ y m. ⊎_elim (λ e. absurd (o.0 (subst (λ (z : X). Mem z l) e m))) (λ j. j)
      (r.2 y (h y (Mem.tail m)))) in
      omega (arith, r.1, ih)

  pub equally_long : {P : X → Type 0} (l k : List X) → Exactly P l → Exactly P k → length l ≡ length k
  equally_long l k p q =
      let a = not_longer l k p.once (λ x m. q.all x (p.only x m)) in
      let b = not_longer k l q.once (λ x m. p.all x (q.only x m)) in
      omega (arith, a, b)

  module _ (d : Discrete X) where
    in_new : (x y : X) (l : List X) (c : Dec (Mem x l)) → (y ≡ x) ⊎ Mem y l → Mem y (only_new x l c)
    in_new x y l (yes m) (inl e) = subst (λ (z : X). Mem z l) (sym e) m
    in_new x y l (yes m) (inr i) = i
    in_new x y l (no n) (inl e) = Mem.head e
    in_new x y l (no n) (inr i) = Mem.tail i

    of_new : (x y : X) (l : List X) (c : Dec (Mem x l)) → Mem y (only_new x l c) → (y ≡ x) ⊎ Mem y l
    of_new x y l (yes m) i = inr i
    of_new x y l (no n) i = Memᴰ.cases_cons i

    new_once : (x : X) (l : List X) (c : Dec (Mem x l)) → Once l → Once (only_new x l c)
    new_once x l (yes m) o = o
    new_once x l (no n) o = (n, o)

    in_once : (y : X) (l : List X) → Mem y l → Mem y (once d l)
    in_once y [] m = absurd (Memᴰ.not-nil m)
    in_once y (x ∷ l) m =
        in_new x y (once d l) (mem_dec d x (once d l))
        (⊎_elim (λ e. inl e) (λ i. inr (in_once y l i)) (Memᴰ.cases_cons m))

    of_once : (y : X) (l : List X) → Mem y (once d l) → Mem y l
    of_once y [] m = m
    of_once y (x ∷ l) m =
        ⊎_elim (λ e. Mem.head e) (λ i. Mem.tail (of_once y l i))
        (of_new x y (once d l) (mem_dec d x (once d l)) m)

    once_once : (l : List X) → Once (once d l)
    once_once [] = tt
    once_once (x ∷ l) = new_once x (once d l) (mem_dec d x (once d l)) (once_once l)

    pub once_exactly : {P : X → Type 0} (F : Finite P) → Exactly P (once d F.items)
    once_exactly F = record {
      all = λ x p. in_once x F.items (F.all x p);
      only = λ x m. F.only x (of_once x F.items m);
      once = once_once F.items;
    }
