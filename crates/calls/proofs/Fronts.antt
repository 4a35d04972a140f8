-- What writes leave in the counted fronts of the stores: the facts of an alternative come after the front that
-- they are written to (`put_front`, `put_below`), and the last of a front is split off it (`last_split`).
use Rattle.std.proofs.Common.{◌≡◌, ℕ, ◌+◌, ◌-◌, ◌<◌, ◌≤◌, List, [], ◌∷◌, ◌++◌, length, take, set, Some, None, sym, refl, ap, ◌∙◌, arith, length-set, length-take}
use Rattle.std.specs.List.{slice_get}
use Rattle.std.proofs.lemmas.Option.{slice_get_within, gets}
use Rattle.std.proofs.lemmas.Grind.{common_steps}
use Rattle.std.proofs.lemmas.List.{append-nil, take-append-le, take-take, take_more}
use Rattle.calls.specs.RuleSteps.{put_all}

-- ── fronts ─────────────────────────────────────────────────────────────────

-- lists with one front have each shorter front in common
pub front_cut :
    {X : Type 0} (xs ys : List X) (k m : ℕ) → k ≤ m → take m xs ≡ take m ys → take k xs ≡ take k ys
front_cut xs ys k m l e = sym (take-take k m xs l) ∙ ap (take k) e ∙ take-take k m ys l

-- lists with one front have its entries in common
pub nth_cut :
    {X : Type 0} (xs ys : List X) (m i : ℕ) → i < m → take m xs ≡ take m ys → slice_get xs i ≡ slice_get ys i
nth_cut xs ys m i l e = grind (arith, common_steps, gets, ap (λ (z : List _). slice_get z i) e)

-- the last of a front
pub last_split :
    {X : Type 0} (xs : List X) (k : ℕ) (x : X) → k ≤ length xs → slice_get (take k xs) (k - 1) ≡ Some x →
    take k xs ≡ take (k - 1) xs ++ (x ∷ [])
last_split xs k x h e =
    let q : k ≡ k - 1 + 1 = let l = slice_get_within (take k xs) (k - 1) x e in omega (arith, length-take k xs) in
    grind (arith, common_steps, gets, ap (λ (j : ℕ). take j xs) q, take_more xs (k - 1) x)

-- a front without a last is empty
pub no_last :
    {X : Type 0} (xs : List X) (k : ℕ) → k ≤ length xs → slice_get (take k xs) (k - 1) ≡ None → take k xs ≡ []
no_last xs k h e = grind (arith, common_steps, gets)

-- a front that has a last has a place
pub has_last : {X : Type 0} (k : ℕ) (xs : List X) (x : X) → slice_get (take k xs) (k - 1) ≡ Some x → 1 ≤ k
has_last k xs x e = let l = slice_get_within (take k xs) (k - 1) x e in omega (arith, length-take k xs)

-- ── a list written ─────────────────────────────────────────────────────────

module _ {X : Type 0} where
  -- the front up to the last element that is written
  pub put_front :
      (xs : List X) (i : ℕ) (ys : List X) → i + length ys ≤ length xs →
      take (i + length ys) (put_all xs i ys) ≡ take i xs ++ ys
  put_front xs i [] h = let e : i + 0 ≡ i = omega arith in ap (λ (k : ℕ). take k xs) e ∙ sym (append-nil (take i xs))
  put_front xs i (y ∷ ys) h =
      let l : i + 1 + length ys ≤ length (set xs i y) = omega (arith, length-set xs i y) in
      grind (arith, common_steps, put_front (set xs i y) (i + 1) ys l)

  -- the store stays as long
  pub put_length : (xs : List X) (i : ℕ) (ys : List X) → length (put_all xs i ys) ≡ length xs
  put_length xs i [] = refl
  put_length xs i (y ∷ ys) = put_length (set xs i y) (i + 1) ys ∙ length-set xs i y

  -- a front that ends at or before the place stays
  pub put_below :
      (xs : List X) (i : ℕ) (ys : List X) (c : ℕ) → c ≤ i → i + length ys ≤ length xs →
      take c (put_all xs i ys) ≡ take c xs
  put_below xs i ys c l h =
      let lt : i ≤ length (take i xs) = omega (arith, length-take i xs) in
      sym (take-take c (i + length ys) (put_all xs i ys) (omega arith))
      ∙ ap (take c) (put_front xs i ys h)
      ∙ take-append-le c (take i xs) ys (omega arith)
      ∙ take-take c i xs l
