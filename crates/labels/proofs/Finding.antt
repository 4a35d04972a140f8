-- A search from the front, one element after another: what comes of it where it stops (`found_here`), and where it goes
-- on (`not_yet`).
use Rattle.std.proofs.Common.{◌≡◌, ℕ, zero, suc, ◌+◌, ◌<◌, Bool, true, false, cond, List, [], ◌∷◌, Some, None, length, get_or, take, sym, refl, ap, ◌∙◌, arith}
use Rattle.std.specs.List.{find}
use Rattle.std.proofs.lemmas.List.{take_more}
use Rattle.std.proofs.lemmas.List.Folds.{find-append}
use Rattle.std.specs.Option.{option_or}

module _ {X : Type 0} (f : X → Bool) where
  -- what was not found before place i, and passes there, is the first
  pub found_here :
      (xs : List X) (i : ℕ) (d : X) → i < length xs → find f (take i xs) ≡ None → f (get_or xs i d) ≡ true →
      find f xs ≡ Some (get_or xs i d)
  found_here [] i d l h t = absurd (omega arith)
  found_here (x ∷ xs) zero d l h t = ap (λ b. cond b (Some x) (find f xs)) t
  found_here (x ∷ xs) (suc i) d l h t = go (f x) refl (λ e. found_here xs i d (omega arith) e t)
    where
      go :
          (b : Bool) → f x ≡ b → (find f (take i xs) ≡ None → find f xs ≡ Some (get_or xs i d)) →
          cond (f x) (Some x) (find f xs) ≡ Some (get_or xs i d)
      go true q later = absurd (let e = sym (ap (λ b. cond b (Some x) (find f (take i xs))) q) ∙ h in cc)
      go false q later =
          ap (λ b. cond b (Some x) (find f xs)) q
          ∙ later (sym (ap (λ b. cond b (Some x) (find f (take i xs))) q) ∙ h)

  -- what was not found before place i, and fails there, is not found yet
  pub not_yet :
      (xs : List X) (i : ℕ) (d : X) → i < length xs → find f (take i xs) ≡ None → f (get_or xs i d) ≡ false →
      find f (take (i + 1) xs) ≡ None
  not_yet xs i d l h t =
      ap (find f) (take_more xs i d l) ∙ find-append f (take i xs) (get_or xs i d ∷ [])
      ∙ ap (λ o. option_or o (find f (get_or xs i d ∷ []))) h
      ∙ ap (λ b. cond b (Some (get_or xs i d)) None) t
