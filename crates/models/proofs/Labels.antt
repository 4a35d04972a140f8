-- Lawfulness as the code tests it: an element by either kind of option (`answered_there`), all numbers below one
-- and the first that fails, from what the library says of a search over them (`each_told`, `first_told`).
use Rattle.std.proofs.Common.{◌≡◌, ℕ, zero, suc, ◌<◌, Bool, true, false, List, [], ◌∷◌, Some, None, ◌↔◌, MatchOption, refl, sym}
use Rattle.std.specs.List.{slice_get}
use lib.ListN.{get_elem?}
use Rattle.calls.specs.Models.{each_below, first_bad}
use Rattle.calls.proofs.Below.{Least, each_true, true_each, all_good, first_bad_found}
use Rattle.models.specs.Lawfulness.{answered}

pub answered_there : (l : List ℕ) (i : ℕ) → answered (slice_get l i) ≡ get_elem? l i
answered_there [] i = refl
answered_there (x ∷ l) zero = refl
answered_there (x ∷ l) (suc i) = answered_there l i

one_flag : (a b : Bool) → (a ≡ true) ↔ (b ≡ true) → a ≡ b
one_flag true b h = sym (h.0 refl)
one_flag false true h = h.1 refl
one_flag false false h = refl

module _ (f : ℕ → Bool) (n : ℕ) where
  pub each_told : (b : Bool) → (b ≡ true) ↔ ((k : ℕ) → k < n → f k ≡ true) → b ≡ each_below f n
  each_told b h =
      one_flag b (each_below f n) (λ t. true_each f n (h.0 t), λ t. h.1 (λ k l. each_true f n k t l))

  pub first_told : (o : _) → MatchOption o ((k : ℕ) → k < n → f k ≡ true) (Least f n) → first_bad f n ≡ answered o
  first_told None h = all_good f n h
  first_told (Some e) h = first_bad_found f n e h
