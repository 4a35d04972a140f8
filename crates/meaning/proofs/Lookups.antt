-- Entries of lists: by either option type (`same_entry`), below the length (`below`), in longer lists (`ahead`, `last_or_before`), as all are (`all_at`).
use Rattle.std.proofs.Common.{◌≡◌, ℕ, zero, suc, ◌<◌, ◌≤◌, ◌↔◌, ◌⊎◌, List, [], ◌∷◌, ◌++◌, length, Some, refl, ap, subst, inl, inr, ⊎_elim, arith}
use mathlib.Core.Option.{none, some, some-injective}
use lib.ListN.{get_elem?}
use Rattle.std.specs.List.{AllByRecursion, slice_get}
use Rattle.std.proofs.lemmas.Option.{slice_get_within}

-- the two option types say the same
pub same_entry :
    {X : Type 0} (l : List X) (i : ℕ) (x : X) → (get_elem? l i ≡ some x) ↔ (slice_get l i ≡ Some x)
same_entry [] i x = (λ e. absurd cc, λ e. absurd cc)
same_entry (y ∷ l) zero x = (λ e. cc, λ e. cc)
same_entry (y ∷ l) (suc i) x = same_entry l i x

-- an entry that is there is below the length
pub below : {X : Type 0} (l : List X) (i : ℕ) (x : X) → get_elem? l i ≡ some x → i < length l
below l i x e = slice_get_within l i x ((same_entry l i x).0 e)

-- past the end there is none
pub past : {X : Type 0} (l : List X) (i : ℕ) → length l ≤ i → get_elem? l i ≡ none
past [] i h = refl
past (x ∷ l) zero h = absurd (omega arith)
past (x ∷ l) (suc i) h = past l i (omega arith)

-- an entry is still there before more entries
pub ahead :
    {X : Type 0} (l more : List X) (i : ℕ) (x : X) → get_elem? l i ≡ some x → get_elem? (l ++ more) i ≡ some x
ahead [] more i x e = absurd cc
ahead (y ∷ l) more zero x e = e
ahead (y ∷ l) more (suc i) x e = ahead l more i x e

-- an entry of a list with one element more was there before or is that element
pub last_or_before :
    {X : Type 0} (l : List X) (y : X) (i : ℕ) (x : X) → get_elem? (l ++ (y ∷ [])) i ≡ some x →
    (get_elem? l i ≡ some x) ⊎ ((i ≡ length l) × (y ≡ x))
last_or_before [] y zero x e = inr (refl, some-injective _ _ e)
last_or_before [] y (suc i) x e = absurd cc
last_or_before (z ∷ l) y zero x e = inl e
last_or_before (z ∷ l) y (suc i) x e =
    ⊎_elim (λ p. inl p) (λ p. inr (ap suc p.0, p.1)) (last_or_before l y i x e)

-- what holds of all entries holds of one that is there
pub all_at :
    {X : Type 0} (Q : X → Type 0) (l : List X) (i : ℕ) (x : X) → AllByRecursion Q l → get_elem? l i ≡ some x → Q x
all_at Q [] i x h e = absurd cc
all_at Q (y ∷ l) zero x h e = subst Q (some-injective _ _ e) h.0
all_at Q (y ∷ l) (suc i) x h e = all_at Q l i x h.1 e
