-- Entries of lists: of mapped lists (`unmap`, `remap`), and by default (`got`, `there`).
use Rattle.std.proofs.Common.{◌≡◌, ℕ, zero, suc, ◌<◌, List, [], ◌∷◌, map, length, get_or, refl}
use mathlib.Core.Option.{some, some-injective}
use lib.ListN.{get_elem?}
use Rattle.std.proofs.lemmas.Option.{get_or_from_slice_get, slice_get-get_or}
pub use Rattle.meaning.proofs.Lookups.{below, all_at, same_entry}

-- an entry of a mapped list comes from an entry
pub unmap :
    {X Y : Type 0} (f : X → Y) (l : List X) (i : ℕ) (y : Y) → get_elem? (map f l) i ≡ some y →
    (x : X) × (get_elem? l i ≡ some x) × (f x ≡ y)
unmap f [] i y e = absurd cc
unmap f (x ∷ l) zero y e = (x, refl, some-injective _ _ e)
unmap f (x ∷ l) (suc i) y e = unmap f l i y e

-- an entry is mapped
pub remap :
    {X Y : Type 0} (f : X → Y) (l : List X) (i : ℕ) (x : X) → get_elem? l i ≡ some x → get_elem? (map f l) i ≡
    some (f x)
remap f [] i x e = absurd cc
remap f (y ∷ l) zero x e = cc
remap f (y ∷ l) (suc i) x e = remap f l i x e

-- an entry that is there is the one by default
pub got : {X : Type 0} (l : List X) (i : ℕ) (d x : X) → get_elem? l i ≡ some x → get_or l i d ≡ x
got l i d x h = get_or_from_slice_get l i x d ((same_entry l i x).0 h)

-- an entry that is not the default is there
pub there :
    {X :
    Type 0} (l : List X) (i : ℕ) (d : X) (k : X → ℕ) → (k (get_or l i d) ≡ k d →
    ⊥) → get_elem? l i ≡ some (get_or l i d)
there [] i d k h = absurd (h refl)
there (x ∷ l) zero d k h = refl
there (x ∷ l) (suc i) d k h = there l i d k h

-- an entry below the length is there
pub there_at : {X : Type 0} (l : List X) (i : ℕ) (d : X) → i < length l → get_elem? l i ≡ some (get_or l i d)
there_at l i d h = (same_entry l i (get_or l i d)).1 (slice_get-get_or l i d h)
