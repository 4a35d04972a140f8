-- Tuples in four places as lists of names, and the relation of lists that a set of tuples shows.
use Rattle.std.specs.Prelude.{◌≡◌, ℕ, List, [], ◌∷◌, take, slice_index}
use Rattle.meaning.specs.Model.{rep}
use Rattle.records.specs.Tuples.{names}
use Rattle.records.specs.declared.tuple.Tuple.{Tuple}

-- The first p places of a tuple.
abbrev pub places : ℕ → Tuple → List ℕ
places p t = take p (t.a ∷ t.b ∷ t.c ∷ t.d ∷ [])

-- The tuple with these places, the others zero.
abbrev pub tuple_from : List ℕ → Tuple
tuple_from u = names (slice_index u 0) (slice_index u 1) (slice_index u 2) (slice_index u 3)

-- All places past the first p are zero.
abbrev pub Flat : ℕ → Tuple → Type 0
Flat p t = tuple_from (places p t) ≡ t

-- The tuples of S, all of arity p, are those of the relation V.
pub record Shows (p : ℕ) (S : Tuple → Type 0) (V : List ℕ → Type 0) : Type 0 where
  pub flat : (t : Tuple) → S t → Flat p t
  pub sound : (t : Tuple) → S t → V (places p t)
  pub complete : (u : List ℕ) → V u → (t : Tuple) × S t × (places p t ≡ u)

-- The tuple of the representatives of four names.
abbrev pub by_names : List ℕ → ℕ → ℕ → ℕ → ℕ → Tuple
by_names rs x y z v = names (rep rs x) (rep rs y) (rep rs z) (rep rs v)
