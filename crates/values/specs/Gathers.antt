-- What values hold: exactly the elements of a relation, each once; and the relation of each operation.
use Rattle.std.specs.Prelude.{◌≡◌, ℕ, ◌<◌, ◌⊎◌, List, [], ◌∷◌, length, Some, None, Option}
use Rattle.values.specs.Sets.{In, Apart}
use Rattle.records.specs.declared.tuple.Tuple.{Tuple}

-- An element, if there is one, as a list.
abbrev pub listed : {X : Type 0} → Option X → List X
listed None = []
listed (Some t) = t ∷ []

-- The value v is now w; or there was no room for w in so many slots.
abbrev pub Filled : {X A : Type 0} → ℕ → List X → List X → Option A → Type 0
Filled room w v (Some _) = v ≡ w
Filled room w v None = room < length w

-- What is answered at each element of the list, by `post`, is what m makes of it;
abbrev pub Makes : {T : Type 0} → (T → Option Tuple → Type 0) → List T → (T → Option Tuple) → Type 0
Makes {T} post list m = (x : T) → In list x → (o : Option Tuple) → post x o → o ≡ m x

-- and at each pair of elements of two lists.
abbrev pub MakesPairs : (Tuple → Tuple → Option Tuple → Type 0) → List Tuple → List Tuple → (Tuple → Tuple → Option Tuple) → Type 0
MakesPairs post s r m =
    (x : Tuple) → In s x → (y : Tuple) → In r y → (o : Option Tuple) → post x y o → o ≡ m x y

-- The list has each element with R once, and nothing else.
pub record Denotes {X : Type 0} (R : X → Type 0) (v : List X) : Type 0 where
  pub apart : Apart v
  pub sound : (x : X) → In v x → R x
  pub complete : (x : X) → R x → In v x

-- More than k elements have R: here are some.
pub record Crowd {X : Type 0} (R : X → Type 0) (k : ℕ) : Type 0 where
  pub some : List X
  pub apart : Apart some
  pub sound : (x : X) → In some x → R x
  pub many : k < length some

-- What each operation holds, where S and R are what its operands hold: union,
abbrev pub Either : (Tuple → Type 0) → (Tuple → Type 0) → Tuple → Type 0
Either S R t = S t ⊎ R t

-- intersection,
abbrev pub Both : (Tuple → Type 0) → (Tuple → Type 0) → Tuple → Type 0
Both S R t = S t × R t

-- difference,
abbrev pub Without : (Tuple → Type 0) → (Tuple → Type 0) → Tuple → Type 0
Without S R t = S t × (R t → ⊥)

-- what the elements with S make, as in a transpose,
abbrev pub Made : {Y : Type 0} → (Y → Option Tuple) → (Y → Type 0) → Tuple → Type 0
Made {Y} m S t = (y : Y) × S y × (m y ≡ Some t)

-- what pairs of tuples make, one of S and one of R, as in a product and a join,
abbrev pub Paired : (Tuple → Tuple → Option Tuple) → (Tuple → Type 0) → (Tuple → Type 0) → Tuple → Type 0
Paired m S R t = (x : Tuple) × S x × Made (m x) R t

-- and what is reached from the elements with P by steps over elements with P, as in a closure.
pub data Reach {X : Type 0} (step : X → X → Option X) (P : X → Type 0) : X → Type 0 where
  one : {t : X} → P t → Reach step P t
  more : {x : X} (y : X) {t : X} → Reach step P x → P y → step x y ≡ Some t → Reach step P t
