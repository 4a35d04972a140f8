-- Values in lent slots: what they hold, what putting in a tuple leaves, and what an operation answers.
use Rattle.std.specs.Prelude.{◌≡◌, ℕ, ◌+◌, ◌<◌, false, List, length, take, Some, None, Option, IfSome, slice_index_or, slice_set}
use Rattle.std.specs.Borrow.{MutBor}
use Rattle.values.specs.Sets.{has}
use Rattle.records.specs.Tuples.{equal_names}
use Rattle.values.specs.Gathers.{Denotes, Crowd}
use Rattle.records.specs.declared.tuple.Tuple.{Tuple}
use Rattle.values.specs.declared.value.Placed.{Placed}
use Rattle.values.specs.declared.value.Placed.TheVariants.{There, Added}
use Rattle.values.specs.declared.value.Value.{Value}

-- The tuples of a value.
abbrev pub held : Value → List Tuple
held v = take v.len v.slots.now

-- The value w stands in the slots where v did.
abbrev pub SameSlots : Value → Value → Type 0
SameSlots v w = (w.slots.ghost_name ≡ v.slots.ghost_name) × (length w.slots.now ≡ length v.slots.now)

-- What putting t behind the first j of the slots xs leaves, ys being the slots then and m the length: t stands at
-- place k; or there is no room, and nothing changed.
abbrev pub Pushed : List Tuple → ℕ → Tuple → List Tuple → ℕ → Option ℕ → Type 0
Pushed xs j t ys m (Some k) = (k ≡ j) × (j < length xs) × (ys ≡ slice_set xs j t) × (m ≡ j + 1)
Pushed xs j t ys m None = (length xs ≡ j) × (ys ≡ xs) × (m ≡ j)

-- What putting t into the value at the first j of the slots xs leaves, ys being the slots then and m its length: t
-- is there already, first at place k; or it was not, and stands at place k, behind the others; or it was not, and
-- there is no room, and nothing changed.
abbrev pub Inserted : List Tuple → ℕ → Tuple → List Tuple → ℕ → Option Placed → Type 0
Inserted xs j t ys m (Some (There k)) =
    (k < j) × (slice_index_or xs k t ≡ t) × (has equal_names (take k xs) t ≡ false) × (ys ≡ xs) × (m ≡ j)
Inserted xs j t ys m (Some (Added k)) =
    (k ≡ j) × (j < length xs) × (has equal_names (take j xs) t ≡ false) × (ys ≡ slice_set xs j t) × (m ≡ j + 1)
Inserted xs j t ys m None = (length xs ≡ j) × (has equal_names (take j xs) t ≡ false) × (ys ≡ xs) × (m ≡ j)

-- The value that is answered holds just what has R; or more tuples have R than there are slots.
abbrev pub Gathered : (Tuple → Type 0) → ℕ → Option Value → Type 0
Gathered R room (Some v) = Denotes R (held v)
Gathered R room None = Crowd R room

-- The value that is answered stands in these slots.
abbrev pub StandsIn : MutBor (List Tuple) → Option Value → Type 0
StandsIn slots o = IfSome o (λ v. (v.slots.ghost_name ≡ slots.ghost_name) × (length v.slots.now ≡ length slots.now))
