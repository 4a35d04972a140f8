-- Lists as sets: membership by a test and as a relation, and putting in what is not there yet.
use Rattle.std.specs.Prelude.{◌≡◌, Bool, cond, ◌⊎◌, List, [], ◌∷◌, ◌++◌}
use Rattle.std.specs.List.{list_any}

-- Whether t is in the list, e being the test of equality.
abbrev pub has : {X : Type 0} → (X → X → Bool) → List X → X → Bool
has e xs t = list_any (λ x. e x t) xs

-- The list with t put at its end, unless it is there.
abbrev pub put : {X : Type 0} → (X → X → Bool) → List X → X → List X
put e v t = cond (has e v t) v (v ++ t ∷ [])

-- The list with all of another put in turn.
abbrev pub puts : {X : Type 0} → (X → X → Bool) → List X → List X → List X
puts e v [] = v
puts e v (t ∷ ts) = puts e (put e v t) ts

-- The list has x.
abbrev pub In : {X : Type 0} → List X → X → Type 0
In [] x = ⊥
In (y ∷ ys) x = (y ≡ x) ⊎ In ys x

-- No element stands twice.
abbrev pub Apart : {X : Type 0} → List X → Type 0
Apart [] = Unit {0}
Apart (y ∷ ys) = (In ys y → ⊥) × Apart ys
