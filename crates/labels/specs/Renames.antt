-- A layer of renames: its pairs, what they make of a code, and what the call that adds one does.
use Rattle.std.specs.Prelude.{ℕ, Bool, cond, List, [], ◌∷◌, ◌++◌, length, Option, Some, None, find, Ok, Err, Result, ◌==◌, nat_le}
use Rattle.std.specs.List.{list_any}
use Rattle.records.specs.declared.refusal.Refusal.{Refusal}
use Rattle.records.specs.declared.refusal.Refusal.TheVariants.{PairsFull, OldHeld}
use Rattle.labels.specs.declared.pair.Pair.{Pair}
use Rattle.labels.specs.declared.renames.Renames.{Renames}

-- the pairs that a layer holds, in the order in which they were added
abbrev pub held_pairs : {K : Type 0} → Renames K → List Pair
held_pairs layer = layer.pairs.items

-- the kind that it is laid over
abbrev pub kind_below : {K : Type 0} → Renames K → K
kind_below layer = layer.below

-- the new code of a pair that was found, or the code itself
abbrev pub or_itself : ℕ → Option Pair → ℕ
or_itself code None = code
or_itself code (Some p) = p.new

-- an old code becomes its new code, once; any other stays
abbrev pub target : List Pair → ℕ → ℕ
target ps code = or_itself code (find (λ p. p.old == code) ps)

-- some pair has this old code
abbrev pub held_old : List Pair → ℕ → Bool
held_old ps code = list_any (λ p. p.old == code) ps

-- a pair is refused where 16 are held, and then where its old code is held already
abbrev pub rename_answer : List Pair → ℕ → Result (Unit {0}) Refusal
rename_answer ps old =
    cond (nat_le 16 (length ps)) (Err PairsFull) (cond (held_old ps old) (Err (OldHeld old)) (Ok tt))

-- a pair that is not refused comes last
abbrev pub renamed : Result (Unit {0}) Refusal → List Pair → Pair → List Pair
renamed (Ok x) ps p = ps ++ (p ∷ [])
renamed (Err e) ps p = ps

abbrev pub rename_pairs : List Pair → ℕ → ℕ → List Pair
rename_pairs ps old new = renamed (rename_answer ps old) ps (record { old = old; new = new })
