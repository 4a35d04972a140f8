-- Models on a small sheet, computed: the labels 7 and 9, a binary variable P and its closure, and the
-- constraint that (0, 1) is in P, in `second` also that it is not in the closure.
use Rattle.std.proofs.Common.{◌≡◌, ℕ, cond, ltb, List, [], ◌∷◌, Ok, Err, refl}
use mathlib.Core.Option.{Option, none, some}
use Rattle.records.specs.declared.refusal.Refusal.TheVariants.{Unlawful, ConstraintFalse}
use Rattle.meaning.specs.Terms.{variable, Row, Fact, Sheet, ◌∈◌, ◌∉◌, ◌⁺}
use Rattle.meaning.specs.Calculus.{Branch}
use mathlib.Core.Logic.Dec
use native.Mathlib.Decide.{ℕ_discrete}
use Rattle.meaning.specs.Terms.{trees, term}
use Rattle.meaning.specs.Finite.{mem_dec, finite_dec, all_or, none_of, one_of, listed, keep, either, remap}
use Rattle.meaning.specs.Finite.{kept, image, bind_list, bind, flat, finite, in_dec, tuple_dec}
use Rattle.meaning.specs.Chains.{Dec-⊎, Dec-×, through_dec, chain_dec}
use Rattle.calls.specs.Models.{same_dec, holds_dec, sat_dec, model_answer}

numbers : ℕ → Option ℕ
numbers c = cond (ltb c 1000000) (some c) none

rows : List Row
rows = record { op = variable; arity = 2 } ∷ record { op = 0 ⁺; arity = 2 } ∷ []

sheet : List Fact → Sheet
sheet cs = record { codes = 7 ∷ 9 ∷ []; free = 0; rows = rows; constraints = cs }

branch : List Fact → Branch
branch cs = record { facts = cs; count = 2 }

first : List Fact
first = (0 ∷ 1 ∷ []) ∈ 0 ∷ []

second : List Fact
second = (0 ∷ 1 ∷ []) ∈ 0 ∷ (0 ∷ 1 ∷ []) ∉ 1 ∷ []

-- With each name for itself the first is granted and the second is not; with 0 for both names, name 1 has
-- another label than its representative.
computed :
    (model_answer numbers (sheet first) (branch first) 2 (0 ∷ 1 ∷ []) ≡ Ok tt)
    × (model_answer numbers (sheet first) (branch first) 2 (0 ∷ 0 ∷ []) ≡ Err (Unlawful 1))
    × (model_answer numbers (sheet second) (branch second) 2 (0 ∷ 1 ∷ []) ≡ Err (ConstraintFalse 1))
unfolding numbers rows sheet branch first second trees term ℕ_discrete mem_dec finite_dec all_or none_of one_of listed keep either remap kept image bind_list bind flat finite in_dec tuple_dec Dec-⊎ Dec-× through_dec chain_dec same_dec holds_dec sat_dec Dec.not
computed = (refl, refl, refl)
