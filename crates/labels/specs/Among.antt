-- How a code stands among the codes before it: unknown, first of its label, or the same as an earlier one.
use Rattle.std.specs.Prelude.{ℕ, Bool, false, cond, List, Option, Ok, Err, Result}
use Rattle.std.specs.List.{position_from}
use Rattle.std.proofs.Math.Option as maybe
use Rattle.labels.specs.declared.no_value.NoValue.{NoValue}
use Rattle.labels.specs.Kinds.{known_by, sameness_by, unknown}

-- both codes are one label
abbrev pub is_same : Result Bool NoValue → Bool
is_same (Ok same) = same
is_same (Err e) = false

-- the place of the first of these codes, numbered from i on, that is the same label
abbrev pub first_same : (ℕ → maybe.Option ℕ) → List ℕ → ℕ → ℕ → Option ℕ
first_same K cs i code = position_from (λ c. is_same (sameness_by K c code)) i cs

-- how a code stands after the codes before it: no value is the fault, and else the first that is the same label
abbrev pub standing_of : (ℕ → maybe.Option ℕ) → List ℕ → ℕ → Result (Option ℕ) NoValue
standing_of K earlier code = cond (known_by K code) (Ok (first_same K earlier 0 code)) (Err (unknown code))
