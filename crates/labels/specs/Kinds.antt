-- What a kind's two questions answer, from its meaning: nothing or a whole number for each code.
use Rattle.std.specs.Prelude.{ℕ, Bool, true, false, ◌==◌, Ok, Err, Result}
use Rattle.std.proofs.Math.Option.{Option, none, some}
use Rattle.labels.specs.declared.no_value.NoValue.{NoValue}

-- a value is there
abbrev pub has_value : Option ℕ → Bool
has_value none = false
has_value (some x) = true

-- "known": yes exactly when the code has a value
abbrev pub known_by : (ℕ → Option ℕ) → ℕ → Bool
known_by K code = has_value (K code)

-- the fault: this code has no value
abbrev pub unknown : ℕ → NoValue
unknown code = record { 0 = code }

-- the value of a code, or the fault that it has none
abbrev pub valued : ℕ → Option ℕ → Result ℕ NoValue
valued code none = Err (unknown code)
valued code (some x) = Ok x

abbrev pub valued_by : (ℕ → Option ℕ) → ℕ → Result ℕ NoValue
valued_by K code = valued code (K code)

-- the answer for codes a and b with these values or none: the first code without one is the fault, and else
-- yes exactly when the values are equal
abbrev pub sameness : ℕ → ℕ → Option ℕ → Option ℕ → Result Bool NoValue
sameness a b none y = Err (unknown a)
sameness a b (some x) none = Err (unknown b)
sameness a b (some x) (some y) = Ok (x == y)

-- "same"
abbrev pub sameness_by : (ℕ → Option ℕ) → ℕ → ℕ → Result Bool NoValue
sameness_by K a b = sameness a b (K a) (K b)
