-- What number labels mean.
use Rattle.std.specs.Prelude.{ℕ, cond, nat_lt}
use Rattle.std.proofs.Math.Option.{Option, none, some}

-- the codes 0 to 999,999 are known, and the value is the code
abbrev pub number_value : ℕ → Option ℕ
number_value code = cond (nat_lt code 1000000) (some code) none
