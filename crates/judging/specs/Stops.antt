-- How a program ended.
use Rattle.std.specs.Prelude.{Bool, true, false, Ok, Err, Result}
use Rattle.judging.specs.declared.stop.Stop.{Stop}
use Rattle.judging.specs.declared.stop.Stop.TheVariants.{Refused, Failed}

-- by a failure, and not by an answer
abbrev pub has_failed : Result (Unit {0}) Stop → Bool
has_failed (Ok x) = false
has_failed (Err (Refused refusal)) = false
has_failed (Err (Failed failure)) = true
