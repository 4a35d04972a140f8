-- What each verdict says.
use Rattle.std.specs.Prelude.{Bool, true, false}
use Rattle.records.specs.declared.verdict.Verdict.{Verdict}
use Rattle.records.specs.declared.verdict.Verdict.TheVariants.{Undecided, Closed, Open}

-- CLOSED and OPEN are verdicts; a trial without one is undecided
abbrev pub reached_by : Verdict → Bool
reached_by Undecided = false
reached_by Closed = true
reached_by Open = true
