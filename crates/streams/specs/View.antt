-- The code's own ends of a course, as the definitions of judge speak of them.
use Rattle.std.specs.Prelude.{ℕ, [], Ok, Err, Result}
use Rattle.std.proofs.Math.Option.{Option}
use Rattle.calls.specs.Stores.{Held}
use Rattle.calls.specs.Sheets.{Filling, Counts}
use Rattle.trials.specs.declared.settled.Settled.{Settled}
use Rattle.trials.specs.View.{settled_counts}
use Rattle.streams.specs.declared.stop.Stop.{Stop}
use Rattle.streams.specs.declared.cutting.Left.{Left}
use Rattle.streams.specs.Cutting.{records_of}
use Rattle.streams.specs.Judging.{Course, stopped, settled, steps_from, rows_from}

-- a course that has ended
abbrev pub ended : Result Settled Stop → Held → Course
ended (Ok s) h = settled (settled_counts s) h
ended (Err x) h = stopped x.refusal x.record h

-- a course whose rows are in, or that has stopped
abbrev pub filled : (ℕ → Option ℕ) → Result Left Stop → Filling → Held → Course
filled K (Ok x) f h = rows_from K 0 f h x.record (records_of x.rest.now)
filled K (Err x) f h = stopped x.refusal x.record h

-- a course whose steps are made, or that has stopped
abbrev pub stepped : (ℕ → Option ℕ) → Result ℕ Stop → Counts → Held → Course
stepped K (Ok k) t h = steps_from K t h k []
stepped K (Err x) t h = stopped x.refusal x.record h
