use Rattle.std.proofs.Common.{◌≡◌, ◌+◌, ◌≤◌, length}
use Rattle.calls.specs.Views.{Whole}
use Rattle.stores.specs.View.{held, Same}
use Rattle.trials.specs.View.{counts}
use Rattle.streams.specs.Cutting.{records_of}
use Rattle.streams.specs.Judging.{steps_from}
use Rattle.streams.proofs.steps.take_steps.Given as goal

abbrev pub invariant-loop-rest : goal.invariant-loop-rest
invariant-loop-rest g l =
    (steps_from (g.K.Kind.meaning l.kind) (counts l.initial.trial) (held l.initial.stores) l.initial.record
    (records_of l.initial.rest)
    ≡ steps_from (g.K.Kind.meaning l.kind) (counts l.trial) (held l.stores) l.record (records_of l.rest))
    × Whole (counts l.trial) (held l.stores)
    × (l.record ≤ 226 + (counts l.trial).granted)
    × Same l.initial.stores l.stores

abbrev pub decreases-loop-rest : goal.decreases-loop-rest
decreases-loop-rest g l = length l.rest
