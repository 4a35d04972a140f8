use Rattle.std.proofs.Common.{◌≤◌, ◌-◌, length}
use Rattle.values.specs.Tuples.{linked}
use Rattle.values.specs.Held.{held, SameSlots}
use Rattle.values.proofs.Closing.{Work}
use Rattle.values.proofs.value.Value.closure.Given as goal

abbrev pub invariant-loop-i : goal.invariant-loop-i
invariant-loop-i l = record { same : SameSlots l.initial.value l.value; up : l.i ≤ length (held l.value); work : Work linked l.s (held l.value) l.i }

abbrev pub decreases-loop-i : goal.decreases-loop-i
decreases-loop-i l = length l.initial.value.slots.now - l.i
