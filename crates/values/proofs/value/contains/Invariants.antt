use Rattle.std.proofs.Common.{◌≡◌, false, take}
use Rattle.records.specs.Tuples.{equal_names}
use Rattle.values.specs.Sets.{has}
use Rattle.values.proofs.value.contains.Given as goal

abbrev pub invariant-loop-x : goal.invariant-loop-x
invariant-loop-x l = has equal_names (take l.x-index l.tuples) l.t ≡ false
