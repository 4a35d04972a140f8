use Rattle.std.proofs.Common.{◌≡◌, map, drop}
use Rattle.labels.specs.Renames.{held_pairs, kind_below}
use Rattle.judging.specs.Input.{pair_in, loaded}
use Rattle.judging.proofs.read_renames.Given as goal

abbrev pub invariant-loop-bytes : goal.invariant-loop-bytes
invariant-loop-bytes g l =
    (loaded (held_pairs l.layer) (map pair_in (drop l.bytes-index l.pairs)) ≡ loaded (held_pairs l.initial.layer) (map pair_in l.pairs))
    × (kind_below l.layer ≡ kind_below l.initial.layer)
