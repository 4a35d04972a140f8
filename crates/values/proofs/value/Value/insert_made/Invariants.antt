use Rattle.std.proofs.Common.{◌≡◌, Option, drop}
use Rattle.std.specs.List.{flat_map}
use Rattle.values.specs.Sets.{puts}
use Rattle.records.specs.Tuples.{equal_names}
use Rattle.values.specs.Gathers.{listed, Makes}
use Rattle.values.specs.Held.{held, SameSlots}
use Rattle.records.specs.declared.tuple.Tuple.{Tuple}
use Rattle.values.proofs.value.Value.insert_made.Given as goal

abbrev pub invariant-loop-x : goal.invariant-loop-x
invariant-loop-x g l = record {
  same : SameSlots l.fn.self l.self;
  left : (m : g.row.T.Denot → Option Tuple) → Makes (goal.F-post g l.make) l.list m →
      puts equal_names (held l.self) (flat_map (λ x. listed (m x)) (drop l.x-index l.list)) ≡ puts equal_names (held l.fn.self) (flat_map (λ x. listed (m x)) l.list);
}
