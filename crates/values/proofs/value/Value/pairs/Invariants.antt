use Rattle.std.proofs.Common.{◌≡◌, Option, [], drop}
use Rattle.std.specs.List.{flat_map}
use Rattle.values.specs.Sets.{puts}
use Rattle.records.specs.Tuples.{equal_names}
use Rattle.values.specs.Gathers.{MakesPairs}
use Rattle.values.specs.Held.{held, SameSlots}
use Rattle.records.specs.declared.tuple.Tuple.{Tuple}
use Rattle.values.proofs.Relations.{made}
use Rattle.values.proofs.value.Value.pairs.Given as goal

abbrev pub invariant-loop-x : goal.invariant-loop-x
invariant-loop-x g l = record {
  same : SameSlots l.initial.value l.value;
  left : (m : Tuple → Tuple → Option Tuple) → MakesPairs (goal.F-post g l.make) l.s l.r m →
      puts equal_names (held l.value) (flat_map (λ x. made (m x) l.r) (drop l.x-index l.s)) ≡ puts equal_names [] (flat_map (λ x. made (m x) l.r) l.s);
}
