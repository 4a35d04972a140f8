use Rattle.std.proofs.Common.{rules}
use Rattle.values.specs.Tuples.{turning}
use Rattle.values.proofs.value.Value.transpose.Goals as goal

pub returns-clause-gathered : goal.returns-clause-gathered
returns-clause-gathered c = c.made.ensures.gathered (turning c.args.p) (λ x i o p. search rules)
