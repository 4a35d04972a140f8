use Rattle.std.proofs.Common.{rules}
use Rattle.values.specs.Tuples.{following}
use Rattle.values.proofs.value.Value.product.Goals as goal

pub returns-clause-gathered : goal.returns-clause-gathered
returns-clause-gathered c = c.pairs.ensures.gathered (following c.args.p) (λ x i y j o p. search rules)
