use Rattle.std.proofs.Common.{rules}
use Rattle.values.specs.Tuples.{joining}
use Rattle.values.proofs.value.Value.join.Goals as goal

pub returns-clause-gathered : goal.returns-clause-gathered
returns-clause-gathered c = c.pairs.ensures.gathered (joining c.args.p) (λ x i y j o p. search rules)
