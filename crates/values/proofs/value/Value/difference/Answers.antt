use Rattle.std.proofs.Common.{rules}
use Rattle.values.proofs.Relations.{gathered_like, left, without_from, without_to}
use Rattle.values.proofs.value.Value.difference.Goals as goal

pub returns-clause-gathered : goal.returns-clause-gathered
returns-clause-gathered c =
    gathered_like _ _ (without_from c.args.s.now c.args.r.now) (without_to c.args.s.now c.args.r.now) _ _
    (c.made.ensures.gathered (left c.args.r.now) (λ x i o p. search rules))
