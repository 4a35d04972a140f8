use Rattle.std.proofs.Common.{rules}
use Rattle.values.proofs.Relations.{gathered_like, kept, both_from, both_to}
use Rattle.values.proofs.value.Value.intersection.Goals as goal

pub returns-clause-gathered : goal.returns-clause-gathered
returns-clause-gathered c =
    gathered_like _ _ (both_from c.args.s.now c.args.r.now) (both_to c.args.s.now c.args.r.now) _ _
    (c.made.ensures.gathered (kept c.args.r.now) (λ x i o p. search rules))
