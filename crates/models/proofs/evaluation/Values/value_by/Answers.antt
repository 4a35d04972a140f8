use Rattle.std.proofs.Common.{length, rules}
use Rattle.models.specs.Rows.{offered}
use Rattle.models.proofs.evaluation.Values.value_by.Goals as goal

pub returns-in-Variable-clause-gathered : goal.returns-in-Variable-clause-gathered
returns-in-Variable-clause-gathered c =
    rw c.in-Variable.is (c.made.ensures.gathered (offered c.args.self.representatives.now (length c.args.self.terms.now)) (λ x i o p. search rules))

pub returns-in-Closure-clause-gathered : goal.returns-in-Closure-clause-gathered
returns-in-Closure-clause-gathered c = rw (c.in-Closure.is, ← c.of-s.ensures) c.closure.ensures.gathered
