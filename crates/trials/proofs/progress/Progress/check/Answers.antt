use Rattle.std.proofs.Common.{◌≡◌, arith}
use Rattle.std.proofs.lemmas.Grind.{common_steps}
use Rattle.calls.specs.RuleSteps.{at_most}
use Rattle.trials.proofs.progress.Progress.check.Goals as goal

pub returns : goal.returns
returns g c =
    let few : c.from-2.result ≡ at_most c.args.self.now.facts c.args.self.now.sizes.constraints = grind (arith, common_steps) in
    rw (c.codes.ensures, c.rows.ensures, c.branch-self.ensures, few) at c.check_model.ensures.answers
