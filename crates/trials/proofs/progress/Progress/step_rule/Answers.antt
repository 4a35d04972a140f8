use Rattle.stores.specs.View.{held}
use Rattle.trials.specs.View.{counts_of}
use Rattle.trials.proofs.Acted.{acted}
use Rattle.trials.proofs.progress.Progress.step_rule.Goals as goal

pub returns-clause-all : goal.returns-clause-all
returns-clause-all g c =
    acted c.args.self.now.verdict (g.K.Kind.meaning c.args.kind.now) (counts_of c.args.self.now) (held c.args.stores.now)
    c.args.x c.act.ensures.all c.decide-outcome.ensures.is
