use Rattle.std.proofs.Common.{arith}
use Rattle.stores.specs.View.{held}
use Rattle.trials.specs.View.{counts_of}
use Rattle.trials.proofs.Acted.{ready, decided_below}
use Rattle.trials.proofs.progress.Progress.decide.Goals as goal

pub returns-clause-is : goal.returns-clause-is
returns-clause-is g c =
    decided_below (g.K.Kind.meaning c.args.kind.now) (counts_of c.args.self.now) (held c.args.stores.now) c.args.x
    c.outcome.result (omega arith) c.outcome.ensures.is

pub returns-clause-ready : goal.returns-clause-ready
returns-clause-ready g c = ready (counts_of c.args.self.now) c.outcome.result (omega arith) c.outcome.ensures.room
