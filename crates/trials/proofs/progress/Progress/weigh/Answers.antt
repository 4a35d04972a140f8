use Rattle.std.proofs.Common.{arith}
use Rattle.stores.specs.View.{held}
use Rattle.trials.specs.View.{counts_of}
use Rattle.trials.proofs.Weighed.{model_read, undecided, either_way}
use Rattle.trials.proofs.progress.Progress.weigh.Goals as goal

pub returns-clause-answer : goal.returns-clause-answer
returns-clause-answer g c = λ w.
    model_read (g.K.Kind.meaning c.args.kind.now) (counts_of c.args.self.now) (held c.args.stores.now)
    c.args.model.now.count c.args.model.now.representatives.now c.check-answer.result w
    (undecided _ c.if-reached.ensures) (omega arith) (omega arith) c.check-answer.ensures

pub returns-clause-few : goal.returns-clause-few
returns-clause-few g c = either_way c.check-answer.result (omega arith, omega arith)
