use Rattle.std.proofs.Common.{ap, ◌∙◌}
use Rattle.calls.specs.Stores.{Held}
use Rattle.stores.specs.View.{held}
use Rattle.trials.specs.View.{counts_of}
use Rattle.trials.specs.Steps.{answered}
use Rattle.trials.proofs.Weighed.{model_acted}
use Rattle.trials.proofs.progress.Progress.step_model.Goals as goal

pub returns-clause-all : goal.returns-clause-all
returns-clause-all g c = λ w.
    model_acted (g.K.Kind.meaning c.args.kind.now) (counts_of c.args.self.now) (held c.args.stores.now)
    c.args.model.now.count c.args.model.now.representatives.now c.weigh-answer.result _ (c.weigh-answer.ensures.answer w)
    (c.take_answer.ensures.all
    ∙ ap (λ (h : Held). answered (counts_of c.args.self.now) h c.args.model.now.representatives.now c.weigh-answer.result)
    c.weigh-answer.ensures.held)
