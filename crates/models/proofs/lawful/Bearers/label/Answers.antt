use Rattle.std.proofs.Common.{◌≡◌, ap, ◌∙◌, arith}
use Rattle.std.specs.List.{slice_get}
use Rattle.std.proofs.lemmas.Grind.{common_steps}
use Rattle.std.proofs.lemmas.Option.{gets}
use Rattle.models.specs.Lawfulness.{answered}
use Rattle.models.proofs.Labels.{answered_there}
use Rattle.models.proofs.lawful.Bearers.label.Goals as goal

pub returns : goal.returns
returns g c =
    let found : c.copied.result ≡ slice_get c.args.self.now.labels.now c.args.e = grind (arith, common_steps, gets) in
    ap answered found ∙ answered_there c.args.self.now.labels.now c.args.e
