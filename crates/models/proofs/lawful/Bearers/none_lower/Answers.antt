use Rattle.std.proofs.Common.{rules}
use Rattle.std.proofs.iter.runs.Sources.{ranges}
use Rattle.calls.specs.Models.{not_taken}
use Rattle.models.specs.Lawfulness.{labelled_by}
use Rattle.models.proofs.Labels.{each_told}
use Rattle.models.proofs.lawful.Bearers.none_lower.Goals as goal

pub returns : goal.returns
returns g c =
    each_told
    (not_taken (g.K.Kind.meaning c.args.self.now.kind.now) (labelled_by c.args.self.now.labels.now) c.args.self.now.representatives.now c.args.e)
    c.args.e _ (search (rules, ranges))
