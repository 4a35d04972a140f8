use Rattle.std.proofs.Common.{rules}
use Rattle.std.proofs.iter.runs.Sources.{ranges}
use Rattle.calls.specs.Models.{name_lawful}
use Rattle.models.specs.Lawfulness.{labelled_by}
use Rattle.models.proofs.Labels.{first_told}
use Rattle.models.proofs.lawful.Bearers.first_unlawful.Goals as goal

pub returns : goal.returns
returns g c =
    first_told
    (name_lawful (g.K.Kind.meaning c.args.self.now.kind.now) (labelled_by c.args.self.now.labels.now) c.args.self.now.representatives.now)
    c.args.names c.find.result (search (rules, ranges))
