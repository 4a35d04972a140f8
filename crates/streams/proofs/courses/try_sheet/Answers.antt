use Rattle.sheets.specs.View.{filling_of}
use Rattle.stores.specs.View.{held}
use Rattle.trials.specs.View.{counts}
use Rattle.streams.proofs.CourseLemmas.{seal_kept}
use Rattle.streams.proofs.courses.try_sheet.Goals as goal

pub try_steps-requires-clause-whole : goal.try_steps-requires-clause-whole
try_steps-requires-clause-whole g c =
    seal_kept (g.K.Kind.meaning c.args.kind.now) (filling_of c.args.sheet) (held c.args.stores.now) (counts c.in-Ok.trial)
    c.in-Ok.ensures.answer c.requires.orderly
