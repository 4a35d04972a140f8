use Rattle.std.proofs.Common.{ℕ, List, Ok, Err, sym, ap, ◌∙◌}
use mathlib.Core.Option.{Option}
use Rattle.calls.specs.Stores.{Held}
use Rattle.calls.specs.Sheets.{make_of, rows_due}
use Rattle.sheets.specs.View.{filling_of}
use Rattle.stores.specs.View.{held}
use Rattle.streams.specs.Cutting.{records_of}
use Rattle.streams.specs.Judging.{rows_from}
use Rattle.streams.proofs.CourseLemmas.{course_on, make_kept}
use Rattle.streams.proofs.courses.run.Goals as goal

pub fill-requires : goal.fill-requires
fill-requires g c =
    make_kept g.K.Kind.LETTER (held c.args.stores.now) c.cut_off.result.0.now (filling_of c.in-Ok.sheet)
    c.in-Ok.ensures c.requires

pub returns-in-Ok-clause-course : goal.returns-in-Ok-clause-course
returns-in-Ok-clause-course g c =
    let K : ℕ → Option ℕ = g.K.Kind.meaning c.args.kind.now in
    let h : Held = held c.args.stores.now in
    let f = filling_of c.in-Ok.sheet in
    course_on g.K.Kind.LETTER K h c.args.stream.now (Ok f)
    (c.in-Ok.ensures ∙ ap (make_of g.K.Kind.LETTER h) c.cut_off.ensures.first)
    ∙ ap (λ (xs : List ℕ). rows_from K (rows_due f) f h 2 (records_of xs)) (sym c.cut_off.ensures.rest)
    ∙ c.fill.ensures.course

pub returns-in-Err-clause-course : goal.returns-in-Err-clause-course
returns-in-Err-clause-course g c =
    let K : ℕ → Option ℕ = g.K.Kind.meaning c.args.kind.now in
    let h : Held = held c.args.stores.now in
    course_on g.K.Kind.LETTER K h c.args.stream.now (Err c.in-Err.refusal)
    (c.in-Err.ensures ∙ ap (make_of g.K.Kind.LETTER h) c.cut_off.ensures.first)
