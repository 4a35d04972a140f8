use Rattle.std.proofs.Common.{◌≡◌, ℕ, ◌+◌, ◌<◌, List, length, sym, ap, ◌∙◌, arith}
use mathlib.Core.Option.{Option}
use Rattle.std.proofs.lemmas.Grind.{common_steps}
use Rattle.calls.specs.Stores.{Held}
use Rattle.calls.specs.Sheets.{Counts}
use Rattle.calls.specs.Trials.{step_of}
use Rattle.stores.specs.View.{held}
use Rattle.trials.specs.View.{counts}
use Rattle.streams.specs.Cutting.{records_of, first_record}
use Rattle.streams.specs.Judging.{steps_from}
use Rattle.streams.proofs.CourseLemmas.{same_on, step_on, step_kept, step_counted}
use Rattle.streams.proofs.steps.take_steps.Goals as goal

pub loop-rest-preserved : goal.loop-rest-preserved
loop-rest-preserved g c =
    let K : ℕ → Option ℕ = g.K.Kind.meaning c.args.kind.now in
    let t : Counts = counts c.loop-rest.trial in
    let h : Held = held c.loop-rest.stores in
    let t' : Counts = counts c.step.new.self in
    let h' : Held = held c.step.new.stores in
    let bs : List ℕ = c.loop-rest.rest.now in
    let k : ℕ = c.loop-rest.record in
    let whole = c.loop-rest.invariant.1 in
    let some : 0 < length bs = grind (arith, common_steps) in
    let step = c.in_default.ensures.all whole ∙ ap (step_of K t h) c.cut_off.ensures.first in
    let more : t'.granted ≡ t.granted + 1 = step_counted K t h (first_record bs) t' h' step whole in
    let few = c.loop-rest.invariant.2 in (
      c.loop-rest.invariant.0
          ∙ step_on K t h k bs _ some step
          ∙ ap (λ (xs : List ℕ). steps_from K t' h' (k + 1) (records_of xs)) (sym c.cut_off.ensures.rest),
      (step_kept K t h (first_record bs) t' h' step whole).0,
      omega arith,
      same_on _ _ _ c.loop-rest.invariant.3 c.in_default.ensures.same,
    )
