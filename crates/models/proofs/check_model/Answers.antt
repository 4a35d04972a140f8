use Rattle.std.proofs.Common.{◌≡◌, ℕ, ◌∙◌, subst, arith}
use Rattle.std.proofs.lemmas.List.{length-take-le}
use Rattle.calls.specs.Reading.{read_sheet}
use Rattle.models.specs.Rows.{named_by}
use Rattle.models.specs.Checks.{judged, sheet_of, Answers}
use Rattle.models.proofs.Judging.{zero_stays, answered_by, satisfying_by}
use Rattle.models.proofs.check_model.Goals as goal

pub returns : goal.returns
returns g c =
    let K = g.K.Kind.meaning c.args.kind.now in
    let b = c.args.branch.now in
    let m = c.args.model.now in
    let rs = m.representatives.now in
    let facts = b.facts.now in
    let same : m.count ≡ b.names = omega arith in
    let none = c.in_default.ensures in
    let answers : Answers K b.labels.now b.terms.now facts b.constraints b.names m.count rs c.judge_values.result =
    λ free fair len.
    let P = sheet_of b.labels.now free b.terms.now facts b.constraints in
    subst (λ (i : ℕ). c.judge_values.result ≡ judged (read_sheet P) (named_by P facts rs) i)
    (length-take-le 4096 c.args.tuples.now c.requires.room)
    (c.judge_values.ensures b.labels.now free b.names
    (record { fair = fair; zero_kept = zero_stays K b.labels.now rs b.names none (len ∙ same) }))
    ∙ answered_by K b.labels.now b.terms.now facts b.constraints b.names m.count rs free same none
    in
    record { answers = answers; satisfying = satisfying_by K b.labels.now b.terms.now facts b.constraints b.names m.count rs c.judge_values.result answers }
