-- A step that is decided first and then acted on is a step by the trial's verdict (`acted`).
use Rattle.std.proofs.Common.{◌≡◌, ℕ, ◌<◌, Bool, true, false, cond, leb, IfOk, Ok, Err, Result, sym, refl, ap, ◌∙◌}
use borrow.Author.Tests.{lt-leb}
use mathlib.Core.Option as maybe
use Rattle.records.specs.Reading.{rule}
use Rattle.records.specs.declared.rows.Step.{Step}
use Rattle.records.specs.declared.refusal.Refusal.{Refusal}
use Rattle.records.specs.declared.refusal.Refusal.TheVariants.{RecordsSpent}
use Rattle.records.specs.declared.verdict.Verdict.{Verdict}
use Rattle.records.specs.declared.verdict.Verdict.TheVariants as verdict
use Rattle.rules.specs.declared.outcome.Outcome.{Outcome}
use Rattle.calls.specs.Stores.{Held}
use Rattle.calls.specs.Sheets.{Counts}
use Rattle.calls.specs.RuleSteps.{Stepped, left_denied, done, come_to}
use Rattle.calls.specs.Trials.{stepped_at}
use Rattle.trials.specs.Steps.{Roomy, Ready, decided, acted_at}

-- an outcome that fits is ready where fewer than a million records are granted
pub ready :
    (t : Counts) (r : Result Outcome Refusal) → t.granted < 1000000 →
    IfOk r (λ o. Roomy t o) → IfOk r (λ o. Ready t o)
ready t (Ok o) a b = (a, b)
ready t (Err e) a b = tt

-- below a million granted records the step is what it comes to
pub decided_below :
    (K : ℕ → maybe.Option ℕ) (t : Counts) (h : Held) (x : Step) (r : Result Outcome Refusal) →
    t.granted < 1000000 → r ≡ come_to K t h x → r ≡ decided K t h x
decided_below K t h x r a e =
    e ∙ ap (λ (b : Bool). cond b (Err RecordsSpent) (come_to K t h x)) (sym (lt-leb 1000000 t.granted a))

-- done by a test, on either side of it
done_by :
    (b : Bool) (t : Counts) (h : Held) (r : Result Outcome Refusal) →
    done t h (cond b (Err RecordsSpent) r) ≡ cond b (left_denied t h RecordsSpent) (done t h r)
done_by true t h r = refl
done_by false t h r = refl

-- what is left of a decided step, by the verdict
by_verdict :
    (v : Verdict) (K : ℕ → maybe.Option ℕ) (t : Counts) (h : Held) (x : Step) →
    acted_at v t h (decided K t h x) ≡ stepped_at v K t h (rule x)
by_verdict verdict.Undecided K t h x = done_by (leb 1000000 t.granted) t h (come_to K t h x)
by_verdict verdict.Closed K t h x = refl
by_verdict verdict.Open K t h x = refl

pub acted :
    {s : Stepped} {r : Result Outcome Refusal} (v : Verdict) (K : ℕ → maybe.Option ℕ) (t : Counts) →
    (h : Held) (x : Step) → s ≡ acted_at v t h r → r ≡ decided K t h x → s ≡ stepped_at v K t h (rule x)
acted v K t h x e f = e ∙ (ap (acted_at v t h) f ∙ by_verdict v K t h x)
