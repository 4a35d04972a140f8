-- The calls step and settle as functions: what each answers, and the trial and the stores then.
use Rattle.std.specs.Prelude.{ℕ, cond, List, ◌++◌, length, take, drop, Ok, Err, Result, ◌==◌, nat_le}
use Rattle.std.proofs.Math.Option.{Option}
use Rattle.records.specs.declared.refusal.Refusal.{Refusal}
use Rattle.records.specs.declared.refusal.Refusal.TheVariants.{
  StoresShort,
  VerdictReached,
  NotStep,
  RecordsSpent,
  NoVerdict,
}
use Rattle.records.specs.declared.verdict.Verdict.{Verdict}
use Rattle.records.specs.declared.verdict.Verdict.TheVariants as verdict
use Rattle.records.specs.Verdicts.{reached_by}
use Rattle.records.specs.Reading.{Move, rule, model, other, step_in}
use Rattle.meaning.specs.Calculus.{Branch}
use Rattle.calls.specs.Reading.{Plain, read_sheet}
use Rattle.calls.specs.Bridge.{read_branch}
use Rattle.calls.specs.Models.{model_answer}
use Rattle.calls.specs.Stores.{Held, with_representatives, enough}
use Rattle.calls.specs.Sheets.{Counts}
use Rattle.calls.specs.RuleSteps.{Stepped, counted, left_denied, done, come_to, codes_of, rows_of, branch_facts}

-- The sheet of a trial, as its stores hold it: the constraints are the first facts.
abbrev pub plain_of : Counts → Held → Plain
plain_of t h = record {
  codes = codes_of t h;
  free = t.free;
  rows = rows_of t h;
  constraints = take t.constraints h.facts;
}

-- The branch of a trial.
abbrev pub branch_of : Counts → Held → Branch
branch_of t h = read_branch (plain_of t h) (branch_facts t h) t.names

-- ── step ───────────────────────────────────────────────────────────────────

-- A model that is granted: the verdict is OPEN, and the representatives are in their store.
abbrev pub opened : Counts → Held → List ℕ → Stepped
opened t h rs = record {
  result = Ok tt;
  trial = counted t verdict.Open t.facts t.names t.forks;
  stores = with_representatives h (rs ++ drop (length rs) h.representatives);
}

-- A model by its answer.
abbrev pub model_done : Counts → Held → List ℕ → Result (Unit {0}) Refusal → Stepped
model_done t h rs (Ok x) = opened t h rs
model_done t h rs (Err e) = left_denied t h e

-- A record of a step, where there is no verdict yet.
abbrev pub moved_on : (ℕ → Option ℕ) → Counts → Held → Move → Stepped
moved_on K t h (rule x) =
    cond (nat_le 1000000 t.granted) (left_denied t h RecordsSpent) (done t h (come_to K t h x))
moved_on K t h (model n rs) =
    cond (length rs == n)
    (cond (nat_le 1000000 t.granted) (left_denied t h RecordsSpent)
    (model_done t h rs (model_answer K (read_sheet (plain_of t h)) (branch_of t h) n rs)))
    (left_denied t h NotStep)
moved_on K t h other = left_denied t h NotStep

-- A record of a step by the trial's verdict: once there is one, every step is denied.
abbrev pub stepped_at : Verdict → (ℕ → Option ℕ) → Counts → Held → Move → Stepped
stepped_at verdict.Undecided K t h m = moved_on K t h m
stepped_at verdict.Closed K t h m = left_denied t h VerdictReached
stepped_at verdict.Open K t h m = left_denied t h VerdictReached

-- The call step.
abbrev pub step_of : (ℕ → Option ℕ) → Counts → Held → List ℕ → Stepped
step_of K t h bs =
    cond (enough h) (stepped_at t.verdict K t h (step_in bs)) (left_denied t h StoresShort)

-- ── settle ─────────────────────────────────────────────────────────────────

-- The call settle: it asks for a verdict, and changes nothing.
abbrev pub settle_of : Counts → Result (Unit {0}) Refusal
settle_of t = cond (reached_by t.verdict) (Ok tt) (Err NoVerdict)
