-- The parts of a step by a rule: what is decided, that it fits, and what is left by the trial's verdict.
use Rattle.std.specs.Prelude.{ℕ, ◌+◌, ◌<◌, ◌≤◌, cond, List, length, Ok, Err, Result, ◌==◌, nat_le}
use Rattle.std.proofs.Math.Option as maybe
use Rattle.records.specs.declared.rows.Step.{Step}
use Rattle.records.specs.declared.refusal.Refusal.{Refusal}
use Rattle.records.specs.declared.refusal.Refusal.TheVariants.{RecordsSpent, VerdictReached, NotStep}
use Rattle.records.specs.declared.verdict.Verdict.{Verdict}
use Rattle.records.specs.declared.verdict.Verdict.TheVariants as verdict
use Rattle.rules.specs.declared.cited.Grown.{Grown}
use Rattle.rules.specs.declared.outcome.Outcome.{Outcome}
use Rattle.rules.specs.declared.outcome.Outcome.TheVariants as outcome
use Rattle.rules.specs.Rules.{size_of}
use Rattle.calls.specs.Stores.{Held}
use Rattle.calls.specs.Sheets.{Counts}
use Rattle.calls.specs.Reading.{read_sheet}
use Rattle.calls.specs.Models.{model_answer}
use Rattle.calls.specs.RuleSteps.{Stepped, left_denied, done, come_to}
use Rattle.calls.specs.Trials.{plain_of, branch_of, opened}

-- an alternative that is appended to at most m facts, with all counts within their limits
pub record Fitting (m : ℕ) (g : Grown) : Type 0 where
  pub at : g.at ≤ m
  pub last : g.at + size_of g.alt ≤ 1024
  pub facts : g.facts ≤ 1024
  pub names : g.names ≤ 64

-- what a trial with these numbers can take up; only one with a fork resumes
abbrev pub Roomy : Counts → Outcome → Type 0
Roomy t (outcome.Adds g) = Fitting t.facts g
Roomy t (outcome.Forks g f k) = Fitting t.facts g × (t.forks + 1 ≤ 64) × (k ≤ 64)
Roomy t outcome.Closes = Unit {0}
Roomy t (outcome.Resumes g f k) = Fitting t.facts g × (1 ≤ t.forks) × (k ≤ 64)

-- what a trial is ready to take up: it fits, and fewer than a million records are granted
abbrev pub Ready : Counts → Outcome → Type 0
Ready t o = (t.granted < 1000000) × Roomy t o

-- a step, unless a million records are granted
abbrev pub decided : (ℕ → maybe.Option ℕ) → Counts → Held → Step → Result Outcome Refusal
decided K t h x = cond (nat_le 1000000 t.granted) (Err RecordsSpent) (come_to K t h x)

-- what is left of it by the trial's verdict: once there is one, every step is denied
abbrev pub acted_at : Verdict → Counts → Held → Result Outcome Refusal → Stepped
acted_at verdict.Undecided t h o = done t h o
acted_at verdict.Closed t h o = left_denied t h VerdictReached
acted_at verdict.Open t h o = left_denied t h VerdictReached

-- what a model is answered where there is no verdict: 11, 12, and then what its tests say
abbrev pub weighed : (ℕ → maybe.Option ℕ) → Counts → Held → ℕ → List ℕ → Result (Unit {0}) Refusal
weighed K t h n rs =
    cond (length rs == n)
    (cond (nat_le 1000000 t.granted) (Err RecordsSpent)
    (model_answer K (read_sheet (plain_of t h)) (branch_of t h) n rs))
    (Err NotStep)

-- the same by the trial's verdict
abbrev pub weighed_at : Verdict → (ℕ → maybe.Option ℕ) → Counts → Held → ℕ → List ℕ → Result (Unit {0}) Refusal
weighed_at verdict.Undecided K t h n rs = weighed K t h n rs
weighed_at verdict.Closed K t h n rs = Err VerdictReached
weighed_at verdict.Open K t h n rs = Err VerdictReached

-- what a model leaves, by its answer
abbrev pub answered : Counts → Held → List ℕ → Result (Unit {0}) Refusal → Stepped
answered t h rs (Ok x) = opened t h rs
answered t h rs (Err e) = left_denied t h e

-- what a record that is no step is answered
abbrev pub other_answer : Verdict → Refusal
other_answer verdict.Undecided = NotStep
other_answer verdict.Closed = VerdictReached
other_answer verdict.Open = VerdictReached
