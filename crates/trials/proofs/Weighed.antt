-- The answer of the model check on fronts of the stores is the call's (`model_read`), and what a model leaves by
-- its answer is what the call leaves (`model_acted`).
use Rattle.std.proofs.Common.{◌≡◌, ℕ, ◌<◌, Bool, true, false, cond, eqb, leb, List, length, take, IfOk, Ok, Err, Result, sym, refl, ap, ◌∙◌, subst, arith, take-take, le-ltb, eq-eqb}
use mathlib.Core.Option.{Option}
use borrow.Author.Tests.{lt-leb}
use Rattle.records.specs.declared.refusal.Refusal.TheVariants.{RecordsSpent, NotStep, StoresShort}
use Rattle.records.specs.declared.refusal.Refusal.{Refusal}
use Rattle.records.specs.declared.verdict.Verdict.{Verdict}
use Rattle.records.specs.declared.verdict.Verdict.TheVariants as verdict
use Rattle.records.specs.Reading.{Move, model, step_in}
use Rattle.records.specs.Verdicts.{reached_by}
use Rattle.calls.specs.Reading.{Plain, read_sheet}
use Rattle.calls.specs.Bridge.{read_branch, Fair}
use Rattle.calls.specs.Models.{model_answer}
use Rattle.calls.specs.Stores.{Held, enough}
use Rattle.calls.specs.Sheets.{Counts}
use Rattle.calls.specs.RuleSteps.{Stepped, at_most, left_denied, branch_facts, codes_of, rows_of}
use Rattle.calls.specs.Trials.{plain_of, branch_of, model_done, stepped_at, step_of}
use Rattle.calls.specs.Views.{Whole, LiveBy}
use Rattle.models.specs.Checks.{Answers, sheet_of}
use Rattle.trials.specs.Steps.{weighed_at, answered}

-- the constraints are the first facts of the branch
constraints_are :
    (t : Counts) (h : Held) → Whole t h → sheet_of (codes_of t h) t.free (rows_of t h) (branch_facts t h)
    (at_most t.facts t.constraints) ≡ plain_of t h
constraints_are t h w =
    let few : at_most t.facts t.constraints ≡ t.constraints = rw (le-ltb t.facts t.constraints w.constraints_kept) in
    let same : take (at_most t.facts t.constraints) (branch_facts t h) ≡ take t.constraints h.facts =
    ap (λ (n : ℕ). take n (branch_facts t h)) few ∙ take-take t.constraints t.facts h.facts w.constraints_kept in
    λ i. record { codes = codes_of t h; free = t.free; rows = rows_of t h; constraints = same i }

pub model_read :
    (K : ℕ → Option ℕ) (t : Counts) (h : Held) (n : ℕ) (rs : List ℕ) (r : Result (Unit {0}) Refusal) → Whole t h →
    t.verdict ≡ verdict.Undecided → length rs ≡ n → t.granted < 1000000 →
    Answers K (codes_of t h) (rows_of t h) (branch_facts t h) (at_most t.facts t.constraints) t.names n rs r →
    r ≡ weighed_at t.verdict K t h n rs
model_read K t h n rs r w un e few a =
    let same = constraints_are t h w in
    let fair : Fair (plain_of t h) (branch_facts t h) t.names =
    (subst (λ (v : Verdict). LiveBy v t h) un w.live).fair in
    let answer : r ≡ model_answer K (read_sheet (plain_of t h)) (branch_of t h) n rs =
    subst
    (λ (P : Plain). Fair P (branch_facts t h) t.names →
    r ≡ model_answer K (read_sheet P) (read_branch P (branch_facts t h) t.names) n rs) same
    (λ f. a t.free f e) fair in
    answer
    ∙ sym (ap (λ b. cond b (Err RecordsSpent) (model_answer K (read_sheet (plain_of t h)) (branch_of t h) n rs)) (lt-leb 1000000 t.granted few))
    ∙ sym (ap (λ b. cond b (cond (leb 1000000 t.granted) (Err RecordsSpent) (model_answer K (read_sheet (plain_of t h)) (branch_of t h) n rs)) (Err NotStep)) (eq-eqb _ _ e))
    ∙ sym (ap (λ (v : Verdict). weighed_at v K t h n rs) un)

-- by the verdict
acted_by :
    (v : Verdict) (K : ℕ → Option ℕ) (t : Counts) (h : Held) (n : ℕ) (rs : List ℕ) →
    answered t h rs (weighed_at v K t h n rs) ≡ stepped_at v K t h (model n rs)
acted_by verdict.Undecided K t h n rs = by (eqb (length rs) n) (leb 1000000 t.granted) (model_answer K (read_sheet (plain_of t h)) (branch_of t h) n rs)
  where
    by : (b c : Bool) (a : Result (Unit {0}) Refusal) →
        answered t h rs (cond b (cond c (Err RecordsSpent) a) (Err NotStep))
        ≡ cond b (cond c (left_denied t h RecordsSpent) (model_done t h rs a)) (left_denied t h NotStep)
    by false c a = refl
    by true true a = refl
    by true false (Ok x) = refl
    by true false (Err e) = refl
acted_by verdict.Closed K t h n rs = refl
acted_by verdict.Open K t h n rs = refl

pub model_acted :
    (K : ℕ → Option ℕ) (t : Counts) (h : Held) (n : ℕ) (rs : List ℕ) (r : Result (Unit {0}) Refusal) (s : Stepped) →
    r ≡ weighed_at t.verdict K t h n rs → s ≡ answered t h rs r → s ≡ stepped_at t.verdict K t h (model n rs)
model_acted K t h n rs r s e f = f ∙ ap (answered t h rs) e ∙ acted_by t.verdict K t h n rs

-- a step of the call, by what its bytes say
pub step_by :
    (K : ℕ → Option ℕ) (t : Counts) (h : Held) (bs : List ℕ) (m : Move) (s : Stepped) → true ≡ enough h →
    m ≡ step_in bs → s ≡ stepped_at t.verdict K t h m → s ≡ step_of K t h bs
step_by K t h bs m s e em es =
    es ∙ ap (stepped_at t.verdict K t h) em
    ∙ ap (λ b. cond b (stepped_at t.verdict K t h (step_in bs)) (left_denied t h StoresShort)) e

-- a trial without a verdict is undecided
pub undecided : (v : Verdict) → false ≡ reached_by v → v ≡ verdict.Undecided
undecided verdict.Undecided e = refl
undecided verdict.Closed e = absurd (let z : ◌≡◌ {A = ℕ} 0 1 = cc in omega arith)
undecided verdict.Open e = absurd (let z : ◌≡◌ {A = ℕ} 0 1 = cc in omega arith)

-- what holds anyway holds by cases
pub either_way : {A : Type 0} (r : Result (Unit {0}) Refusal) → A → IfOk r (λ _. A)
either_way (Ok x) a = a
either_way (Err e) a = tt
