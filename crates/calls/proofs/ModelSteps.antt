-- A model is granted exactly where the subject has a case for its bytes, given that its answer is right
-- (`model_step_exact`); with that, every step is (`step_exact`).
use Rattle.std.proofs.Common.{◌≡◌, ℕ, ◌<◌, ◌≤◌, Bool, true, false, cond, eqb, leb, ◌↔◌, List, ◌∷◌, length, drop, Ok, Err, Result, sym, refl, ap, ◌∙◌, subst, ⊎_elim, arith, length-append, length-drop, eqb-true, leb-false, leb-true}
use mathlib.Core.Option.{Option}
use borrow.Author.Tests.{eqb-false}
use Rattle.std.proofs.lemmas.List.{take_at}
use Rattle.records.specs.declared.refusal.Refusal.{Refusal}
use Rattle.records.specs.declared.refusal.Refusal.TheVariants.{StoresShort, RecordsSpent, NotStep}
use Rattle.records.specs.declared.verdict.Verdict.{Verdict}
use Rattle.records.specs.declared.verdict.Verdict.TheVariants as verdict
use Rattle.records.specs.Reading.{Move, rule, model, other, step_in}
use Rattle.meaning.specs.Terms.{Sheet}
use Rattle.meaning.specs.Meaning.{Satisfies}
use Rattle.meaning.specs.Calculus.{Branch}
use Rattle.meaning.specs.Model.{Lawful, Named}
use Rattle.meaning.specs.Mixes.{most_tuples, OPEN, Few, trying, Grants, model_step}
use Rattle.meaning.specs.Mixes as subject
use Rattle.calls.specs.Reading.{read_sheet}
use Rattle.calls.specs.Stores.{Held, enough}
use Rattle.calls.specs.Sheets.{Counts}
use Rattle.calls.specs.RuleSteps.{Stepped, left_denied}
use Rattle.calls.specs.Models.{model_answer}
use Rattle.calls.specs.Trials.{plain_of, branch_of, opened, model_done, moved_on, stepped_at}
use Rattle.calls.specs.Views.{read_trial, Whole}
use Rattle.calls.specs.Exact.{StepExact, StepIsExact}
use Rattle.calls.proofs.Enough.{enough_holds}
use Rattle.calls.proofs.Following.{live}
use Rattle.calls.proofs.StepCases.{ByModel, told, rule_is, model_is, read_model}
use Rattle.calls.proofs.StepsExact.{
  left,
  spent,
  runs,
  no_verdict,
  short_model_denied,
  rule_step_exact,
  other_step_exact,
  decided_step_exact,
}

-- A model with as many representatives as it says is answered right: it is granted exactly where they are
-- lawful, there are few tuples, and every constraint holds.
abbrev pub ModelRight : (ℕ → Option ℕ) → Sheet → Branch → ℕ → List ℕ → Type 0
ModelRight K S b n rs =
    length rs ≡ n → length S.codes ≤ b.count →
    (model_answer K S b n rs ≡ Ok tt)
    ↔ (Lawful K S b.count rs × Few S rs b.facts most_tuples × Satisfies S (Named S rs b.facts))

-- That, for every model on every branch.
abbrev pub ModelsRight : Type 0
ModelsRight = (K : ℕ → Option ℕ) (S : Sheet) (b : Branch) (n : ℕ) (rs : List ℕ) → ModelRight K S b n rs

module _
    (K : ℕ → Option ℕ) (t : Counts) (h : Held) (bs : List ℕ) (n : ℕ) (rs : List ℕ) (w : Whole t h)
    (un : t.verdict ≡ verdict.Undecided) (e : step_in bs ≡ model n rs)
    (right : ModelRight K (read_sheet (plain_of t h)) (branch_of t h) n rs) where
  -- the tests say what the model's case asks
  abbrev Passes : Type 0
  Passes =
      Lawful K (read_sheet (plain_of t h)) t.names rs ×
      Few (read_sheet (plain_of t h)) rs (branch_of t h).facts most_tuples ×
      Satisfies (read_sheet (plain_of t h)) (Named (read_sheet (plain_of t h)) rs (branch_of t h).facts)

  few_codes : length (read_sheet (plain_of t h)).codes ≤ t.names
  few_codes =
      omega (arith, (live t h w un).fair.named)

  exactly :
      length rs ≡ n →
      (model_answer K (read_sheet (plain_of t h)) (branch_of t h) n rs ≡ Ok tt) ↔ Passes
  exactly l = right l few_codes

  abbrev LeftExact : Stepped → Type 0
  LeftExact s = StepExact K t h bs s.trial s.stores s.result

  -- a model that is granted keeps all, and its representatives are read back from their store
  opens : length rs ≡ n → t.granted < 1000000 → Passes → LeftExact (opened t h rs)
  opens l room p =
      let at : length rs ≡ t.names = p.0.count in (
        search (
          arith,
          length-append rs (drop (length rs) h.representatives),
          length-drop (length rs) h.representatives,
          (live t h w un).fair,
          (live t h w un).stacked,
        ),
        rw (read_model bs n rs e)
            (subst
            (λ (z : subject.Trial). Grants K (trying (read_trial t h)) (subject.step (77 ∷ 68 ∷ n ∷ rs)) (trying z))
            (cc (runs K t h bs w un, take_at rs (drop (length rs) h.representatives) t.names at))
            (model_step n rs (no_verdict K t h bs w un) (runs K t h bs w un) room l p.0 p.1 p.2)),
      )

  -- what the bytes are granted for is what the tests say
  told_model : ByModel K (read_trial t h) bs → (length rs ≡ n) × Passes
  told_model c =
      let same : c.reps ≡ rs = cc (e, model_is c) in
      let at_branch : c.branch ≡ branch_of t h = cc (runs K t h bs w un, c.state) in (
        ap length (sym same) ∙ c.counted ∙ cc (e, model_is c),
        rw (← same)
            (subst
            (λ (b : Branch). Lawful K (read_sheet (plain_of t h)) b.count c.reps ×
            Few (read_sheet (plain_of t h)) c.reps b.facts most_tuples ×
            Satisfies (read_sheet (plain_of t h)) (Named (read_sheet (plain_of t h)) c.reps b.facts))
            at_branch (c.lawful, c.few, c.satisfies)),
      )

  by_answer :
      length rs ≡ n → t.granted < 1000000 → (z : Result (Unit {0}) Refusal) →
      model_answer K (read_sheet (plain_of t h)) (branch_of t h) n rs ≡ z → LeftExact (model_done t h rs z)
  by_answer l room (Ok u) q = opens l room ((exactly l).0 q)
  by_answer l room (Err r) q =
      left K t h bs r
      (λ st' g.
      ⊎_elim (λ c. cc (e, rule_is c)) (λ c. cc (q, (exactly l).1 (told_model c).1)) (told g).2)

  by_records :
      length rs ≡ n → (b : Bool) → leb 1000000 t.granted ≡ b →
      LeftExact
      (cond b (left_denied t h RecordsSpent)
      (model_done t h rs (model_answer K (read_sheet (plain_of t h)) (branch_of t h) n rs)))
  by_records l true q = left K t h bs RecordsSpent (spent K t h bs (leb-true _ _ q))
  by_records l false q =
      by_answer l (leb-false _ _ q) (model_answer K (read_sheet (plain_of t h)) (branch_of t h) n rs) refl

  by_length :
      (b : Bool) → eqb (length rs) n ≡ b →
      LeftExact
      (cond b
      (cond (leb 1000000 t.granted) (left_denied t h RecordsSpent)
      (model_done t h rs (model_answer K (read_sheet (plain_of t h)) (branch_of t h) n rs)))
      (left_denied t h NotStep))
  by_length true q = by_records (eqb-true _ _ q) (leb 1000000 t.granted) refl
  by_length false q = left K t h bs NotStep (short_model_denied K t h bs w un n rs e (eqb-false _ _ q))

pub model_step_exact :
    (K : ℕ → Option ℕ) (t : Counts) (h : Held) (bs : List ℕ) (n : ℕ) (rs : List ℕ) → Whole t h →
    t.verdict ≡ verdict.Undecided → step_in bs ≡ model n rs →
    ModelRight K (read_sheet (plain_of t h)) (branch_of t h) n rs →
    StepExact K t h bs (moved_on K t h (model n rs)).trial (moved_on K t h (model n rs)).stores
    (moved_on K t h (model n rs)).result
model_step_exact K t h bs n rs w un e right = by_length K t h bs n rs w un e right (eqb (length rs) n) refl

-- every step, where models are answered right
pub step_exact : ModelsRight → StepIsExact
step_exact right K t h bs w = by_stores (enough h) (enough_holds h w.enough)
  where
    by_move :
        (m : Move) → t.verdict ≡ verdict.Undecided → step_in bs ≡ m →
        StepExact K t h bs (moved_on K t h m).trial (moved_on K t h m).stores (moved_on K t h m).result
    by_move (rule x) un e = rule_step_exact K t h bs x w un e
    by_move (model n rs) un e =
        model_step_exact K t h bs n rs w un e (right K (read_sheet (plain_of t h)) (branch_of t h) n rs)
    by_move other un e = other_step_exact K t h bs w un e

    by_verdict :
        (v : Verdict) → t.verdict ≡ v →
        StepExact K t h bs (stepped_at v K t h (step_in bs)).trial (stepped_at v K t h (step_in bs)).stores
        (stepped_at v K t h (step_in bs)).result
    by_verdict verdict.Undecided e = by_move (step_in bs) e refl
    by_verdict verdict.Closed e = decided_step_exact K t h bs verdict.Closed e refl (step_in bs)
    by_verdict verdict.Open e = decided_step_exact K t h bs verdict.Open e refl (step_in bs)

    by_stores :
        (b : Bool) → b ≡ true →
        StepExact K t h bs (cond b (stepped_at t.verdict K t h (step_in bs)) (left_denied t h StoresShort)).trial
        (cond b (stepped_at t.verdict K t h (step_in bs)) (left_denied t h StoresShort)).stores
        (cond b (stepped_at t.verdict K t h (step_in bs)) (left_denied t h StoresShort)).result
    by_stores true q = by_verdict t.verdict refl
    by_stores false q = absurd cc
