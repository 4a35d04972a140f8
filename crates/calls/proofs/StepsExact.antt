-- A step by a rule is granted exactly where the subject has a case for its bytes (`rule_step_exact`), no other
-- bytes are (`other_step_exact`, `short_model_denied`), none is once there is a verdict (`decided_step_exact`),
-- and a settle is granted exactly where there is one (`settle_exact`).
use Rattle.std.proofs.Common.{◌≡◌, ℕ, ◌+◌, ◌*◌, ◌<◌, ◌≤◌, Bool, true, false, cond, eqb, leb, List, length, Ok, Err, Result, sym, refl, ap, subst, ⊎_elim, arith, ne_eqb, leb-false, leb-true}
use mathlib.Core.Option.{Option}
use Rattle.records.specs.declared.rows.Step.{Step}
use Rattle.records.specs.declared.refusal.Refusal.{Refusal}
use Rattle.records.specs.declared.refusal.Refusal.TheVariants.{RecordsSpent, NotStep, VerdictReached, NoVerdict}
use Rattle.records.specs.declared.verdict.Verdict.{Verdict}
use Rattle.records.specs.declared.verdict.Verdict.TheVariants as verdict
use Rattle.records.specs.Verdicts.{reached_by}
use Rattle.records.specs.Reading.{Move, rule, model, other, byte, step_of, step_in}
use Rattle.rules.specs.declared.outcome.Outcome.{Outcome}
use Rattle.rules.specs.declared.outcome.Outcome.TheVariants as outcome
use Rattle.meaning.specs.Calculus.{Alt, running}
use Rattle.meaning.specs.Mixes.{undecided, Decided, Room, trying, Grants, rule_step, verdict_there}
use Rattle.meaning.specs.Mixes as subject
use Rattle.calls.specs.Bridge.{AppliesTo}
use Rattle.calls.specs.Stores.{Held}
use Rattle.calls.specs.Sheets.{Counts}
use Rattle.calls.specs.RuleSteps.{branch_facts, come_to, Stepped, taken, left_denied, done}
use Rattle.calls.specs.Trials.{plain_of, branch_of, moved_on, stepped_at}
use Rattle.calls.specs.Views.{state_by, verdict_by, read_trial, Whole}
use Rattle.calls.specs.Exact.{Denied, StepExact, SettleExact, SettleIsExact}
use Rattle.calls.proofs.Following.{open_forks, Right}
use Rattle.calls.proofs.Steps.{come_right}
use Rattle.calls.proofs.StepCases.{ByRule, told, rule_is, model_is, read_rule}

-- a granted step is answered so
taken_ok : (t : Counts) (h : Held) (o : Outcome) → (taken t h o).result ≡ Ok tt
taken_ok t h outcome.Closes = refl
taken_ok t h _ = refl

-- a step left denied is right where no case grants it
pub left :
    (K : ℕ → Option ℕ) (t : Counts) (h : Held) (bs : List ℕ) (e : Refusal) →
    Denied K (trying (read_trial t h)) (subject.step bs) →
    StepExact K t h bs (left_denied t h e).trial (left_denied t h e).stores (left_denied t h e).result
left K t h bs e never = (refl, refl, never)

-- no record is granted past the last
pub spent :
    (K : ℕ → Option ℕ) (t : Counts) (h : Held) (bs : List ℕ) → 1000000 ≤ t.granted →
    Denied K (trying (read_trial t h)) (subject.step bs)
spent K t h bs l = λ st' g. (let few : t.granted < 1000000 = (told g).1 in omega arith)

-- ── a step by a rule ───────────────────────────────────────────────────────

module _ (K : ℕ → Option ℕ) (t : Counts) (h : Held) (bs : List ℕ) (w : Whole t h) (un : t.verdict ≡ verdict.Undecided) where
  -- the trial runs
  pub runs : (read_trial t h).state ≡ running (branch_of t h) (open_forks t h)
  runs = ap (λ (v : Verdict). state_by v t h) un

  pub no_verdict : (read_trial t h).verdict ≡ undecided
  no_verdict = ap (λ (v : Verdict). verdict_by v t h) un

  -- bytes read as the rule step x are granted only where x applies with room
  told_rule :
      (x : Step) → step_in bs ≡ rule x → ByRule K (read_trial t h) bs →
      (alts : List Alt) × AppliesTo K (plain_of t h) (branch_facts t h) t.names x alts ×
      Room (branch_of t h) (open_forks t h) alts
  told_rule x e c =
      let same : x ≡ record { rule = c.r; p = c.ph * 256 + c.pl; q = c.qh * 256 + c.ql; t = c.t; w = c.w } =
      cc (e, rule_is c) in
      let at_branch : c.branch ≡ branch_of t h = cc (runs, c.state) in
      let at_forks : c.forks ≡ open_forks t h = cc (runs, c.state) in (
        c.alts,
        rw (same, ← at_branch) c.applies,
        rw (← at_branch, ← at_forks) c.room,
      )

  -- granted, or refused, as the step is right to come to
  by_outcome :
      (x : Step) → step_in bs ≡ rule x → t.granted < 1000000 → (z : Result Outcome Refusal) → Right K t h x z →
      StepExact K t h bs (done t h z).trial (done t h z).stores (done t h z).result
  by_outcome x e room (Ok o) g =
      let r = read_rule bs x e in
      let a : AppliesTo K (plain_of t h) (branch_facts t h) t.names (step_of bs) g.0 =
      subst (λ (z : Step). AppliesTo K (plain_of t h) (branch_facts t h) t.names z g.0) (sym r.1) g.1 in
      rw (taken_ok t h o) (
        g.3,
        rw (r.0, g.4)
            (rule_step (byte bs 2) (byte bs 3) (byte bs 4) (byte bs 5) (byte bs 6) (byte bs 7) (byte bs 8) no_verdict
            runs room a g.2),
      )
  by_outcome x e room (Err r) never =
      left K t h bs r
      (λ st' g. ⊎_elim (λ c. let m = told_rule x e c in never m.0 m.1 m.2) (λ c. cc (e, model_is c)) (told g).2)

  -- what a step left is exact
  abbrev LeftExact : Stepped → Type 0
  LeftExact s = StepExact K t h bs s.trial s.stores s.result

  by_records :
      (x : Step) → step_in bs ≡ rule x → (b : Bool) → leb 1000000 t.granted ≡ b →
      LeftExact (cond b (left_denied t h RecordsSpent) (done t h (come_to K t h x)))
  by_records x e true q = left K t h bs RecordsSpent (spent K t h bs (leb-true _ _ q))
  by_records x e false q =
      let room : t.granted < 1000000 = leb-false _ _ q in
      by_outcome x e room (come_to K t h x) (come_right K t h x w un room)

  -- ── other bytes ──────────────────────────────────────────────────────────

  other_exact :
      step_in bs ≡ other →
      StepExact K t h bs (moved_on K t h other).trial (moved_on K t h other).stores (moved_on K t h other).result
  other_exact e =
      left K t h bs NotStep (λ st' g. ⊎_elim (λ c. cc (e, rule_is c)) (λ c. cc (e, model_is c)) (told g).2)

  -- a model with another number of representatives than it says
  pub short_model_denied :
      (n : ℕ) (rs : List ℕ) → step_in bs ≡ model n rs → (length rs ≡ n → ⊥) →
      Denied K (trying (read_trial t h)) (subject.step bs)
  short_model_denied n rs e short = λ st' g.
      ⊎_elim (λ c. cc (e, rule_is c)) (λ c. let q = model_is c in let s = c.counted in short cc) (told g).2

pub rule_step_exact :
    (K : ℕ → Option ℕ) (t : Counts) (h : Held) (bs : List ℕ) (x : Step) → Whole t h →
    t.verdict ≡ verdict.Undecided → step_in bs ≡ rule x →
    StepExact K t h bs (moved_on K t h (rule x)).trial (moved_on K t h (rule x)).stores
    (moved_on K t h (rule x)).result
rule_step_exact K t h bs x w un e = by_records K t h bs w un x e (leb 1000000 t.granted) refl

pub other_step_exact :
    (K : ℕ → Option ℕ) (t : Counts) (h : Held) (bs : List ℕ) → Whole t h → t.verdict ≡ verdict.Undecided →
    step_in bs ≡ other →
    StepExact K t h bs (moved_on K t h other).trial (moved_on K t h other).stores (moved_on K t h other).result
other_step_exact K t h bs w un e = other_exact K t h bs w un e

pub short_model_exact :
    (K : ℕ → Option ℕ) (t : Counts) (h : Held) (bs : List ℕ) (n : ℕ) (rs : List ℕ) → Whole t h →
    t.verdict ≡ verdict.Undecided → step_in bs ≡ model n rs → (length rs ≡ n → ⊥) →
    StepExact K t h bs (moved_on K t h (model n rs)).trial (moved_on K t h (model n rs)).stores
    (moved_on K t h (model n rs)).result
short_model_exact K t h bs n rs w un e short = go (eqb (length rs) n) (ne_eqb (length rs) n short) _
  where
    go :
        (b : Bool) → b ≡ false → (s : Stepped) →
        StepExact K t h bs (cond b s (left_denied t h NotStep)).trial (cond b s (left_denied t h NotStep)).stores
        (cond b s (left_denied t h NotStep)).result
    go true q s = absurd cc
    go false q s = left K t h bs NotStep (short_model_denied K t h bs w un n rs e short)

-- ── once there is a verdict ────────────────────────────────────────────────

-- no step is granted where there is a verdict
decided_denied :
    (K : ℕ → Option ℕ) (t : Counts) (h : Held) (bs : List ℕ) → Decided (read_trial t h).verdict →
    Denied K (trying (read_trial t h)) (subject.step bs)
decided_denied K t h bs d = λ st' g. subst Decided (told g).0 d

pub decided_step_exact :
    (K : ℕ → Option ℕ) (t : Counts) (h : Held) (bs : List ℕ) (v : Verdict) → t.verdict ≡ v →
    reached_by v ≡ true → (m : Move) →
    StepExact K t h bs (stepped_at v K t h m).trial (stepped_at v K t h m).stores (stepped_at v K t h m).result
decided_step_exact K t h bs verdict.Undecided e r m = absurd cc
decided_step_exact K t h bs _ e r m =
    left K t h bs VerdictReached
    (decided_denied K t h bs (rw e tt))

-- ── settle ─────────────────────────────────────────────────────────────────

pub settle_exact : SettleIsExact
settle_exact K t h w = go t.verdict refl
  where
    go : (v : Verdict) → t.verdict ≡ v → SettleExact K t h (cond (reached_by v) (Ok tt) (Err NoVerdict))
    go verdict.Undecided e = λ st' g. subst (λ (v : Verdict). Decided (verdict_by v t h)) e (told g)
    go _ e = verdict_there (rw e tt)
