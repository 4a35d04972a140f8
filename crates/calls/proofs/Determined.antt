-- The subject grants a call at most one stage, where it is read from numbers and stores (`single`).
use Rattle.std.proofs.Common.{◌≡◌, ℕ, ◌⊎◌, List, length, drop, sym, refl, ◌∙◌, subst, inl, inr, arith}
use mathlib.Core.Option.{Option, none}
use Rattle.std.specs.declared.option.Option.TheVariants as option
use Rattle.records.specs.declared.record.RowRecord.TheVariants as row
use Rattle.records.specs.declared.verdict.Verdict.{Verdict}
use Rattle.records.specs.declared.verdict.Verdict.TheVariants as verdict
use Rattle.records.specs.Reading.{RowRead, byte, row_in, step_of}
use Rattle.meaning.specs.Terms.{Row, Fact, names}
use Rattle.meaning.specs.Calculus.{Alt, Branch, Fork, running, apply, Applies}
use Rattle.meaning.specs.Mixes.{Draft, drafted, with_code, with_row, with_constraint, Trial, moved, modelled}
use Rattle.meaning.specs.Mixes.{Stage, filling, trying, settled, Call, add, seal, step, settle}
use Rattle.meaning.specs.Mixes.{Grants, label_row, term_row, constraint_row, full_sheet, rule_step, model_step}
use Rattle.meaning.specs.Mixes.{verdict_there}
use Rattle.meaning.specs.Mixes as subject
use Rattle.calls.specs.Reading.{write_row, write_fact, Good}
use Rattle.calls.specs.Stores.{Held}
use Rattle.calls.specs.Sheets.{Filling, Counts}
use Rattle.calls.specs.RuleSteps.{branch_facts}
use Rattle.calls.specs.Trials.{plain_of, branch_of}
use Rattle.calls.specs.Views.{Orderly, Whole, Live, LiveBy, plain_in, read_draft, state_of, state_by, verdict_by, read_trial}
use Rattle.calls.specs.Runs.{sheet, trial}
use Rattle.calls.proofs.Granted as rows
use Rattle.calls.proofs.Bridge.{bridged}
use Rattle.calls.proofs.Written.{fact_back}
use Rattle.calls.proofs.RowBytes.{row_read, row_back}
use Rattle.calls.proofs.FactBytes.{said_by, said_back, fact_read}
use Rattle.calls.proofs.AddCases.{TermCase, ConstraintCase}
use Rattle.calls.proofs.Runs.{Single}

-- ── rows ───────────────────────────────────────────────────────────────────

-- Where a granted row leads, by the row that was read.
abbrev Led : Draft → RowRead → Stage → Type 0
Led D (option.Some (row.Label c)) st = st ≡ filling (drafted D (with_code D.sheet c))
Led D (option.Some (row.Term r)) st =
    (R : Row) × (write_row R ≡ r) × TermCase D R × (st ≡ filling (drafted D (with_row D.sheet R)))
Led D (option.Some (row.Constraint r)) st =
    (F : Fact) × (said_by (write_fact F) ≡ r) × ConstraintCase D F
    × (st ≡ filling (drafted D (with_constraint D.sheet F)))
Led D option.None st = ⊥

led : (K : ℕ → Option ℕ) (D : Draft) (bs : List ℕ) (st : Stage) → Grants K (filling D) (add bs) st → Led D (row_in bs) st
led K D bs st (label_row a b c d l e) = refl
led K D bs st (term_row R l t low high b) =
    subst (λ (x : RowRead). Led D x st) (sym (row_read R))
    (R, refl, record { labels = l; due = t; low = low; high = high; fits = b }, refl)
led K D bs st (constraint_row F l t c b) =
    subst (λ (x : RowRead). Led D x st) (sym (fact_read F))
    (F, refl, record { labels = l; terms = t; due = c; fits = b }, refl)

module _ (f : Filling) (h : Held) (o : Orderly f h) where
  good : Good (plain_in f h)
  good = (((rows.granted).4 (plain_in f h)).0 o.passed).sheet

  led_one :
      (x : RowRead) (st st' : Stage) → Led (read_draft f h) x st → Led (read_draft f h) x st' → st ≡ st'
  led_one (option.Some (row.Label c)) st st' e e' = e ∙ sym e'
  led_one (option.Some (row.Term r)) st st' (R, w, c, e) (R', w', c', e') =
      let S = (read_draft f h).sheet in
      let back = row_back S.rows (names S) (length S.rows) in
      cc (back R c.high c.fits, back R' c'.high c'.fits)
  led_one (option.Some (row.Constraint r)) st st' (F, w, c, e) (F', w', c', e') =
      let S = (read_draft f h).sheet in
      let back = fact_back (λ x. none) (plain_in f h) good (names S) in
      cc (back F c.fits, back F' c'.fits, said_back (write_fact F), said_back (write_fact F'))
  led_one option.None st st' e e' = absurd e

-- ── steps ──────────────────────────────────────────────────────────────────

-- A rule step by its bytes: where it leads.
pub record RuleLed (K : ℕ → Option ℕ) (T : Trial) (bs : List ℕ) (st : Stage) : Type 0 where
  pub mark : byte bs 0 ≡ 83
  pub undecided : T.verdict ≡ subject.undecided
  pub branch : Branch
  pub forks : List Fork
  pub alts : List Alt
  pub state : T.state ≡ running branch forks
  pub applies :
      Applies K T.sheet branch (step_of bs).rule (step_of bs).p (step_of bs).q (step_of bs).t (step_of bs).w alts
  pub leads : st ≡ trying (moved T (apply branch alts forks))

-- A model step by its bytes.
pub record ModelLed (T : Trial) (bs : List ℕ) (st : Stage) : Type 0 where
  pub mark : byte bs 0 ≡ 77
  pub leads : st ≡ trying (modelled T (drop 3 bs))

stepped : (K : ℕ → Option ℕ) (T : Trial) (bs : List ℕ) (st : Stage) → Grants K (trying T) (step bs) st →
    RuleLed K T bs st ⊎ ModelLed T bs st
stepped K T bs st (rule_step {b = b} {fs = fs} {alts = alts} r ph pl qh ql t w u s g a m) =
    inl (record {
      mark = refl;
      undecided = u;
      branch = b;
      forks = fs;
      alts = alts;
      state = s;
      applies = a;
      leads = refl;
    })
stepped K T bs st (model_step count rs u s g n l few sat) = inr (record { mark = refl; leads = refl })

module _ (K : ℕ → Option ℕ) (t : Counts) (h : Held) (w : Whole t h) (bs : List ℕ) where
  -- the state of a trial that is undecided
  state_is :
      (v : Verdict) → t.verdict ≡ v → verdict_by v t h ≡ subject.undecided →
      (state_by v t h ≡ state_of t h) × Live t h
  state_is verdict.Undecided e u = (refl, subst (λ (x : Verdict). LiveBy x t h) e w.live)
  state_is verdict.Closed e u = absurd cc
  state_is verdict.Open e u = absurd cc

  rules_one :
      (st st' : Stage) → RuleLed K (read_trial t h) bs st → RuleLed K (read_trial t h) bs st' → st ≡ st'
  rules_one st st' x y =
      let T = read_trial t h in
      let s = state_is t.verdict refl x.undecided in
      let at_x : branch_of t h ≡ x.branch = cc (s.0, x.state) in
      let at_y : branch_of t h ≡ y.branch = cc (s.0, y.state) in
      let Ap : Branch → List Alt → Type 0 = λ b alts.
      Applies K T.sheet b (step_of bs).rule (step_of bs).p (step_of bs).q (step_of bs).t (step_of bs).w alts in
      let alts_one : x.alts ≡ y.alts =
      bridged.2 K (plain_of t h) (branch_facts t h) t.names s.1.fair (step_of bs) x.alts y.alts
      (subst (λ (b : Branch). Ap b x.alts) (sym at_x) x.applies)
      (subst (λ (b : Branch). Ap b y.alts) (sym at_y) y.applies) in
      let forks_one : x.forks ≡ y.forks = cc (x.state, y.state) in
      cc (x.leads, y.leads)

  steps_one :
      (st st' : Stage) → RuleLed K (read_trial t h) bs st ⊎ ModelLed (read_trial t h) bs st →
      RuleLed K (read_trial t h) bs st' ⊎ ModelLed (read_trial t h) bs st' → st ≡ st'
  steps_one st st' (inl x) (inl y) = rules_one st st' x y
  steps_one st st' (inl x) (inr y) = absurd (omega (arith, x.mark, y.mark))
  steps_one st st' (inr x) (inl y) = absurd (omega (arith, x.mark, y.mark))
  steps_one st st' (inr x) (inr y) = x.leads ∙ sym y.leads

-- ── any call ───────────────────────────────────────────────────────────────

sealed_one : (K : ℕ → Option ℕ) (D : Draft) (x : Stage) → Grants K (filling D) seal x → x ≡ trying (subject.sealed D.sheet)
sealed_one K D x (full_sheet l t c) = refl

settled_one : (K : ℕ → Option ℕ) (T : Trial) (x : Stage) → Grants K (trying T) settle x → x ≡ settled T
settled_one K T x (verdict_there d) = refl

pub single : Single
single K (sheet f h) (add bs) x y o g k =
    led_one f h o (row_in bs) x y (led K (read_draft f h) bs x g) (led K (read_draft f h) bs y k)
single K (sheet f h) seal x y o g k = sealed_one K (read_draft f h) x g ∙ sym (sealed_one K (read_draft f h) y k)
single K (trial t h) (step bs) x y o g k =
    steps_one K t h o bs x y (stepped K (read_trial t h) bs x g) (stepped K (read_trial t h) bs y k)
single K (trial t h) settle x y o g k = settled_one K (read_trial t h) x g ∙ sym (settled_one K (read_trial t h) y k)
single K _ _ x y o g k = elim g [ ]
