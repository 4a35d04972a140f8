-- A step by a rule comes to what the calculus has (`come_right`): granted (`granted_step`) and refused, where no rule
-- applies with room (`refused_step`).
use Rattle.std.proofs.Common.{◌≡◌, ℕ, ◌-◌, ◌<◌, Bool, true, false, cond, eqb, List, Ok, Err, Result, refl, subst, arith, eqb-true}
use mathlib.Core.Option.{Option}
use Rattle.std.specs.List.{slice_get}
use Rattle.records.specs.declared.rows.Step.{Step}
use Rattle.records.specs.declared.refusal.Refusal.{Refusal}
use Rattle.records.specs.declared.verdict.Verdict.TheVariants as verdict
use Rattle.rules.specs.declared.cited.Plan.{Plan}
use Rattle.rules.specs.declared.outcome.Outcome.{Outcome}
use Rattle.rules.specs.Rules.{alternatives_of}
use Rattle.rules.specs.Looked.{planned}
use Rattle.meaning.specs.Calculus.{Alt, apply}
use Rattle.meaning.specs.Mixes.{Room}
use Rattle.meaning.specs.Mixes as subject
use Rattle.calls.specs.Bridge.{AppliesTo}
use Rattle.calls.specs.Stores.{Held}
use Rattle.calls.specs.Sheets.{Counts}
use Rattle.calls.specs.RuleSteps.{closing, growing, codes_of, rows_of, branch_facts, forks_of, outcome_of, come_to, taken}
use Rattle.calls.specs.Trials.{plain_of, branch_of}
use Rattle.calls.specs.Views.{read_trial, Whole}
use Rattle.calls.proofs.Bridge.{bridged}
use Rattle.calls.proofs.Following.{open_forks, Right, live, recorded, whole_recorded}
use Rattle.calls.proofs.Closings.{closes}
use Rattle.calls.proofs.Growing.{grows}

pub come_right :
    (K : ℕ → Option ℕ) (t : Counts) (h : Held) (x : Step) → Whole t h → t.verdict ≡ verdict.Undecided →
    t.granted < 1000000 → Right K t h x (come_to K t h x)
come_right K t h x w un room =
    by_plan (planned K (codes_of t h) (rows_of t h) (branch_facts t h) x) refl
  where
    by_count :
        (y : Plan) (b : Bool) → planned K (codes_of t h) (rows_of t h) (branch_facts t h) x ≡ Ok y →
        eqb (alternatives_of y.rule) 0 ≡ b →
        Right K t h x
        (cond b (closing t (rows_of t h) (branch_facts t h) (slice_get (forks_of t h) (t.forks - 1)))
        (growing t x y.rule y.cited))
    by_count y true ep e =
        closes t h w un room K x y ep (eqb-true _ _ e) (slice_get (forks_of t h) (t.forks - 1)) refl
    by_count y false ep e = grows t h w un room K x y ep e

    by_plan :
        (z : Result Plan Refusal) → planned K (codes_of t h) (rows_of t h) (branch_facts t h) x ≡ z →
        Right K t h x (outcome_of t h x z)
    by_plan (Err e) ep =
        λ alts a has.
        (let m =
        bridged.1 K (plain_of t h) (branch_facts t h) t.names (live t h w un).fair x alts a in
        cc (ep, m.1))
    by_plan (Ok y) ep = by_count y (eqb (alternatives_of y.rule) 0) ep refl

-- a granted step: a rule applies with room, and what is left reads as its alternatives bring it
pub granted_step :
    (K : ℕ → Option ℕ) (t : Counts) (h : Held) (x : Step) (o : Outcome) → Whole t h →
    t.verdict ≡ verdict.Undecided → t.granted < 1000000 → come_to K t h x ≡ Ok o →
    (alts : List Alt) × AppliesTo K (plain_of t h) (branch_facts t h) t.names x alts ×
    Room (branch_of t h) (open_forks t h) alts × Whole (taken t h o).trial (taken t h o).stores ×
    (read_trial (taken t h o).trial (taken t h o).stores
    ≡ subject.moved (read_trial t h) (apply (branch_of t h) alts (open_forks t h)))
granted_step K t h x o w un room e =
    subst (λ (z : Result Outcome Refusal). Right K t h x z) e (come_right K t h x w un room)

-- a refused step: no rule applies with room, whatever number of records was granted before
pub refused_step :
    (K : ℕ → Option ℕ) (t : Counts) (h : Held) (x : Step) (e : Refusal) → Whole t h →
    t.verdict ≡ verdict.Undecided → come_to K t h x ≡ Err e → (alts : List Alt) →
    AppliesTo K (plain_of t h) (branch_facts t h) t.names x alts → Room (branch_of t h) (open_forks t h) alts → ⊥
refused_step K t h x e w un r =
    let fresh = recorded t 0 t.denied in
    subst (λ (z : Result Outcome Refusal). Right K fresh h x z) r
    (come_right K fresh h x (whole_recorded t h 0 t.denied (omega arith) w) un (omega arith))
