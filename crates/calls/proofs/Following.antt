-- What a step by a rule is right to come to (`Right`): where it is granted the rule applies with room, and
-- numbers and stores then read as the state that its alternatives bring; where it is refused no rule applies
-- with room. Facts and forks that land as lists are followed in the stores (`lands_follow`).
use Rattle.std.proofs.Common.{◌≡◌, ℕ, ◌<◌, ◌≤◌, List, [], length, take, Ok, Err, Result, sym, ◌∙◌, subst, arith, length-take}
use mathlib.Core.Option.{Option}
use Rattle.records.specs.declared.rows.Fact.{Fact as FactRow}
use Rattle.records.specs.declared.rows.Step.{Step}
use Rattle.records.specs.declared.refusal.Refusal.{Refusal}
use Rattle.records.specs.declared.verdict.Verdict.{Verdict}
use Rattle.records.specs.declared.verdict.Verdict.TheVariants as verdict
use Rattle.rules.specs.declared.cited.Plan.{Plan}
use Rattle.rules.specs.declared.outcome.Fork.{Fork as ForkRow}
use Rattle.rules.specs.declared.outcome.Outcome.{Outcome}
use Rattle.rules.specs.Looked.{planned}
use Rattle.meaning.specs.Calculus.{Alt, Fork, State, running, closed, apply}
use Rattle.meaning.specs.Mixes.{Room}
use Rattle.meaning.specs.Mixes as subject
use Rattle.calls.specs.Reading.{Good}
use Rattle.calls.specs.Bridge.{read_branch, plan_alts, Fair, AppliesTo}
use Rattle.calls.specs.Stores.{Held, with_facts, with_forks}
use Rattle.calls.specs.Sheets.{Counts}
use Rattle.calls.specs.RuleSteps.{codes_of, rows_of, branch_facts, forks_of, counted, taken}
use Rattle.calls.specs.Trials.{plain_of, branch_of}
use Rattle.calls.specs.Views.{read_forks, state_of, read_trial, Stacked, Live, LiveBy, Whole}
use Rattle.calls.proofs.Bridge.{bridged}
use Rattle.calls.proofs.Landings.{Lands}

-- The forks of a trial, read.
abbrev pub open_forks : Counts → Held → List Fork
open_forks t h = read_forks (plain_of t h) (branch_facts t h) (forks_of t h) []

-- What a step is right to come to.
abbrev pub Right : (ℕ → Option ℕ) → Counts → Held → Step → Result Outcome Refusal → Type 0
Right K t h x (Ok o) =
    (alts : List Alt) × AppliesTo K (plain_of t h) (branch_facts t h) t.names x alts ×
    Room (branch_of t h) (open_forks t h) alts ×
    Whole (taken t h o).trial (taken t h o).stores ×
    (read_trial (taken t h o).trial (taken t h o).stores
    ≡ subject.moved (read_trial t h) (apply (branch_of t h) alts (open_forks t h)))
Right K t h x (Err e) =
    (alts : List Alt) → AppliesTo K (plain_of t h) (branch_facts t h) t.names x alts →
    Room (branch_of t h) (open_forks t h) alts → ⊥

-- What a granted step leaves is whole, and read it is the trial moved to the state x.
abbrev pub Follows : Counts → Held → Counts → Held → State → Type 0
Follows t h t' h' x = Whole t' h' × (read_trial t' h' ≡ subject.moved (read_trial t h) x)

-- A trial with other numbers of granted and denied records is whole too.
abbrev pub recorded : Counts → ℕ → ℕ → Counts
recorded t g d = record t { granted = g; denied = d }

live_recorded : (t : Counts) (h : Held) (g d : ℕ) (v : Verdict) → LiveBy v t h → LiveBy v (recorded t g d) h
live_recorded t h g d verdict.Closed l = tt
live_recorded t h g d _ l = record { fair = l.fair; stacked = l.stacked }

pub whole_recorded : (t : Counts) (h : Held) (g d : ℕ) → g ≤ 1000000 → Whole t h → Whole (recorded t g d) h
whole_recorded t h g d few w = search (arith, live_recorded t h g d t.verdict w.live)

module _ (t : Counts) (h : Held) (w : Whole t h) where
  pub live : t.verdict ≡ verdict.Undecided → Live t h
  live un = subst (λ (v : Verdict). LiveBy v t h) un w.live

  -- the branch is as long as counted, and there are as many forks
  pub facts_long : length (branch_facts t h) ≡ t.facts
  facts_long =
      omega (arith, length-take t.facts h.facts)

  pub forks_long : length (forks_of t h) ≡ t.forks
  forks_long =
      omega (arith, length-take t.forks h.forks)

module _ (t : Counts) (h : Held) (w : Whole t h) (un : t.verdict ≡ verdict.Undecided) (room : t.granted < 1000000) where
  -- facts and forks in the stores that land are followed
  pub lands_follow :
      (m n k : ℕ) (xs : List FactRow) (ks : List ForkRow) (x : State) (F : List FactRow) (G : List ForkRow) →
      length xs ≡ length h.facts → length ks ≡ length h.forks →
      take t.constraints xs ≡ take t.constraints h.facts → take m xs ≡ F → take k ks ≡ G → k ≤ 64 →
      Lands (plain_of t h) t.constraints x m n F G →
      Follows t h (counted t t.verdict m n k) (with_facts (with_forks h ks) xs) x
  lands_follow m n k xs ks x F G lx lk ec eF eG few l =
      let same : plain_of t h ≡ plain_of (counted t t.verdict m n k) (with_facts (with_forks h ks) xs) = cc in
      let fair : Fair (plain_of (counted t t.verdict m n k) (with_facts (with_forks h ks) xs)) (take m xs) n =
      rw (← same, eF) l.fair in
      let stacked :
      Stacked (plain_of (counted t t.verdict m n k) (with_facts (with_forks h ks) xs)) (take m xs) t.constraints m (take k ks) =
      rw (← same, eF, eG) l.stacked in
      let state : state_of (counted t t.verdict m n k) (with_facts (with_forks h ks) xs) ≡ x =
      (λ i. running (read_branch (sym same i) (eF i) n) (read_forks (sym same i) (eF i) (eG i) [])) ∙ l.reads in (
        record {
          enough = record {
            labels = w.enough.labels;
            terms = w.enough.terms;
            facts = omega arith;
            forks = omega arith;
            tuples = w.enough.tuples;
            representatives = w.enough.representatives;
          };
          few_sheet_names = w.few_sheet_names;
          few_terms = w.few_terms;
          few_constraints = w.few_constraints;
          few_names = l.few_names;
          few_facts = l.few_facts;
          few_forks = few;
          few_granted = omega arith;
          constraints_kept = l.kept;
          good = subst Good same w.good;
          live =
              subst
              (λ (v : Verdict). LiveBy v (counted t t.verdict m n k) (with_facts (with_forks h ks) xs))
              (sym un) (record { fair = fair; stacked = stacked });
        },
        cc (un, same, state),
      )

  -- the last branch closes
  pub closes_follow :
      (x : State) → closed ≡ x →
      Follows t h (counted t verdict.Closed t.facts t.names t.forks) h x
  closes_follow x e = (
    search arith,
    cc,
  )

  -- ── a step with a plan ───────────────────────────────────────────────────

  module _
      (K : ℕ → Option ℕ) (x : Step) (y : Plan)
      (ep : planned K (codes_of t h) (rows_of t h) (branch_facts t h) x ≡ Ok y) where
    pub applies : AppliesTo K (plain_of t h) (branch_facts t h) t.names x (plan_alts (plain_of t h) t.names y)
    applies = bridged.0 K (plain_of t h) (branch_facts t h) t.names (live t h w un).fair x y ep

    -- the plan's alternatives are the only ones, so without room for them the step is refused
    pub refused :
        (e : Refusal) → (Room (branch_of t h) (open_forks t h) (plan_alts (plain_of t h) t.names y) → ⊥) →
        Right K t h x (Err e)
    refused e never = λ alts a has.
        never
        (rw (bridged.2 K (plain_of t h) (branch_facts t h) t.names (live t h w un).fair x alts
        (plan_alts (plain_of t h) t.names y) a applies) at has)

    pub granted :
        (o : Outcome) → Room (branch_of t h) (open_forks t h) (plan_alts (plain_of t h) t.names y) →
        Follows t h (taken t h o).trial (taken t h o).stores
        (apply (branch_of t h) (plan_alts (plain_of t h) t.names y) (open_forks t h)) →
        Right K t h x (Ok o)
    granted o has f = (plan_alts (plain_of t h) t.names y, applies, has, f.0, f.1)
