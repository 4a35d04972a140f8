-- A rule that forks cites its fact p (`made`), and its alternatives are made again from that fact alone
-- (`again`).
use Rattle.std.proofs.Common.{◌≡◌, ℕ, suc, ◌≤◌, Bool, true, false, cond, ◌&&◌, eqb, List, Some, None, Ok, Err, Option as Maybe, Result, refl, subst, arith}
use mathlib.Core.Option.{Option}
use Rattle.records.specs.declared.rows.Fact.{Fact as FactRow}
use Rattle.records.specs.declared.rows.TermRow.{TermRow}
use Rattle.records.specs.declared.rows.Step.{Step}
use Rattle.records.specs.declared.rule.Rule.{Rule as RuleName}
use Rattle.records.specs.declared.rule.Rule.TheVariants as R
use Rattle.records.specs.declared.refusal.Refusal.{Refusal}
use Rattle.records.specs.declared.refusal.Refusal.TheVariants.{NotMet}
use Rattle.rules.specs.declared.cited.Plan.{Plan}
use Rattle.rules.specs.Rules.{alternative_of, alternatives_of, line_met}
use Rattle.records.specs.Kinds.{rule_of}
use Rattle.rules.specs.Looked.{uses, looked, zeros_kept, cited_by, plan_q, plan_p, plan_rule, planned}
use Rattle.calls.specs.RuleSteps.{cited_again}

-- the alternatives of a rule that has two or more
abbrev Again : RuleName → Type 0
Again r =
    eqb (alternatives_of r) 0 ≡ false → eqb (alternatives_of r) 1 ≡ false →
    (K : ℕ → Option ℕ) (codes : List ℕ) (rows : List TermRow) (x : Step) (f g : FactRow) (n k : ℕ) →
    alternative_of r (cited_by K codes rows r x f g) n k ≡ alternative_of r (cited_again rows f x.t) n k

pub again : (r : RuleName) → Again r
again R.UnionDown a b K codes rows x f g n k = refl
again R.DiffUp a b K codes rows x f g n k = refl
again R.SetDiseq a b K codes rows x f g n k = refl
again R.ClosDown a b K codes rows x f g n k = refl
again _ a b K codes rows x f g n k = absurd cc

-- a rule that forks mentions p, and has at least two alternatives
pub forking :
    (r : RuleName) → eqb (alternatives_of r) 0 ≡ false → eqb (alternatives_of r) 1 ≡ false →
    ((uses r).p ≡ true) × ((k : ℕ) × (alternatives_of r ≡ suc (suc k)))
forking R.UnionDown a b = (refl, (0, refl))
forking R.DiffUp a b = (refl, (0, refl))
forking R.SetDiseq a b = (refl, (0, refl))
forking R.ClosDown a b = (refl, (1, refl))
forking _ a b = absurd cc

-- no rule has more than three
pub few_alternatives : (r : RuleName) → alternatives_of r ≤ 3
few_alternatives R.ClosDown = omega arith
few_alternatives _ = omega arith

module _ (K : ℕ → Option ℕ) (codes : List ℕ) (rows : List TermRow) (facts : List FactRow) (x : Step) where
  -- what a plan is made of
  pub record Made (y : Plan) : Type 0 where
    pub f : FactRow
    pub g : FactRow
    pub named : rule_of x.rule ≡ Some y.rule
    pub at_p : looked (uses y.rule).p facts x.p ≡ Some f
    pub at_q : looked (uses y.rule).q facts x.q ≡ Some g
    pub cites : y.cited ≡ cited_by K codes rows y.rule x f g
    pub met : (zeros_kept y.rule x && line_met y.rule (cited_by K codes rows y.rule x f g)) ≡ true

  pub made : (y : Plan) → planned K codes rows facts x ≡ Ok y → Made y
  made y h = by_rule (rule_of x.rule) refl h
    where
      by_test :
          (b : Bool) (r : RuleName) (f g : FactRow) → rule_of x.rule ≡ Some r →
          looked (uses r).p facts x.p ≡ Some f → looked (uses r).q facts x.q ≡ Some g →
          (zeros_kept r x && line_met r (cited_by K codes rows r x f g)) ≡ b →
          ◌≡◌ {A = Result Plan Refusal}
          (cond b (Ok (record { rule = r; cited = cited_by K codes rows r x f g })) (Err NotMet)) (Ok y) →
          Made y
      by_test true r f g er ep eq m h =
          let e : record { rule = r; cited = cited_by K codes rows r x f g } ≡ y = cc in
          subst Made e
          (record { f = f; g = g; named = er; at_p = ep; at_q = eq; cites = refl; met = m })
      by_test false r f g er ep eq m h = absurd cc

      by_q :
          (r : RuleName) (f : FactRow) (o : Maybe FactRow) → rule_of x.rule ≡ Some r →
          looked (uses r).p facts x.p ≡ Some f → looked (uses r).q facts x.q ≡ o →
          plan_q K codes rows r x f o ≡ Ok y → Made y
      by_q r f None er ep eq h = absurd cc
      by_q r f (Some g) er ep eq h =
          by_test (zeros_kept r x && line_met r (cited_by K codes rows r x f g)) r f g er ep eq refl h

      by_p :
          (r : RuleName) (o : Maybe FactRow) → rule_of x.rule ≡ Some r → looked (uses r).p facts x.p ≡ o →
          plan_p K codes rows facts r x o ≡ Ok y → Made y
      by_p r None er ep h = absurd cc
      by_p r (Some f) er ep h = by_q r f (looked (uses r).q facts x.q) er ep refl h

      by_rule : (o : Maybe RuleName) → rule_of x.rule ≡ o → plan_rule K codes rows facts x o ≡ Ok y → Made y
      by_rule None er h = absurd cc
      by_rule (Some r) er h = by_p r (looked (uses r).p facts x.p) er refl h
