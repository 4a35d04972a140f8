-- Where the tests on plain records pass, a rule of the calculus applies (`found`).
use Rattle.std.proofs.Common.{◌≡◌, ℕ, Bool, true, false, cond, sym, refl, subst, eqb-true}
use mathlib.Core.Option.{Option}
use Rattle.records.specs.declared.rows.Fact.{Fact as FactRow}
use Rattle.records.specs.declared.rule.Rule.{Rule as RuleName}
use Rattle.records.specs.declared.rule.Rule.TheVariants as R
use Rattle.rules.specs.Rules.{tests_of, line_met}
use Rattle.rules.specs.Looked.{uses, untouched, cited_with}
use Rattle.calls.specs.Reading.{Plain, FactFits, Good}
use Rattle.calls.specs.Passing.{Found}
use Rattle.calls.proofs.Truth.{all_true}
use Rattle.calls.proofs.Seen.{Seen}
use Rattle.calls.proofs.SeenTerms as terms
use Rattle.calls.proofs.SeenEqualities as equalities

-- a field that is zero where the rule does not mention it
kept : (b : Bool) (x : ℕ) → untouched b x ≡ true → cond b x 0 ≡ x
kept true x e = refl
kept false x e = sym (eqb-true x 0 e)

module _ (K : ℕ → Option ℕ) (P : Plain) (good : Good P) where
  -- every rule is seen by its tests
  seen : (r : RuleName) → Seen K P r
  seen R.InterUp = terms.inter_up_seen K P good
  seen R.InterDown = terms.inter_down_seen K P good
  seen R.UnionUp = terms.union_up_seen K P good
  seen R.UnionDown = terms.union_down_seen K P good
  seen R.DiffUp = terms.diff_up_seen K P good
  seen R.DiffDown = terms.diff_down_seen K P good
  seen R.SingleUp = terms.single_up_seen K P good
  seen R.SingleDown = terms.single_down_seen K P good
  seen R.EmptyUnsat = terms.empty_seen K P good
  seen R.SetDiseq = equalities.set_diseq_seen K P good
  seen R.EqUnsat = equalities.eq_unsat_seen K P good
  seen R.TranspUp = terms.transp_up_seen K P good
  seen R.TranspDown = terms.transp_down_seen K P good
  seen R.JoinUp = terms.join_up_seen K P good
  seen R.JoinDown = terms.join_down_seen K P good
  seen R.ProdUp = terms.prod_up_seen K P good
  seen R.ProdDown = terms.prod_down_seen K P good
  seen R.ClosUpOne = terms.tclos_one_seen K P good
  seen R.ClosUpTwo = terms.tclos_two_seen K P good
  seen R.ClosDown = terms.tclos_down_seen K P good
  seen R.Sym = equalities.sym_seen K P good
  seen R.SwapName = equalities.swap_name_seen K P good
  seen R.SwapTerm = equalities.swap_term_seen K P good
  seen R.LabelUnsat = equalities.label_unsat_seen K P good
  seen R.LabelSame = equalities.label_same_seen K P good

  pub found :
      (r : RuleName) (n : ℕ) (o : Bool) (f g : FactRow) (t w : ℕ) →
      ((uses r).p ≡ true → FactFits P n f) →
      ((uses r).q ≡ true → FactFits P n g) →
      untouched (uses r).t t ≡ true →
      untouched (uses r).w w ≡ true →
      line_met r (cited_with K P.codes P.rows r o f g t w) ≡ true →
      Found K P n r o f g t w
  found r n o f g t w bp bq ht hw m =
      subst (λ (x : ℕ). Found K P n r o f g x w) (kept (uses r).t t ht)
      (subst (λ (y : ℕ). Found K P n r o f g (cond (uses r).t t 0) y) (kept (uses r).w w hw)
      (seen r n o f g t w bp bq
      (all_true (tests_of r (cited_with K P.codes P.rows r o f g t w)) m)))
