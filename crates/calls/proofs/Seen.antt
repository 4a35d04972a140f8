-- What it is for a rule to be seen by its tests (`Seen`), and facts as the rules cite them.
use Rattle.std.proofs.Common.{◌≡◌, ℕ, Bool, true, cond, List, length, sym, ◌∙◌, subst}
use mathlib.Core.Option.{Option}
use Rattle.std.specs.List.{AllByRecursion}
use Rattle.records.specs.declared.rows.Fact.{Fact as FactRow}
use Rattle.records.specs.declared.rule.Rule.{Rule as RuleName}
use Rattle.rules.specs.Facts.{is_in}
use Rattle.rules.specs.Rules.{tests_of}
use Rattle.records.specs.Kinds.{rule_number}
use Rattle.rules.specs.Looked.{uses, row_at, cited_with}
use Rattle.meaning.specs.Terms.{member, Fact, pos, Arity, FormFits}
use Rattle.meaning.specs.Calculus.{Alt, Rule}
use Rattle.calls.specs.Reading.{tuple_of, read_fact, Plain, read_sheet, FactFits}
use Rattle.calls.specs.Passing.{From, Found}
use Rattle.calls.proofs.Forms.{read_in}
use Rattle.calls.proofs.Rows.{arity_of}

-- where all tests of the rule's line hold, of facts that fit, a rule of the calculus is found
abbrev pub Seen : (ℕ → Option ℕ) → Plain → RuleName → Type 0
Seen K P r =
    (n : ℕ) (o : Bool) (f g : FactRow) (t w : ℕ) →
    ((uses r).p ≡ true → FactFits P n f) →
    ((uses r).q ≡ true → FactFits P n g) →
    AllByRecursion (λ b. b ≡ true) (tests_of r (cited_with K P.codes P.rows r o f g t w)) →
    Found K P n r o f g (cond (uses r).t t 0) (cond (uses r).w w 0)

-- a rule, with where its cited facts come from
pub give :
    {K : ℕ → Option ℕ} {P : Plain} {r : RuleName} {n : ℕ} {o : Bool} {f g : FactRow} {t w : ℕ}
    {cited : List Fact} {alts : List Alt} →
    Rule K (read_sheet P) n (rule_number r) t w cited alts →
    From r o (read_fact P.rows f) (read_fact P.rows g) cited →
    Found K P n r o f g t w
give rule from = record { cited = _; alts = _; rule = rule; from = from }

module _ (P : Plain) where
  -- a member fact with its tuple and its term known
  pub listed :
      (f : FactRow) (u : List ℕ) (s : ℕ) → is_in f ≡ true → u ≡ tuple_of P.rows f → s ≡ f.term →
      pos (member u s) ≡ read_fact P.rows f
  listed f u s e q q' = (λ i. pos (member (q i) (q' i))) ∙ read_in P.rows f e

  -- what fits, of a fact that is read as known
  pub fits_as :
      (n : ℕ) (f : FactRow) {h : Fact} → h ≡ read_fact P.rows f → FactFits P n f →
      FormFits (read_sheet P).rows n h.form
  fits_as n f e b = subst (λ (x : Fact). FormFits (read_sheet P).rows n x.form) (sym e) b.fits

  -- the arity of a cited member fact's term
  pub arity_at :
      (n : ℕ) (f : FactRow) → is_in f ≡ true → FactFits P n f →
      Arity (read_sheet P).rows f.term (length (tuple_of P.rows f))
  arity_at n f e b = (fits_as n f (read_in P.rows f e) b).0

  -- the arity of the term of a member fact, from that of an operand
  pub operand : (s x k : ℕ) → s ≡ x → Arity (read_sheet P).rows s k → (row_at P.rows x).arity ≡ k
  operand s x k e a = subst (λ (y : ℕ). (row_at P.rows y).arity ≡ k) e (arity_of P a)
