-- What the tests on plain records say of one rule: they pass with these alternatives, or a rule is found.
use Rattle.std.specs.Prelude.{◌≡◌, ℕ, Bool, true, false, cond, List, [], ◌∷◌, map, ◌==◌}
use Rattle.std.proofs.Math.Option.{Option}
use Rattle.records.specs.declared.rows.Fact.{Fact as FactRow}
use Rattle.records.specs.declared.rule.Rule.{Rule as RuleName}
use Rattle.rules.specs.declared.cited.Cited.{Cited}
use Rattle.rules.specs.declared.cited.Alt.{Alt as AltRow}
use Rattle.rules.specs.Facts.{no_fact}
use Rattle.rules.specs.Rules.{line_met, alternative_of, alternatives_of}
use Rattle.records.specs.Kinds.{rule_number}
use Rattle.rules.specs.Looked.{uses, untouched, cited_with}
use Rattle.meaning.specs.Terms.{Fact}
use Rattle.meaning.specs.Calculus.{Alt, Rule, up_from}
use Rattle.calls.specs.Reading.{Plain, read_sheet, read_fact, write_fact}

-- All the alternatives of a rule, on a branch with n names.
abbrev pub alt_rows : RuleName → Cited → ℕ → List AltRow
alt_rows r c n = map (alternative_of r c n) (up_from 0 (alternatives_of r))

-- Whether a rule that cites these facts mentions p.
abbrev pub cites_p : List Fact → Bool
cites_p [] = false
cites_p (f ∷ fs) = true

-- Whether rule number r, citing these facts, mentions q: rule 11 does so for one fact too.
abbrev pub cites_q : ℕ → List Fact → Bool
cites_q r [] = false
cites_q r (f ∷ []) = r == 11
cites_q r (f ∷ g ∷ fs) = true

-- A step of rule number r that cites the facts ps, as the rows f and g, passes and has these alternatives;
-- o tells whether its p and q are one number.
pub record Passes
    (K : ℕ → Option ℕ) (P : Plain) (n r : ℕ) (o : Bool) (ps : List Fact) (f g : FactRow) (t w : ℕ)
    (alts : List AltRow) : Type 0 where
  pub rule : RuleName
  pub numbered : rule_number rule ≡ r
  pub p_use : (uses rule).p ≡ cites_p ps
  pub q_use : (uses rule).q ≡ cites_q r ps
  pub t_use : untouched (uses rule).t t ≡ true
  pub w_use : untouched (uses rule).w w ≡ true
  pub met : line_met rule (cited_with K P.codes P.rows rule o f g t w) ≡ true
  pub gives : alt_rows rule (cited_with K P.codes P.rows rule o f g t w) n ≡ alts

-- The first cited fact, as a row.
abbrev pub first_of : List Fact → FactRow
first_of [] = no_fact
first_of (f ∷ fs) = write_fact f

-- The second cited fact of rule number r, as a row.
abbrev pub second_of : ℕ → List Fact → FactRow
second_of r [] = no_fact
second_of r (f ∷ []) = cond (r == 11) (write_fact f) no_fact
second_of r (f ∷ g ∷ fs) = write_fact g

-- Where rule 11 cites one fact it names it twice, so p and q are one number.
abbrev pub Twice : ℕ → List Fact → Bool → Type 0
Twice r [] o = Unit {0}
Twice r (f ∷ []) o = r ≡ 11 → o ≡ true
Twice r (f ∷ g ∷ fs) o = Unit {0}

-- The cited facts of the calculus come from the facts f and g that a step of the rule r numbers.
pub data From (r : RuleName) (o : Bool) (f g : Fact) : List Fact → Type 0 where
  from_none :
      (uses r).p ≡ false → (uses r).q ≡ false →
      From r o f g []
  from_one : {h : Fact} →
      (uses r).p ≡ true → (uses r).q ≡ false → (rule_number r == 11) ≡ false → h ≡ f →
      From r o f g (h ∷ [])
  from_twice : {h : Fact} →
      (uses r).p ≡ true → (uses r).q ≡ true → rule_number r ≡ 11 → o ≡ true → h ≡ f →
      From r o f g (h ∷ [])
  from_two : {h k : Fact} →
      (uses r).p ≡ true → (uses r).q ≡ true → h ≡ f → k ≡ g →
      From r o f g (h ∷ k ∷ [])

-- A rule of the calculus applies, citing facts that come from the rows f and g.
pub record Found
    (K : ℕ → Option ℕ) (P : Plain) (n : ℕ) (r : RuleName) (o : Bool) (f g : FactRow) (t w : ℕ) : Type 0 where
  pub cited : List Fact
  pub alts : List Alt
  pub rule : Rule K (read_sheet P) n (rule_number r) t w cited alts
  pub from : From r o (read_fact P.rows f) (read_fact P.rows g) cited
