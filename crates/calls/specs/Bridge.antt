-- The tests on plain records pass exactly where a rule of the calculus applies, with the same alternatives.
use Rattle.std.specs.Prelude.{◌≡◌, ℕ, ◌+◌, ◌≤◌, List, ◌++◌, map, Ok}
use Rattle.std.proofs.Math.Option.{Option}
use Rattle.std.specs.List.{AllByRecursion}
use Rattle.records.specs.declared.rows.Fact.{Fact as FactRow}
use Rattle.records.specs.declared.rows.Step.{Step}
use Rattle.rules.specs.declared.cited.Alt.{Alt as AltRow}
use Rattle.rules.specs.declared.cited.Plan.{Plan}
use Rattle.rules.specs.Looked.{planned}
use Rattle.meaning.specs.Terms.{names}
use Rattle.meaning.specs.Calculus.{Alt, Branch, Applies}
use Rattle.calls.specs.Reading.{Plain, read_sheet, read_fact, read_alt, alt_facts, FactFits, Good}
use Rattle.calls.specs.Passing.{alt_rows}

-- A branch, read.
abbrev pub read_branch : Plain → List FactRow → ℕ → Branch
read_branch P facts n = record { facts = map (read_fact P.rows) facts; count = n }

-- The alternatives of a plan, read.
abbrev pub plan_alts : Plain → ℕ → Plan → List Alt
plan_alts P n x = map (read_alt P.rows) (alt_rows x.rule x.cited n)

-- What a step is judged on: a good sheet, and a branch with n names whose facts fit.
pub record Fair (P : Plain) (facts : List FactRow) (n : ℕ) : Type 0 where
  pub sheet : Good P
  pub named : names (read_sheet P) ≤ n
  pub facts_fit : AllByRecursion (FactFits P n) facts

-- The step x applies on the branch with these alternatives.
abbrev pub AppliesTo : (ℕ → Option ℕ) → Plain → List FactRow → ℕ → Step → List Alt → Type 0
AppliesTo K P facts n x alts =
    Applies K (read_sheet P) (read_branch P facts n) x.rule x.p x.q x.t x.w alts

-- A step that has a plan applies, with the plan's alternatives.
abbrev pub MetApplies : Type 0
MetApplies =
    (K : ℕ → Option ℕ) (P : Plain) (facts : List FactRow) (n : ℕ) → Fair P facts n →
    (x : Step) (y : Plan) → planned K P.codes P.rows facts x ≡ Ok y →
    AppliesTo K P facts n x (plan_alts P n y)

-- A step that applies has a plan, with those alternatives.
abbrev pub AppliesMet : Type 0
AppliesMet =
    (K : ℕ → Option ℕ) (P : Plain) (facts : List FactRow) (n : ℕ) → Fair P facts n →
    (x : Step) (alts : List Alt) → AppliesTo K P facts n x alts →
    (y : Plan) × (planned K P.codes P.rows facts x ≡ Ok y) × (plan_alts P n y ≡ alts)

-- A step has one list of alternatives.
abbrev pub OneList : Type 0
OneList =
    (K : ℕ → Option ℕ) (P : Plain) (facts : List FactRow) (n : ℕ) → Fair P facts n →
    (x : Step) (alts alts' : List Alt) → AppliesTo K P facts n x alts → AppliesTo K P facts n x alts' →
    alts ≡ alts'

-- Each alternative of a step that has a plan leaves a branch whose facts fit.
abbrev pub StaysFair : Type 0
StaysFair =
    (K : ℕ → Option ℕ) (P : Plain) (facts : List FactRow) (n : ℕ) → Fair P facts n →
    (x : Step) (y : Plan) → planned K P.codes P.rows facts x ≡ Ok y →
    AllByRecursion (λ (a : AltRow). Fair P (facts ++ alt_facts a) (n + a.fresh)) (alt_rows y.rule y.cited n)

-- The four together.
abbrev pub Bridged : Type 0
Bridged = MetApplies × AppliesMet × OneList × StaysFair
