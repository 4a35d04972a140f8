-- A rule's number names it, and only it (`named`, `numbered`).
use Rattle.std.proofs.Common.{◌≡◌, ℕ, Bool, true, false, cond, eqb, Some, Option as Maybe, sym, refl, ap, ◌∙◌, eqb-true}
use Rattle.records.specs.declared.rule.Rule.{Rule as RuleName}
use Rattle.records.specs.declared.rule.Rule.TheVariants as R
use Rattle.records.specs.Kinds.{rule_number, rule_of}

-- a number leads to its rule
pub named : (r : RuleName) → rule_of (rule_number r) ≡ Some r
named R.InterUp = refl
named _ = refl

-- one test of the table
pick :
    (b i : ℕ) (x r : RuleName) (rest : Maybe RuleName) → rule_number x ≡ i → (rest ≡ Some r → rule_number r ≡ b) →
    cond (eqb b i) (Some x) rest ≡ Some r → rule_number r ≡ b
pick b i x r rest e f h = go (eqb b i) refl h
  where
    go : (z : Bool) → eqb b i ≡ z → cond z (Some x) rest ≡ Some r → rule_number r ≡ b
    go true q h = let s : x ≡ r = cc in ap rule_number (sym s) ∙ e ∙ sym (eqb-true b i q)
    go false q h = f h

-- and back
pub numbered : (b : ℕ) (r : RuleName) → rule_of b ≡ Some r → rule_number r ≡ b
numbered b r =
    pick b 1 R.InterUp r _ refl (
    pick b 2 R.InterDown r _ refl (
    pick b 3 R.UnionUp r _ refl (
    pick b 4 R.UnionDown r _ refl (
    pick b 5 R.DiffUp r _ refl (
    pick b 6 R.DiffDown r _ refl (
    pick b 7 R.SingleUp r _ refl (
    pick b 8 R.SingleDown r _ refl (
    pick b 9 R.EmptyUnsat r _ refl (
    pick b 10 R.SetDiseq r _ refl (
    pick b 11 R.EqUnsat r _ refl (
    pick b 12 R.TranspUp r _ refl (
    pick b 13 R.TranspDown r _ refl (
    pick b 14 R.JoinUp r _ refl (
    pick b 15 R.JoinDown r _ refl (
    pick b 16 R.ProdUp r _ refl (
    pick b 17 R.ProdDown r _ refl (
    pick b 18 R.ClosUpOne r _ refl (
    pick b 19 R.ClosUpTwo r _ refl (
    pick b 20 R.ClosDown r _ refl (
    pick b 21 R.Sym r _ refl (
    pick b 22 R.SwapName r _ refl (
    pick b 23 R.SwapTerm r _ refl (
    pick b 24 R.LabelUnsat r _ refl (
    pick b 25 R.LabelSame r _ refl (
    λ h. absurd cc)))))))))))))))))))))))))
