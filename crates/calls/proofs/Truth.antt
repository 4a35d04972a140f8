-- Tests that hold: a list of tests is all true exactly where each of them is (`all_true`, `all_hold`).
use Rattle.std.proofs.Common.{◌≡◌, ℕ, Bool, true, eqb, List, [], ◌∷◌, refl, eq-eqb}
use Rattle.std.proofs.lemmas.Bool.{and_from, and_parts}
use Rattle.std.specs.List.{AllByRecursion}
use Rattle.rules.specs.Rules.{all_from, all_of}

pub eqb_self : (x : ℕ) → eqb x x ≡ true
eqb_self x = eq-eqb x x refl

-- all tests of a list that is true are true
pub all_true : (bs : List Bool) → all_of bs ≡ true → AllByRecursion (λ b. b ≡ true) bs
all_true [] e = tt
all_true (b ∷ bs) e = from b bs e
  where
    from : (b : Bool) (bs : List Bool) → all_from b bs ≡ true → AllByRecursion (λ b. b ≡ true) (b ∷ bs)
    from b [] e = (e, tt)
    from b (c ∷ bs) e = let r = and_parts b (all_from c bs) e in (r.0, from c bs r.1)

-- and a list of true tests is true
pub all_hold : (bs : List Bool) → AllByRecursion (λ b. b ≡ true) bs → all_of bs ≡ true
all_hold [] h = refl
all_hold (b ∷ bs) h = from b bs h.0 h.1
  where
    from : (b : Bool) (bs : List Bool) → b ≡ true → AllByRecursion (λ b. b ≡ true) bs → all_from b bs ≡ true
    from b [] e h = e
    from b (c ∷ bs) e h = and_from _ _ e (from c bs h.0 h.1)
