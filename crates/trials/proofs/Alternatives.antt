-- A test of any of three alternatives, one after another, by what a range yields.
use Rattle.std.proofs.Common.{◌≡◌, ℕ, Bool, true, false, ◌||◌, refl, ◌∙◌}
use Rattle.std.specs.List.{list_any, range_with_len}

or_none_left : (a b c : Bool) → (a || (b || (c || false))) ≡ (a || (b || c))
or_none_left true b c = refl
or_none_left false true c = refl
or_none_left false false true = refl
or_none_left false false false = refl

pub any_of_three :
    (test : ℕ → Bool) (r : Bool) → r ≡ list_any test (range_with_len 0 3) → r ≡ (test 0 || (test 1 || test 2))
any_of_three test r e = e ∙ or_none_left (test 0) (test 1) (test 2)
