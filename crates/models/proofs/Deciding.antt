-- The test whether a value includes another (`includes_decides`), and a constraint from its form and its sign
-- (`sign_decides`).
use Rattle.std.proofs.Common.{◌≡◌, Bool, true, false, List, [], ◌∷◌, Decides, refl, subst, inl, inr, ⊎_elim}
use mathlib.Core.Bool.{beq}
use Rattle.std.specs.List.{list_all}
use Rattle.std.proofs.lemmas.Bool.{both_ways, and_parts, and_from}
use Rattle.records.specs.Tuples.{equal_names}
use Rattle.records.specs.declared.tuple.Tuple.{Tuple}
use Rattle.values.specs.Sets.{has, In}
use Rattle.values.proofs.Theory.{has_in, in_has}
use Rattle.values.proofs.Inserting.{same_law}
use Rattle.models.specs.Constraints.{Includes, BySign}

module _ (r : List Tuple) where
  included : (s : List Tuple) → list_all (has equal_names r) s ≡ true → Includes (In s) (In r)
  included [] e t m = absurd m
  included (x ∷ s) e t m =
      let p = and_parts (has equal_names r x) _ e in
      ⊎_elim (λ q. subst (In r) q (has_in equal_names same_law r x p.0)) (λ i. included s p.1 t i) m

  contained : (s : List Tuple) → Includes (In s) (In r) → list_all (has equal_names r) s ≡ true
  contained [] f = refl
  contained (x ∷ s) f =
      and_from (has equal_names r x) _ (in_has equal_names same_law r x (f x (inl refl))) (contained s (λ t i. f t (inr i)))

  pub includes_decides : (s : List Tuple) → Decides (list_all (has equal_names r) s) (Includes (In s) (In r))
  includes_decides s = (included s, contained s)

-- the second of two answers, once the first is that its part holds; and the first, if it is not
module _ (b : Bool) (P Q : Type 0) (d : Decides b P) where
  pub both_decide : (c : Bool) → b ≡ true → Decides c Q → Decides c (P × Q)
  both_decide c h e = (λ p. (d.0 h, e.0 p), λ m. e.1 m.1)

  pub first_decides : b ≡ false → Decides b (P × Q)
  first_decides h = (λ p. absurd (both_ways b h p), λ m. d.1 m.0)

-- an answer that is as the sign says
pub sign_decides : (b s : Bool) (P : Type 0) → Decides b P → Decides (beq b s) (BySign s P)
sign_decides true true P d = (λ e. d.0 refl, λ p. refl)
sign_decides false true P d = (λ e. absurd (both_ways false refl e), λ p. absurd (both_ways false refl (d.1 p)))
sign_decides true false P d = (λ e. absurd (both_ways false refl e), λ n. absurd (n (d.0 refl)))
sign_decides false false P d = (λ e p. both_ways false refl (d.1 p), λ n. refl)
