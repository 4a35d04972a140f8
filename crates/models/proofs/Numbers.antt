-- The numbers of operations and forms, read as records read them and the rest as the last: the operation and the form
-- that is meant.
use Rattle.std.proofs.Common.{◌≡◌, ℕ, Bool, true, false, cond, eqb, Ok, Err, Result, refl}
use Rattle.std.specs.Result.{result_unwrap_or}
use Rattle.records.specs.Kinds.{operation_in, form_in}
use Rattle.records.specs.declared.kinds.Operation.TheVariants.{Closure}
use Rattle.records.specs.declared.kinds.Form.TheVariants.{EqualTerms}
use Rattle.models.specs.Rows.{operation_of}
use Rattle.models.specs.Constraints.{form_of}

module _ {X E : Type 0} (d : X) where
  choice : (b : Bool) (r r' : Result X E) (x x' : X) → result_unwrap_or r d ≡ x → result_unwrap_or r' d ≡ x' →
      result_unwrap_or (cond b r r') d ≡ cond b x x'
  choice true r r' x x' e e' = e
  choice false r r' x x' e e' = e'

  last : (b : Bool) (e : E) → result_unwrap_or (cond b (Ok d) (Err e)) d ≡ d
  last true e = refl
  last false e = refl

pub operation_read : (n : ℕ) → result_unwrap_or (operation_in n) Closure ≡ operation_of n
operation_read n =
    choice Closure (eqb n 0) _ _ _ _ refl
    (choice Closure (eqb n 1) _ _ _ _ refl
    (choice Closure (eqb n 2) _ _ _ _ refl
    (choice Closure (eqb n 3) _ _ _ _ refl
    (choice Closure (eqb n 4) _ _ _ _ refl
    (choice Closure (eqb n 5) _ _ _ _ refl
    (choice Closure (eqb n 6) _ _ _ _ refl
    (choice Closure (eqb n 7) _ _ _ _ refl
    (choice Closure (eqb n 8) _ _ _ _ refl (last Closure (eqb n 9) _)))))))))

pub form_read : (n : ℕ) → result_unwrap_or (form_in n) EqualTerms ≡ form_of n
form_read n = choice EqualTerms (eqb n 1) _ _ _ _ refl (choice EqualTerms (eqb n 2) _ _ _ _ refl (last EqualTerms (eqb n 3) _))
