use Rattle.std.proofs.Common.{[], ◌∷◌, arith, rules}
use Rattle.listing.proofs.Pieces.{shown_most, digits_take}
use Rattle.listing.proofs.line.LineListing.put.Goals as goal

pub returns-in-Closed : goal.returns-in-Closed
returns-in-Closed c = record { wrote = search rules; most = shown_most _ _ (10 ∷ []) c.in-Closed.is (search rules) (omega arith) }

pub returns-in-Opened : goal.returns-in-Opened
returns-in-Opened c = record { wrote = search rules; most = shown_most _ _ (10 ∷ []) c.in-Opened.is (search rules) (omega arith) }

pub returns-in-Name : goal.returns-in-Name
returns-in-Name c = record { wrote = search rules; most = shown_most _ _ (3 ∷ 3 ∷ []) c.in-Name.is (search rules) (omega arith) }

pub returns-in-In : goal.returns-in-In
returns-in-In c =
    let u = c.in-In.entry.tuple in
    record { wrote = search rules; most = shown_most _ _ (3 ∷ 3 ∷ 3 ∷ 3 ∷ 3 ∷ []) c.in-In.is (omega arith, omega arith, digits_take c.in-In.entry.arity (u.a ∷ u.b ∷ u.c ∷ u.d ∷ []) (3 ∷ 3 ∷ 3 ∷ 3 ∷ []) (search rules)) (omega arith) }

pub returns-in-Refused : goal.returns-in-Refused
returns-in-Refused c = record { wrote = search rules; most = shown_most _ _ (3 ∷ 10 ∷ 20 ∷ []) c.in-Refused.is (search rules) (omega arith) }
