use Rattle.std.proofs.Common.{rules, refl, arith}
use Rattle.std.proofs.lemmas.Slice.{overwrites}
use Rattle.listing.proofs.page.Page.put.Goals as goal
use Rattle.listing.proofs.page.Page.put.Goals.{then-end-self, else-end-self}

pub returns : goal.returns
returns c =
    elim c.if-end-self.branch [
      | then-end-self w ↦ rw w.self-is (record { counted = λ h. omega arith; filled = λ h. record { place = omega arith; front = search (rules, overwrites); rest = search (rules, overwrites) }; room = search (rules, overwrites); same = refl })
      | else-end-self w ↦ rw w.self-is (record { counted = λ h. omega arith; filled = λ h. absurd (omega arith); room = refl; same = refl })
    ]
