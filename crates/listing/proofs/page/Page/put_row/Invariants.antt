use Rattle.std.proofs.Common.{take}
use Rattle.std.specs.List.{flat_map}
use Rattle.meaning.specs.Text.{spaced}
use Rattle.listing.specs.Buffer.{Wrote}
use Rattle.listing.proofs.page.Page.put_row.Given as goal

abbrev pub invariant-loop-n : goal.invariant-loop-n
invariant-loop-n l = Wrote l.initial.self (flat_map spaced (take l.n-index l.numbers)) l.self
