use Rattle.std.proofs.Common.{◌+◌, ◌-◌, ◌*◌, take}
use Rattle.std.specs.List.{flat_map}
use Rattle.meaning.specs.Mixes.{name_lines}
use Rattle.calls.specs.Listing.{fact_lines}
use Rattle.listing.specs.Buffer.{Listed}
use Rattle.listing.proofs.branch.BranchListing.put.Given as goal

abbrev pub invariant-loop-name : goal.invariant-loop-name
invariant-loop-name l = Listed l.initial.page (name_lines (take l.name l.self.representatives.now) 0) l.page (11 * l.name + (l.name - 10))

abbrev pub invariant-loop-fact : goal.invariant-loop-fact
invariant-loop-fact l = Listed l.initial.page (flat_map (fact_lines l.self.representatives.now l.self.terms.now) (take l.fact-index l.self.facts.now)) l.page (23 * l.fact-index)
