use Rattle.std.proofs.Common.{◌≡◌, true, rules}
use Rattle.calls.specs.Listing.{is_listed}
use Rattle.rules.specs.Looked.{row_at}
use Rattle.listing.proofs.Pieces.{fact_line}
use Rattle.listing.proofs.branch.Branch.entry.Goals as goal

pub returns : goal.returns
returns c =
    let h : is_listed c.args.self.now.terms.now c.args.fact ≡ true = search rules in
    let r : c.in_ok-row.row.now ≡ row_at c.args.self.now.terms.now c.args.fact.term = search rules in
    simp (r, c.represented.ensures, c.from-2.ensures) (fact_line c.args.self.now.representatives.now c.args.self.now.terms.now c.args.fact h)
