use Rattle.std.proofs.Common.{ap}
use Rattle.std.specs.List.{flat_map}
use Rattle.std.proofs.lemmas.List.{take_all}
use Rattle.meaning.specs.Text.{spaced}
use Rattle.listing.proofs.Pages.{wrote_more, wrote_as, pieces_next}
use Rattle.listing.proofs.page.Page.put_row.Goals as goal

pub loop-n-preserved : goal.loop-n-preserved
loop-n-preserved c = wrote_as _ (pieces_next spaced c.args.numbers.now c.loop-n.n-index 0 c.loop-n-test.true) (wrote_more c.loop-n.invariant (wrote_more c.put-in-loop-n.ensures c.put_number.ensures))

pub returns : goal.returns
returns c = wrote_more (wrote_more c.put.ensures (wrote_as _ (ap (flat_map spaced) (take_all c.loop-n.n-index c.args.numbers.now c.loop-n-test.false)) c.loop-n.invariant)) c.put-2.ensures
