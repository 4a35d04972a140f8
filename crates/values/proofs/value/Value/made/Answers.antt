use Rattle.std.proofs.Common.{length, ap, arith}
use Rattle.values.specs.Sets.{In}
use Rattle.records.specs.Tuples.{equal_names}
use Rattle.values.specs.Gathers.{Made}
use Rattle.values.specs.Held.{held}
use Rattle.values.proofs.Inserting.{same_law}
use Rattle.values.proofs.Relations.{denotes, crowded, made, made_from, made_to}
use Rattle.values.proofs.value.Value.made.Goals as goal

pub returns-in_err-insert_made-clause-gathered : goal.returns-in_err-insert_made-clause-gathered
returns-in_err-insert_made-clause-gathered g c m h =
    let list = c.args.list.now in
    let over = rw c.new-value.ensures.held at c.in_err-insert_made.ensures.filled m h in
    rw c.from_residual.ensures (crowded equal_names same_law (Made m (In list)) (made m list) (made_from m list) _ (omega (arith, over, ap length c.new-value.ensures.slots)))

pub returns-clause-gathered : goal.returns-clause-gathered
returns-clause-gathered g c m h =
    let list = c.args.list.now in
    denotes equal_names same_law (Made m (In list)) (made m list) (made_from m list) (made_to m list) (held c.insert_made.new.self) (rw c.new-value.ensures.held at c.in_ok-insert_made.ensures.filled m h)
