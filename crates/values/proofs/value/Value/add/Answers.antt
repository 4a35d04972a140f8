use Rattle.values.proofs.Inserting.{inserted, full}
use Rattle.values.proofs.value.Value.add.Goals as goal

pub returns-clause-filled : goal.returns-clause-filled
returns-clause-filled c =
    inserted c.args.self.now.slots.now c.insert.new.self.slots.now c.args.self.now.len c.insert.new.self.len c.args.t c.args.self.now.within c.in_ok-insert.field-0 c.in_ok-insert.ensures.inserted

pub returns-in_err-insert-clause-filled : goal.returns-in_err-insert-clause-filled
returns-in_err-insert-clause-filled c =
    rw c.from_residual.ensures (full c.args.self.now.slots.now c.insert.new.self.slots.now c.args.self.now.len c.insert.new.self.len c.args.t c.args.self.now.within c.in_err-insert.ensures.inserted)
