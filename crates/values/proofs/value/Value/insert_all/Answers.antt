use Rattle.std.proofs.Common.{length, Some, subst, rules}
use Rattle.values.specs.Sets.{puts}
use Rattle.records.specs.Tuples.{equal_names}
use Rattle.values.specs.Gathers.{Filled}
use Rattle.values.specs.Held.{held}
use Rattle.values.proofs.Relations.{made_same}
use Rattle.values.proofs.value.Value.insert_all.Goals as goal

pub returns-clause-filled : goal.returns-clause-filled
returns-clause-filled c =
    subst (λ ts. Filled (length c.args.self.now.slots.now) (puts equal_names (held c.args.self.now) ts) (held c.insert_made.new.self) c.insert_made.result)
    (made_same c.args.list.now) (c.insert_made.ensures.filled Some (λ x i o p. search rules))
