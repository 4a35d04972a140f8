use Rattle.std.proofs.Common.{map, length, ap, ◌∙◌, subst}
use Rattle.std.specs.Result.{result_unwrap_or}
use Rattle.values.specs.Sets.{In}
use Rattle.values.specs.Held.{Gathered}
use Rattle.records.specs.declared.kinds.Operation.TheVariants.{Closure}
use Rattle.rules.specs.Looked.{row_at}
use Rattle.models.specs.Rows.{RowHolds, value_of}
use Rattle.models.proofs.Numbers.{operation_read}
use Rattle.models.proofs.evaluation.Values.next.Goals as goal

pub returns-clause-gathered : goal.returns-clause-gathered
returns-clause-gathered c =
    let is = c.unwrap_or-operation.ensures ∙ ap (λ r. result_unwrap_or r Closure) c.try_from.ensures ∙ operation_read c.args.row.op in
    subst (λ o. Gathered (RowHolds o c.args.self.representatives.now c.args.branch.now.facts.now c.args.row (length c.args.self.terms.now) (row_at c.args.branch.now.terms.now c.args.row.a).arity (In (value_of (map (λ v. v.now) c.args.self.terms.now) c.args.row.a)) (In (value_of (map (λ v. v.now) c.args.self.terms.now) c.args.row.b))) (length c.args.slots.now) c.value_by.result)
    is c.value_by.ensures.gathered
