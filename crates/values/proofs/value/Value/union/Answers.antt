use Rattle.std.proofs.Common.{[], ◌++◌, length, ap, ◌∙◌, sym, arith}
use Rattle.values.specs.Sets.{In, puts}
use Rattle.records.specs.Tuples.{equal_names}
use Rattle.values.specs.Gathers.{Either}
use Rattle.values.proofs.Theory.{puts-append, length-puts}
use Rattle.values.proofs.Inserting.{same_law}
use Rattle.values.proofs.Relations.{denotes, crowded, either_from, either_to}
use Rattle.values.proofs.value.Value.union.Goals as goal

pub returns-in_err-insert_all-clause-gathered : goal.returns-in_err-insert_all-clause-gathered
returns-in_err-insert_all-clause-gathered c =
    let s = c.args.s.now in
    let r = c.args.r.now in
    let new = ap (λ v. puts equal_names v s) c.new-value.ensures.held in
    let both = puts-append equal_names [] s r in
    let more = length-puts equal_names (puts equal_names [] s) r in
    rw c.from_residual.ensures (crowded equal_names same_law (Either (In s) (In r)) (s ++ r) (either_from s r) _
    (omega (arith, ap length new, ap length both, more, c.in_err-insert_all.ensures.filled, ap length c.new-value.ensures.slots)))

pub returns-in_err-insert_all-2-clause-gathered : goal.returns-in_err-insert_all-2-clause-gathered
returns-in_err-insert_all-2-clause-gathered c =
    let s = c.args.s.now in
    let r = c.args.r.now in
    let first = c.in_ok-insert_all.ensures.filled ∙ ap (λ v. puts equal_names v s) c.new-value.ensures.held in
    let both = ap (λ v. puts equal_names v r) first ∙ sym (puts-append equal_names [] s r) in
    rw c.from_residual-in_err-insert_all-2.ensures (crowded equal_names same_law (Either (In s) (In r)) (s ++ r) (either_from s r) _
    (omega (arith, ap length both, c.in_err-insert_all-2.ensures.filled, c.insert_all.ensures.same.1, ap length c.new-value.ensures.slots)))

pub returns-clause-gathered : goal.returns-clause-gathered
returns-clause-gathered c =
    let s = c.args.s.now in
    let r = c.args.r.now in
    let first = c.in_ok-insert_all.ensures.filled ∙ ap (λ v. puts equal_names v s) c.new-value.ensures.held in
    denotes equal_names same_law (Either (In s) (In r)) (s ++ r) (either_from s r) (either_to s r) _
    (c.in_ok-insert_all-2.ensures.filled ∙ ap (λ v. puts equal_names v r) first ∙ sym (puts-append equal_names [] s r))
