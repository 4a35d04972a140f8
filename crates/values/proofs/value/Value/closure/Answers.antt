use Rattle.std.proofs.Common.{[], length, get_or, ◌+◌, ◌≤◌, ◌<◌, sym, ap, ◌∙◌, subst, arith, rules, refl}
use Rattle.values.specs.Sets.{puts}
use Rattle.records.specs.Tuples.{equal_names}
use Rattle.values.specs.Tuples.{linked}
use Rattle.values.specs.Held.{held}
use Rattle.values.proofs.Theory.{length-puts}
use Rattle.values.proofs.Inserting.{no_tuple, same_law}
use Rattle.values.proofs.Closing.{Work, offers, work_start, work_more, work_end, work_crowd}
use Rattle.values.proofs.value.Value.closure.Goals as goal

pub returns-in_err-insert_all-clause-gathered : goal.returns-in_err-insert_all-clause-gathered
returns-in_err-insert_all-clause-gathered c =
    let s = c.args.s.now in
    let new = ap (λ v. puts equal_names v s) c.new-value.ensures.held in
    rw c.from_residual.ensures (work_crowd equal_names same_law linked s (puts equal_names [] s) 0 (length c.args.slots.now) (work_start equal_names same_law linked s)
    (omega (arith, c.in_err-insert_all.ensures.filled, ap length new, ap length c.new-value.ensures.slots)))

pub loop-i-init : goal.loop-i-init
loop-i-init c =
    let s = c.args.s.now in
    let is = c.in_ok-insert_all.ensures.filled ∙ ap (λ v. puts equal_names v s) c.new-value.ensures.held in
    record {
      same = (refl, refl);
      up = omega arith;
      work = subst (λ v. Work linked s v 0) (sym is) (work_start equal_names same_law linked s);
    }

-- the tuple that comes up offers what it makes with those of s
pub returns-in_err-insert_made-clause-gathered : goal.returns-in_err-insert_made-clause-gathered
returns-in_err-insert_made-clause-gathered c =
    let s = c.args.s.now in
    let i = c.loop-i.i in
    let v = c.tuples.result.now in
    let x = get_or v i no_tuple in
    let f = c.in_err-insert_made.ensures.filled (linked x) (λ y j o p. search rules) in
    let inside : i < length v = omega (arith, ap length c.tuples.ensures, c.loop-i-test.true, c.len.ensures) in
    let work = work_more equal_names same_law linked s v i no_tuple inside (subst (λ u. Work linked s u i) (sym c.tuples.ensures) c.loop-i.invariant.work) in
    let is = ap (λ u. puts equal_names u (offers linked s x)) c.tuples.ensures in
    rw c.from_residual-in_err-insert_made.ensures
    (work_crowd equal_names same_law linked s (puts equal_names v (offers linked s x)) (i + 1) (length c.args.slots.now) work
    (omega (arith, f, ap length is, c.loop-i.invariant.same.1, c.insert_all.ensures.same.1, ap length c.new-value.ensures.slots)))

pub loop-i-preserved : goal.loop-i-preserved
loop-i-preserved c =
    let s = c.args.s.now in
    let i = c.loop-i.i in
    let v = c.tuples.result.now in
    let x = get_or v i no_tuple in
    let f = c.in_ok-insert_made.ensures.filled (linked x) (λ y j o p. search rules) in
    let inside : i < length v = omega (arith, ap length c.tuples.ensures, c.loop-i-test.true, c.len.ensures) in
    let work = work_more equal_names same_law linked s v i no_tuple inside (subst (λ u. Work linked s u i) (sym c.tuples.ensures) c.loop-i.invariant.work) in
    let is = f ∙ ap (λ u. puts equal_names u (offers linked s x)) (sym c.tuples.ensures) in
    record {
      same = search rules;
      up = omega (arith, inside, length-puts equal_names v (offers linked s x), ap length is);
      work = subst (λ u. Work linked s u (i + 1)) (sym is) work;
    }

pub returns-clause-gathered : goal.returns-clause-gathered
returns-clause-gathered c =
    let l : length (held c.loop-i.value) ≤ c.loop-i.i = omega (arith, c.loop-i-test.false, c.len.ensures) in
    work_end equal_names same_law linked c.args.s.now (held c.loop-i.value) c.loop-i.i l c.loop-i.invariant.work
