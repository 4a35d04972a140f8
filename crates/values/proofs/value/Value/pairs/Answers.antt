use Rattle.std.proofs.Common.{length, ◌∙◌, sym, ap, arith, rules, refl, get_or}
use Rattle.std.proofs.lemmas.List.{drop_all}
use Rattle.std.specs.List.{flat_map}
use Rattle.values.specs.Sets.{In, puts}
use Rattle.records.specs.Tuples.{equal_names}
use Rattle.values.specs.Gathers.{Paired}
use Rattle.values.specs.Held.{held}
use Rattle.values.proofs.Theory.{in_get_d}
use Rattle.values.proofs.Inserting.{no_tuple, same_law, turn, overrun}
use Rattle.values.proofs.Relations.{denotes, crowded, made, paired_from, paired_to}
use Rattle.values.proofs.value.Value.pairs.Goals as goal

pub returns-in_err-insert_made-clause-gathered : goal.returns-in_err-insert_made-clause-gathered
returns-in_err-insert_made-clause-gathered g c m h =
    let s = c.args.s.now in
    let r = c.args.r.now in
    let x = get_or s c.loop-x.x-index no_tuple in
    let here = in_get_d s c.loop-x.x-index no_tuple c.loop-x-test.true in
    let f = c.in_err-insert_made.ensures.filled (m x) (λ y i o p. h x here y i o (search rules)) in
    let o = overrun equal_names (λ x. made (m x) r) s c.loop-x.x-index c.loop-x-test.true x no_tuple refl (held c.loop-x.value) (made (m x) r) refl (length c.loop-x.value.slots.now) f in
    rw c.from_residual.ensures (crowded equal_names same_law (Paired m (In s) (In r)) (flat_map (λ x. made (m x) r) s) (paired_from m s r) _
    (omega (arith, o, c.loop-x.invariant.same.1, ap length (c.loop-x.invariant.left m h), ap length c.new-value.ensures.slots)))

pub loop-x-preserved : goal.loop-x-preserved
loop-x-preserved g c =
    let s = c.args.s.now in
    let r = c.args.r.now in
    let x = get_or s c.loop-x.x-index no_tuple in
    let here = in_get_d s c.loop-x.x-index no_tuple c.loop-x-test.true in
    record {
      same = search rules;
      left = λ m h. turn equal_names (λ x. made (m x) r) s c.loop-x.x-index c.loop-x-test.true x no_tuple refl (held c.loop-x.value) (made (m x) r) refl
          (held c.insert_made.new.self) (c.in_ok-insert_made.ensures.filled (m x) (λ y i o p. h x here y i o (search rules)))
          ∙ c.loop-x.invariant.left m h;
    }

pub returns-clause-gathered : goal.returns-clause-gathered
returns-clause-gathered g c m h =
    let s = c.args.s.now in
    let r = c.args.r.now in
    denotes equal_names same_law (Paired m (In s) (In r)) (flat_map (λ x. made (m x) r) s) (paired_from m s r) (paired_to m s r) (held c.loop-x.value)
    (ap (λ l. puts equal_names (held c.loop-x.value) (flat_map (λ x. made (m x) r) l)) (sym (drop_all c.loop-x.x-index s c.loop-x-test.false)) ∙ c.loop-x.invariant.left m h)
