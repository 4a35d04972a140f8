use Rattle.std.proofs.Common.{length, ◌∙◌, sym, ap, subst, arith, rules}
use Rattle.values.specs.Sets.{In}
use Rattle.records.specs.Tuples.{equal_names}
use Rattle.values.specs.Gathers.{listed}
use Rattle.values.specs.Held.{held}
use Rattle.values.proofs.Theory.{in_get_d}
use Rattle.values.proofs.Inserting.{turn, overrun}
use Rattle.values.proofs.value.Value.insert_made.Goals as goal

pub returns-in_err-offer-clause-filled : goal.returns-in_err-offer-clause-filled
returns-in_err-offer-clause-filled g c m h =
    let x = c.x-item.result in
    let here = subst (In c.args.list.now) (sym c.x-item.is) (in_get_d c.args.list.now c.loop-x.x-index x c.loop-x-test.true) in
    let o = overrun equal_names (λ y. listed (m y)) c.args.list.now c.loop-x.x-index c.loop-x-test.true x x c.x-item.is (held c.loop-x.self) (listed c.make.result) (ap listed (h x here c.make.result c.make.ensures))
    (length c.loop-x.self.slots.now) c.in_err-offer.ensures.filled in
    rw c.from_residual.ensures (omega (arith, o, c.loop-x.invariant.same.1, ap length (c.loop-x.invariant.left m h)))

pub loop-x-preserved : goal.loop-x-preserved
loop-x-preserved g c =
    let x = c.x-item.result in
    let here = subst (In c.args.list.now) (sym c.x-item.is) (in_get_d c.args.list.now c.loop-x.x-index x c.loop-x-test.true) in
    record {
      same = search rules;
      left = λ m h. turn equal_names (λ y. listed (m y)) c.args.list.now c.loop-x.x-index c.loop-x-test.true x x c.x-item.is (held c.loop-x.self) (listed c.make.result) (ap listed (h x here c.make.result c.make.ensures))
          (held c.offer.new.self) c.in_ok-offer.ensures.filled
          ∙ c.loop-x.invariant.left m h;
    }
