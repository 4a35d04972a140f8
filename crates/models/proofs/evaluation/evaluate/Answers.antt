use Rattle.std.proofs.Common.{◌≡◌, ◌+◌, ◌<◌, List, length, map, sym, ap, subst, arith}
use lib.ListN.{length-map}
use Rattle.std.proofs.lemmas.List.{map-set, take-map, length-drop, length-take-le}
use Rattle.records.specs.declared.tuple.Tuple.{Tuple}
use Rattle.values.specs.Gathers.{Denotes, Crowd}
use Rattle.values.specs.Held.{held}
use Rattle.models.specs.Rows.{Valued, total, with_rows}
use Rattle.models.proofs.Laying.{IsHeldAt, at_hand, valued_more, over, total_more}
use Rattle.models.proofs.evaluation.evaluate.Goals as goal

pub returns-in_err-value : goal.returns-in_err-value
returns-in_err-value c = rw c.from_residual.ensures (λ codes free constraints n ground.
    let rs = c.args.representatives.now in
    let facts = c.args.branch.now.facts.now in
    let rows = c.args.branch.now.terms.now in
    let k = c.loop-k.k in
    let vs : List (List Tuple) = map (λ v. v.now) c.loop-k.values in
    let room = length c.loop-k.room.now in
    let g = at_hand (λ R. Crowd R room) rs facts rows k _ _ vs (length-take-le k c.loop-k.values (omega (arith, c.loop-k.auto.values)))
    (sym (take-map (λ v. v.now) k c.loop-k.values)) c.in_err-value.ensures.gathered in
    over (with_rows codes free constraints rows) facts n rs ground k c.loop-k-test.true vs (c.loop-k.invariant.valued codes free constraints n ground)
    room (length c.args.store.now) c.loop-k.invariant.room g)

pub loop-k-preserved : goal.loop-k-preserved
loop-k-preserved c =
    let rs = c.args.representatives.now in
    let facts = c.args.branch.now.facts.now in
    let rows = c.args.branch.now.terms.now in
    let k = c.loop-k.k in
    let vs : List (List Tuple) = map (λ v. v.now) c.loop-k.values in
    let v = c.in_ok-value.value in
    let w = c.split-rest.result.0.now in
    let there : k < length vs = omega (arith, length-map c.loop-k.values (λ v. v.now), c.loop-k.auto.values) in
    let g = at_hand (λ R. Denotes R (held v)) rs facts rows k _ _ vs (length-take-le k c.loop-k.values (omega (arith, c.loop-k.auto.values)))
    (sym (take-map (λ v. v.now) k c.loop-k.values)) c.in_ok-value.ensures.gathered in
    let is = map-set (λ v. v.now) c.loop-k.values k c.split-rest.result.0 in
    record {
      valued = subst (λ us. Valued rs facts rows (k + 1) us) (sym is)
          (valued_more rs facts rows k c.loop-k-test.true vs c.loop-k.invariant.valued w there (subst (Denotes (IsHeldAt rs facts rows k vs)) (sym c.split-rest.ensures.held) g));
      room = omega (
        arith,
        ap (λ us. total us (k + 1)) is,
        total_more vs k w there,
        c.loop-k.invariant.room,
        ap length c.split-rest.ensures.held,
        length-take-le v.len v.slots.now v.within,
        ap length c.split-rest.ensures.rest,
        length-drop v.len v.slots.now,
        c.in_ok-value.ensures.same.1,
        v.within,
      );
    }

pub returns : goal.returns
returns c =
    let e : c.loop-k.k ≡ length c.args.branch.now.terms.now = omega arith in
    rw (← e) (c.loop-k.invariant.valued, omega (arith, c.loop-k.invariant.room))
