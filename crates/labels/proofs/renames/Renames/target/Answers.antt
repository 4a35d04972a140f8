use Rattle.std.proofs.Common.{◌==◌, List, sym, ap, ◌∙◌, eq-eqb, ne_eqb}
use Rattle.labels.specs.declared.pair.Pair.{Pair}
use Rattle.labels.specs.Renames.{target, or_itself}
use Rattle.labels.proofs.Finding.{found_here, not_yet}
use Rattle.labels.proofs.renames.Renames.target.Goals as goal

pub returns-then-pair-code : goal.returns-then-pair-code
returns-then-pair-code g c =
    let ps : List Pair = c.as_slice-pairs.result.now in
    let here = found_here (λ (p : Pair). p.old == c.args.code) ps c.loop-pair.pair-index (record { old = 0; new = 0 }) c.loop-pair-test.true c.loop-pair.invariant (eq-eqb _ _ c.if-pair-code.true) in
    sym (ap (or_itself c.args.code) here) ∙ ap (λ (l : List Pair). target l c.args.code) c.as_slice-pairs.ensures.value

pub loop-pair-preserved : goal.loop-pair-preserved
loop-pair-preserved g c =
    not_yet (λ (p : Pair). p.old == c.args.code) c.as_slice-pairs.result.now c.loop-pair.pair-index (record { old = 0; new = 0 }) c.loop-pair-test.true c.loop-pair.invariant (ne_eqb _ _ c.if-pair-code.false)
