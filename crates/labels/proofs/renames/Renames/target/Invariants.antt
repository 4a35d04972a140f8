use Rattle.std.proofs.Common.{◌≡◌, ◌==◌, take, None}
use Rattle.std.specs.List.{find}
use Rattle.labels.specs.declared.pair.Pair.{Pair}
use Rattle.labels.proofs.renames.Renames.target.Given as goal

abbrev pub invariant-loop-pair : goal.invariant-loop-pair
invariant-loop-pair g l = find (λ (p : Pair). p.old == l.code) (take l.pair-index l.pairs) ≡ None
