use Rattle.std.proofs.Common.{◌≡◌, ◌+◌, map, length}
use Rattle.models.specs.Rows.{Valued, total}
use Rattle.models.proofs.evaluation.evaluate.Given as goal

abbrev pub invariant-loop-k : goal.invariant-loop-k
invariant-loop-k l = record {
  valued : Valued l.representatives l.branch.facts.now l.branch.terms.now l.k (map (λ v. v.now) l.values);
  room : length l.room + total (map (λ v. v.now) l.values) l.k ≡ length l.initial.room;
}
