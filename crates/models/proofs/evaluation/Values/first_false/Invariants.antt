use Rattle.std.proofs.Common.{ℕ, ◌<◌, map, get_or}
use Rattle.models.specs.Constraints.{Satisfied, IsHeld}
use Rattle.rules.specs.Facts.{no_fact}
use Rattle.models.proofs.evaluation.Values.first_false.Given as goal

abbrev pub invariant-loop-i : goal.invariant-loop-i
invariant-loop-i l = (j : ℕ) → j < l.i → Satisfied l.self.representatives.now (IsHeld (map (λ v. v.now) l.self.terms.now)) (get_or l.facts j no_fact)
