use Rattle.std.proofs.Common.{ℕ, ◌+◌, Bool, ltb, refl, rules, tests}
use Rattle.std.proofs.lemmas.Iterator.{YieldsList-from_range}
use Rattle.std.proofs.lemmas.Iterator.Search.{any_from_yields_List}
use Rattle.rules.specs.Rules.{alternative_of, size_of}
use Rattle.trials.proofs.Alternatives.{any_of_three}
use Rattle.trials.proofs.room.facts_over.Goals as goal

pub returns : goal.returns
returns c =
    let over : ℕ → Bool = λ k. ltb 1024 (c.args.m + size_of (alternative_of c.args.plan.rule c.args.plan.cited c.args.n k)) in
    any_of_three over c.any.result
    (any_from_yields_List over _ _ c.any.result c.any.ensures.ran (YieldsList-from_range 0 3 3 (cc) refl)
    (λ x b q k. search (rules, tests)))
