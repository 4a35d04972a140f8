use Rattle.std.proofs.Common.{◌≡◌, List, length, take, map, Some, None, Err, Option, rules, sym, ◌∙◌, subst}
use Rattle.std.proofs.lemmas.List.{take-map}
use Rattle.records.specs.declared.tuple.Tuple.{Tuple}
use Rattle.records.specs.declared.refusal.Refusal.TheVariants.{TuplesOver}
use Rattle.calls.specs.Reading.{read_sheet}
use Rattle.models.specs.Rows.{with_rows, named_by}
use Rattle.models.specs.Constraints.{IsHeld, IsFirstFalse}
use Rattle.models.proofs.Judging.{judged_over, judged_by}
use Rattle.models.proofs.judge_values.Goals as goal

pub returns-in_err-ok_or : goal.returns-in_err-ok_or
returns-in_err-ok_or c codes free n ground =
    let b = c.args.branch.now in
    let P = with_rows codes free (take b.constraints b.facts.now) b.terms.now in
    let none : Option (Unit {0}) = None in
    let is : c.evaluate.result ≡ none = search rules in
    let e : c.from_residual.result ≡ Err TuplesOver = search rules in
    let over = rw is at c.evaluate.ensures in
    e ∙ judged_over (read_sheet P) (named_by P b.facts.now c.args.representatives.now) (length c.args.store.now)
    (over codes free (take b.constraints b.facts.now) n ground)

pub returns-in-Some : goal.returns-in-Some
returns-in-Some c codes free n ground =
    let b = c.args.branch.now in
    let rs = c.args.representatives.now in
    let vs : List (List Tuple) = map (λ v. v.now) c.evaluate.new.values in
    let is : c.evaluate.result ≡ Some tt = search rules in
    let done = rw is at c.evaluate.ensures in
    judged_by rs b.facts.now b.terms.now b.constraints b.there vs (length c.args.store.now) done.0 done.1 codes free n ground (Some c.in-Some.i)
    (subst (λ us. IsFirstFalse rs (IsHeld us) b.facts.now b.constraints (Some c.in-Some.i)) (sym (take-map (λ v. v.now) (length b.terms.now) c.evaluate.new.values)) c.in-Some.ensures)

pub returns-in-None : goal.returns-in-None
returns-in-None c codes free n ground =
    let b = c.args.branch.now in
    let rs = c.args.representatives.now in
    let vs : List (List Tuple) = map (λ v. v.now) c.evaluate.new.values in
    let is : c.evaluate.result ≡ Some tt = search rules in
    let done = rw is at c.evaluate.ensures in
    judged_by rs b.facts.now b.terms.now b.constraints b.there vs (length c.args.store.now) done.0 done.1 codes free n ground None
    (subst (λ us. IsFirstFalse rs (IsHeld us) b.facts.now b.constraints None) (sym (take-map (λ v. v.now) (length b.terms.now) c.evaluate.new.values)) c.in-None.ensures)
