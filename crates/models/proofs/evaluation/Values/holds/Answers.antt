use Rattle.std.proofs.Common.{List, map, Decides, ap, ◌∙◌, subst}
use Rattle.std.specs.Result.{result_unwrap_or}
use Rattle.records.specs.declared.tuple.Tuple.{Tuple}
use Rattle.records.specs.declared.kinds.Form.TheVariants.{EqualTerms}
use Rattle.models.specs.Constraints.{FormSays, IsHeld}
use Rattle.models.proofs.Numbers.{form_read}
use Rattle.models.proofs.Deciding.{sign_decides}
use Rattle.models.proofs.evaluation.Values.holds.Goals as goal

pub returns : goal.returns
returns c =
    let f = c.args.f in
    let vs : List (List Tuple) = map (λ v. v.now) c.args.self.terms.now in
    let is = c.unwrap_or-form.ensures ∙ ap (λ r. result_unwrap_or r EqualTerms) c.try_from.ensures ∙ form_read f.form in
    sign_decides c.says.result f.positive _
    (subst (λ m. Decides c.says.result (FormSays m c.args.self.representatives.now f (IsHeld vs f.term) (IsHeld vs f.a))) is c.says.ensures)
