use Rattle.std.proofs.Common.{ap, ◌∙◌}
use Rattle.std.specs.Result.{result_ok}
use Rattle.trials.proofs.Lookups.{left_gone, right_gone, labels_told}
use Rattle.trials.proofs.looks.compare.Goals as goal

pub returns-in_err-first : goal.returns-in_err-first
returns-in_err-first g c =
    c.from_residual.ensures ∙
    left_gone _ c.args.codes.now c.args.x c.args.y c.in_err-first.ensures

pub returns-in_err-second : goal.returns-in_err-second
returns-in_err-second g c =
    c.from_residual-in_err-second.ensures ∙
    right_gone _ c.args.codes.now c.args.x c.args.y c.in_err-second.ensures

pub returns : goal.returns
returns g c =
    c.ok.ensures.value ∙ ap result_ok c.same.ensures ∙
    labels_told _ c.args.codes.now c.args.x c.args.y _ _ c.in_ok-first.ensures c.in_ok-second.ensures
