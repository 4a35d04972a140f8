use Rattle.calls.proofs.Standing.{calls_stand}
use Rattle.trials.proofs.trial.Trial.settle.Goals as goal

pub returns-then-not-reached-clause-law : goal.returns-then-not-reached-clause-law
returns-then-not-reached-clause-law c = calls_stand

pub returns-clause-law : goal.returns-clause-law
returns-clause-law c = calls_stand
