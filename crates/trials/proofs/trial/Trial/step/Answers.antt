use Rattle.calls.proofs.Standing.{steps_granted_exactly}
use Rattle.trials.proofs.trial.Trial.step.Goals as goal

pub returns-then-not-large_enough-clause-exact : goal.returns-then-not-large_enough-clause-exact
returns-then-not-large_enough-clause-exact g c = steps_granted_exactly

pub returns-in-Some-Rule-clause-exact : goal.returns-in-Some-Rule-clause-exact
returns-in-Some-Rule-clause-exact g c = steps_granted_exactly

pub returns-in-Some-Model-clause-exact : goal.returns-in-Some-Model-clause-exact
returns-in-Some-Model-clause-exact g c = steps_granted_exactly

pub returns-in-None-clause-exact : goal.returns-in-None-clause-exact
returns-in-None-clause-exact g c = steps_granted_exactly
