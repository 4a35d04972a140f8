use Rattle.calls.proofs.Bridge.{bridged}
use Rattle.calls.proofs.rules_are_tested.Goals as goal

pub returns : goal.returns
returns c = bridged
