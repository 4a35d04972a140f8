use Rattle.calls.proofs.Standing.{calls_stand}
use Rattle.calls.proofs.calls_stand.Goals as goal

pub returns : goal.returns
returns c = calls_stand
