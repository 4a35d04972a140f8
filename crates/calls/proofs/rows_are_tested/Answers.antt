use Rattle.calls.proofs.Granted.{granted}
use Rattle.calls.proofs.rows_are_tested.Goals as goal

pub returns : goal.returns
returns c = granted
