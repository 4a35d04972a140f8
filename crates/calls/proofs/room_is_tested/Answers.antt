use Rattle.calls.proofs.Fitting.{room_told}
use Rattle.calls.proofs.room_is_tested.Goals as goal

pub returns : goal.returns
returns c = room_told
