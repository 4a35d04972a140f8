use Rattle.calls.proofs.Vectors.{examples}
use Rattle.calls.proofs.examples_hold.Goals as goal

pub returns : goal.returns
returns c = examples
