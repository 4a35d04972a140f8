use Rattle.calls.proofs.Models.{model_exact}
use Rattle.calls.proofs.models_are_tested.Goals as goal

pub returns : goal.returns
returns c = model_exact
