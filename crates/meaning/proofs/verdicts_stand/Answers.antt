use Rattle.meaning.proofs.Law.{law_of_verdicts}
use Rattle.meaning.proofs.verdicts_stand.Goals as goal

pub returns : goal.returns
returns c = law_of_verdicts
