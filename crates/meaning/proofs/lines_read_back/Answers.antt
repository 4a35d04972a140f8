use Rattle.meaning.proofs.ReadBack.{reads_back, reads_only}
use Rattle.meaning.proofs.lines_read_back.Goals as goal

pub returns : goal.returns
returns c = record { back = reads_back; only = reads_only }
