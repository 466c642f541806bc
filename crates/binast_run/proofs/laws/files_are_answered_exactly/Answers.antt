use Rattle.binast_run.proofs.FileAnswers.{answered_exactly}
use Rattle.binast_run.proofs.laws.files_are_answered_exactly.Goals as goal

pub returns : goal.returns
returns c = answered_exactly
