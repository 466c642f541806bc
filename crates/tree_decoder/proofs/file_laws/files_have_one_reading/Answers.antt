use Rattle.tree_decoder.proofs.EveryFile.{file_is_read}
use Rattle.tree_decoder.proofs.WholeReadings.{one_whole}
use Rattle.tree_decoder.proofs.file_laws.files_have_one_reading.Goals as goal

pub returns-clause-some : goal.returns-clause-some
returns-clause-some c = file_is_read

pub returns-clause-one : goal.returns-clause-one
returns-clause-one c = one_whole
