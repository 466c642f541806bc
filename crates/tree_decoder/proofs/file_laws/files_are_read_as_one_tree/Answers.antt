use Rattle.tree_decoder.proofs.WholeReadings.{one_file}
use Rattle.tree_decoder.proofs.file_laws.files_are_read_as_one_tree.Goals as goal

pub returns : goal.returns
returns c = one_file
