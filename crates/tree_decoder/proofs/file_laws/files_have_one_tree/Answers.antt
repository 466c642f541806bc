use Rattle.tree_decoder.proofs.InGrammar.{one_tree_in_file}
use Rattle.tree_decoder.proofs.file_laws.files_have_one_tree.Goals as goal

pub returns : goal.returns
returns c = one_tree_in_file
