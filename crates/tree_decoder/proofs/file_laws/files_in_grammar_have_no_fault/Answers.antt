use Rattle.tree_decoder.proofs.InGrammar.{in_grammar-accepted}
use Rattle.tree_decoder.proofs.file_laws.files_in_grammar_have_no_fault.Goals as goal

pub returns : goal.returns
returns c = in_grammar-accepted
