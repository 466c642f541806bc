use Rattle.tree_decoder.proofs.InGrammar.{read-in_grammar}
use Rattle.tree_decoder.proofs.file_laws.files_that_are_read_are_in_grammar.Goals as goal

pub returns : goal.returns
returns c bytes l t few small file whole = (read-in_grammar bytes l t few small file whole).0
