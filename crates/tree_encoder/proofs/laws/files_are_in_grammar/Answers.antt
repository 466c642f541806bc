use Rattle.tree_encoder.proofs.InGrammar.{script_in_grammar}
use Rattle.tree_encoder.proofs.laws.files_are_in_grammar.Goals as goal

pub returns : goal.returns
returns c = script_in_grammar
