use Rattle.tree_decoder.proofs.Rows.{script_there}
use Rattle.tree_decoder.proofs.laws.some_script_is_spelled.Goals as goal

pub returns : goal.returns
returns c = script_there
