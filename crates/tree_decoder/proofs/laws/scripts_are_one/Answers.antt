use Rattle.tree_decoder.proofs.OneScript.{one_script}
use Rattle.tree_decoder.proofs.laws.scripts_are_one.Goals as goal

pub returns : goal.returns
returns c = one_script
