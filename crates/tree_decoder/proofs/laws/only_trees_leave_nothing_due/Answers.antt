use Rattle.tree_decoder.proofs.OfTree.{of_tree}
use Rattle.tree_decoder.proofs.laws.only_trees_leave_nothing_due.Goals as goal

pub returns : goal.returns
returns c = of_tree
