use Rattle.tree_decoder.proofs.SameTree.{same_tree, atoms_same}
use Rattle.tree_decoder.proofs.laws.atoms_are_of_one_tree.Goals as goal

pub returns : goal.returns
returns c h g t u typed_t typed_u named_t named_u = (same_tree h g t u typed_t typed_u named_t named_u, atoms_same h g t u)
