use Rattle.tree_decoder.proofs.OneTree.{one_tree}
use Rattle.tree_decoder.proofs.laws.one_tree_is_spelled.Goals as goal

pub returns : goal.returns
returns c s h g t u over_t over_u same = one_tree s h g t u over_t.has_all over_u.has_all over_t.typed over_u.typed over_t.whole over_u.whole same
