use Rattle.js_tree_laws.proofs.FollowImage.{deep_trees, trees_are_same}
use Rattle.js_tree_laws.proofs.tree_laws.limit_refuses_deep_trees.Goals as goal

pub returns-clause-same : goal.returns-clause-same
returns-clause-same c = trees_are_same

pub returns-clause-deep : goal.returns-clause-deep
returns-clause-deep c = deep_trees
