use Rattle.std.proofs.Common.{◌+◌, ◌*◌}
use Rattle.tree_words.proofs.words.+build.Given as goal

abbrev pub decreases-node_at : goal.decreases-node_at
decreases-node_at l = 4 * l.levels

abbrev pub decreases-value_at : goal.decreases-value_at
decreases-value_at l = 4 * l.levels + 3

abbrev pub decreases-items_at : goal.decreases-items_at
decreases-items_at l = 4 * l.levels + 2

abbrev pub decreases-child_at : goal.decreases-child_at
decreases-child_at l = 4 * l.levels + 1
