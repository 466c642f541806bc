use Rattle.std.proofs.Common.{◌+◌, ◌*◌}
use Rattle.bast_schema.proofs.tests.+same.Given as goal

abbrev pub decreases-are_same : goal.decreases-are_same
decreases-are_same l = 2 * l.levels

abbrev pub decreases-is_same : goal.decreases-is_same
decreases-is_same l = 2 * l.levels + 1
