use Rattle.std.proofs.Common.{arith}
use Rattle.bast_schema.proofs.Lists.{weight_member}
use Rattle.early_errors.proofs.around.+loops.Goals as goal

pub has_loop-is_loop_at-requires : goal.has_loop-is_loop_at-requires
has_loop-is_loop_at-requires t c = (omega (arith, weight_member _ _ _ c.value-item.is c.loop-value-test.true), tt)
