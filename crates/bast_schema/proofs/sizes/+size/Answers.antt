use Rattle.std.proofs.Common.{arith}
use Rattle.bast_schema.proofs.Lists.{weight_member}
use Rattle.bast_schema.proofs.sizes.+size.Goals as goal

pub left_after_all-left_after-requires : goal.left_after_all-left_after-requires
left_after_all-left_after-requires t c = (omega (arith, weight_member _ _ _ c.value-item.is c.loop-value-test.true), tt)
