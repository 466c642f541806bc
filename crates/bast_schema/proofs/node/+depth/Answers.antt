use Rattle.std.proofs.Common.{arith}
use Rattle.bast_schema.proofs.Lists.{weight_member}
use Rattle.bast_schema.proofs.node.+depth.Goals as goal

pub deepest-depth_of-requires : goal.deepest-depth_of-requires
deepest-depth_of-requires t c = (omega (arith, weight_member _ _ _ c.value-item.is c.loop-value-test.true), tt)
