use Rattle.std.proofs.Common.{arith, ap}
use Rattle.bast_schema.specs.Tree.{nodes_in}
use Rattle.bast_schema.proofs.Lists.{weight_member, data_of_drop}
use Rattle.scope_check.proofs.numbers.+count.Goals as goal

pub number_behind_values-number_behind_value-next-requires : goal.number_behind_values-number_behind_value-next-requires
number_behind_values-number_behind_value-next-requires t c = (
  omega (arith, weight_member _ _ _ c.value-item.is c.loop-value-test.true),
  omega (arith, c.requires, c.loop-value.invariant, ap nodes_in (data_of_drop _ _ _ c.value-item.is c.loop-value-test.true)),
)
