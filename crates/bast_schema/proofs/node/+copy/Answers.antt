use Rattle.std.proofs.Common.{◌≡◌, ◌∙◌, ap, arith}
use Rattle.bast_schema.specs.Tree.{weight_in}
use Rattle.bast_schema.specs.View.{data_of}
use Rattle.bast_schema.proofs.Lists.{weight_member}
use Rattle.bast_schema.proofs.node.+copy.Goals as goal

pub copy_values-copy_value-requires : goal.copy_values-copy_value-requires
copy_values-copy_value-requires t c =
    let e : data_of c.deref-item-items.result.now ≡ c.args.values.now = ap data_of c.deref-item-items.ensures.value ∙ c.values.view_is
    in (omega (arith, weight_member _ _ _ c.item-item.is c.loop-item-test.true, ap weight_in e), tt)
