use Rattle.std.proofs.Common.{arith}
use Rattle.bast_schema.proofs.Lists.{weight_member}
use Rattle.js_parser.proofs.tests.+show.Goals as goal

pub put_values-put_value-requires : goal.put_values-put_value-requires
put_values-put_value-requires t c =
    (omega (arith, weight_member c.args.values.now c.loop-value.value-index c.value-item.result c.value-item.is c.loop-value-test.true), tt)
