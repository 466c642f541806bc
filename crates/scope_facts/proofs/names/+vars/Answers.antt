use Rattle.std.proofs.Common.{arith}
use Rattle.bast_schema.proofs.Lists.{weight_member}
use Rattle.scope_facts.proofs.names.+vars.Goals as goal

pub put_vars_in-put_vars_at-requires : goal.put_vars_in-put_vars_at-requires
put_vars_in-put_vars_at-requires t c = (omega (arith, weight_member _ _ _ c.value-item.is c.loop-value-test.true), tt)
