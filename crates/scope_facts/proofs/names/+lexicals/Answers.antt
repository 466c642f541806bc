use Rattle.std.proofs.Common.{arith}
use Rattle.bast_schema.proofs.Lists.{weight_member}
use Rattle.scope_facts.proofs.names.+lexicals.Goals as goal

pub put_lexicals_in-put_lexicals_at-requires : goal.put_lexicals_in-put_lexicals_at-requires
put_lexicals_in-put_lexicals_at-requires t c = (omega (arith, weight_member _ _ _ c.value-item.is c.loop-value-test.true), tt)
