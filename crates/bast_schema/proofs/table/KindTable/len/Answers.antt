use Rattle.std.proofs.Common.{◌≤◌, arith, length}
use Rattle.bast_schema.proofs.Distinct.{few_kinds}
use Rattle.bast_schema.proofs.table.KindTable.len.Goals as goal

pub overflow_cast-result : goal.overflow_cast-result
overflow_cast-result c = let few : length c.self.inside.kinds.items ≤ 82 = few_kinds c.self.inside.kinds.items c.self.invariant in omega arith

pub returns-clause-few : goal.returns-clause-few
returns-clause-few c = let few : length c.self.inside.kinds.items ≤ 82 = few_kinds c.self.inside.kinds.items c.self.invariant in omega arith
