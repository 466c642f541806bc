use Rattle.std.proofs.Common.{◌≤◌, arith, length}
use Rattle.bast_schema.proofs.Distinct.{few_kinds}
use Rattle.bast_schema.proofs.table.KindTable.as_slice.Goals as goal

pub returns-clause-few : goal.returns-clause-few
returns-clause-few c = let few : length c.self.inside.kinds.items ≤ 82 = few_kinds c.self.inside.kinds.items c.self.invariant in omega arith
