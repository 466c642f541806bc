use Rattle.std.proofs.Common.{◌≡◌, ◌≤◌, ◌<◌, arith, length, ap}
use Rattle.bast_schema.proofs.Distinct.{few_kinds}
use Rattle.bast_schema.proofs.table.KindTable.number.Goals as goal

pub overflow_cast-result : goal.overflow_cast-result
overflow_cast-result c =
    let within : c.in-Some.place < length c.as_slice.result.now = c.in-Some.ensures.within
    in let same : length c.as_slice.result.now ≡ length c.self.inside.kinds.items = ap length c.as_slice.ensures.value
    in let few : length c.self.inside.kinds.items ≤ 82 = few_kinds c.self.inside.kinds.items c.self.invariant
    in omega arith
