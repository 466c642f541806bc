use Rattle.std.proofs.Common.{subst, sym}
use Rattle.std.specs.List.{IsDistinct}
use Rattle.bast_schema.specs.Kinds.{same_kind}
use Rattle.bast_schema.proofs.Distinct.{distinct_none}
use Rattle.bast_schema.proofs.table.KindTable.new.Goals as goal

pub invariant_of-result : goal.invariant_of-result
invariant_of-result c = subst (IsDistinct same_kind) (sym c.new.ensures.items) distinct_none
