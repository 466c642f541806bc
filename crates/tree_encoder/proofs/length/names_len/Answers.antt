use Rattle.std.proofs.Common.{length, ap}
use Rattle.bast_schema.specs.declared.kind.Kind.TheVariants.{Null}
use Rattle.tree_encoder.proofs.Lengths.{names_past}
use Rattle.tree_encoder.proofs.length.names_len.Goals as goal

pub returns-in-None : goal.returns-in-None
returns-in-None c = names_past c.args.kinds.now c.kinds.kind-index c.kinds.total Null (length c.name_of.result.now) c.kinds-test.true c.kinds.invariant.0 (ap length c.name_of.ensures) c.in-None.ensures
