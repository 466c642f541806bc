use Rattle.std.proofs.Common.{arith}
use Rattle.bast_schema.specs.View.{datum}
use Rattle.tree_decoder.specs.Range.{range_of}
use Rattle.tree_decoder.proofs.Nodes.{atom_fails, atom_spends, leaf_found}
use Rattle.tree_decoder.proofs.Single.{leaf_atom}
use Rattle.tree_decoder.proofs.reading.single.Goals as goal

pub returns-in-Ok-clause-reads : goal.returns-in-Ok-clause-reads
returns-in-Ok-clause-reads g c = λ depth inside small. leaf_found (range_of c.args.input.now) c.args.wanted depth inside c.args.at (datum c.in-Ok.found.0, c.in-Ok.found.1) c.requires.sound c.requires.at small c.requires.wanted c.in-Ok.ensures.is

pub returns-in-Err-clause-reads : goal.returns-in-Err-clause-reads
returns-in-Err-clause-reads g c = λ depth inside small. atom_fails (range_of c.args.input.now) c.args.wanted depth inside c.args.at c.in-Err.fault c.requires.at (leaf_atom (range_of c.args.input.now) c.args.wanted depth inside c.args.at _ c.requires.wanted c.in-Err.ensures.is)

pub returns-in-Err-clause-spends : goal.returns-in-Err-clause-spends
returns-in-Err-clause-spends g c = λ depth inside. atom_spends (range_of c.args.input.now) c.args.wanted depth inside c.args.at c.in-Err.fault _ _ c.requires.at (leaf_atom (range_of c.args.input.now) c.args.wanted depth inside c.args.at _ c.requires.wanted c.in-Err.ensures.is) (omega (arith, c.in-Err.ensures.cost))
