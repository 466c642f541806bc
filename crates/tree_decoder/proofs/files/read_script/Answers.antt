use Rattle.std.proofs.Common.{arith}
use Rattle.tree_decoder.proofs.ReadFile.{outside_at_most, spent_outside}
use Rattle.tree_decoder.proofs.files.read_script.Goals as goal

pub returns-in-Err-clause-cost : goal.returns-in-Err-clause-cost
returns-in-Err-clause-cost g c = omega (arith, c.read_layout.ensures.cost, outside_at_most c.args.tape.now c.len-bytes.ensures.bytes (omega (arith, c.len-bytes.ensures.count, c.len-bytes.ensures.limit)))

pub returns-in-Ok-read_outer-clause-cost : goal.returns-in-Ok-read_outer-clause-cost
returns-in-Ok-read_outer-clause-cost g c =
    spent_outside c.args.tape.now c.in-Ok.layout c.args.steps.now c.read_layout.new.steps c.read_outer.new.steps c.in-Ok.ensures.layout c.in-Ok.ensures.spelled c.read_layout.ensures.cost c.read_outer.ensures.cost c.read_outer.ensures.later

pub returns-in-Err-read_outer-clause-cost : goal.returns-in-Err-read_outer-clause-cost
returns-in-Err-read_outer-clause-cost g c =
    spent_outside c.args.tape.now c.in-Ok.layout c.args.steps.now c.read_layout.new.steps c.read_outer.new.steps c.in-Ok.ensures.layout c.in-Ok.ensures.spelled c.read_layout.ensures.cost c.read_outer.ensures.cost c.read_outer.ensures.later
