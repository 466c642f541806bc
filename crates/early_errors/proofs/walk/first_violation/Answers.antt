use Rattle.std.proofs.Common.{arith}
use Rattle.early_errors.proofs.Firsts.{first_found, first_none, nodes_size}
use Rattle.early_errors.proofs.walk.first_violation.Goals as goal

pub returns-in-Found : goal.returns-in-Found
returns-in-Found c = first_found _ c.args.ctx.now c.args.tree.now c.start_flags.result _ c.in_ok-violation.field-0 c.in-Found.violation c.start_flags.ensures c.in_ok-violation.ensures c.in-Found.is

pub returns-in-Next : goal.returns-in-Next
returns-in-Next c = first_none _ c.args.ctx.now c.args.tree.now c.start_flags.result _ c.in_ok-violation.field-0 c.in-Next.field-0 c.start_flags.ensures c.in_ok-violation.ensures c.in-Next.is

pub walk_node-requires : goal.walk_node-requires
walk_node-requires c = omega (arith, nodes_size c.args.tree.now)
