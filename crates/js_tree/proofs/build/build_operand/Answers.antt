use Rattle.std.proofs.Common.{rules, true}
use Rattle.js_tree.specs.Nodes.{limited}
use Rattle.js_tree.proofs.Folding.{nothing_folds}
use Rattle.js_tree.proofs.build.build_operand.Goals as goal

-- src/build.rt:82:9
pub returns-then-branch : goal.returns-then-branch
returns-then-branch c = nothing_folds limited c.args.row c.args.parts.now true c.drop_no_endings.new.self (search rules) (search rules) (search rules)
