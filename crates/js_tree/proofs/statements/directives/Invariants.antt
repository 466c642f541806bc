use Rattle.std.proofs.Common.{◌≡◌, length}
use Rattle.bast_schema.specs.View.{data_of}
use Rattle.js_tree.specs.Nodes.{behind_directives, directives, limited}
use Rattle.js_tree.proofs.StatementLists.{collected}
use Rattle.js_tree.proofs.statements.directives.Given as goal

abbrev pub invariant-loop-raw : goal.invariant-loop-raw
invariant-loop-raw l =
    (collected (data_of l.found.items) (directives limited l.items) ≡ directives limited l.fn.items)
    × (behind_directives l.items ≡ behind_directives l.fn.items)

abbrev pub decreases-loop-raw : goal.decreases-loop-raw
decreases-loop-raw l = length l.items
