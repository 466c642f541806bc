use Rattle.std.proofs.Common.{◌≡◌}
use Rattle.bast_schema.specs.Counts.{join}
use Rattle.bast_schema.specs.Tree.{count}
use Rattle.bast_schema.specs.View.{data_of}
use Rattle.js_tree.specs.Finishes.{before_default, from_default}
use Rattle.js_tree.proofs.switches.before_default.Given as goal

abbrev pub invariant-loop-clause : goal.invariant-loop-clause
invariant-loop-clause l = (join (data_of l.found.items) (before_default l.clauses) ≡ before_default l.fn.clauses) × (from_default l.clauses ≡ from_default l.fn.clauses)

abbrev pub decreases-loop-clause : goal.decreases-loop-clause
decreases-loop-clause l = count l.clauses
