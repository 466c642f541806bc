use Rattle.js_tree_laws.proofs.Payments.{trees_are_small}
use Rattle.js_tree_laws.proofs.Scripts.{trees_are_scripts}
use Rattle.js_tree_laws.proofs.TreesHold.{trees_are_whole, trees_are_eager, trees_are_plain, trees_have_names, trees_are_shallow}
use Rattle.js_tree_laws.proofs.tree_laws.trees_hold.Goals as goal

pub returns-clause-whole : goal.returns-clause-whole
returns-clause-whole c = trees_are_whole

pub returns-clause-eager : goal.returns-clause-eager
returns-clause-eager c = trees_are_eager

pub returns-clause-plain : goal.returns-clause-plain
returns-clause-plain c = trees_are_plain

pub returns-clause-names : goal.returns-clause-names
returns-clause-names c = trees_have_names

pub returns-clause-shallow : goal.returns-clause-shallow
returns-clause-shallow c = trees_are_shallow

pub returns-clause-scripts : goal.returns-clause-scripts
returns-clause-scripts c = trees_are_scripts

pub returns-clause-small : goal.returns-clause-small
returns-clause-small c = trees_are_small
