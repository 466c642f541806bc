use Rattle.js_tree_laws.proofs.Told.{accepted_have_trees as told}
use Rattle.js_tree_laws.proofs.laws.accepted_have_trees.Goals as goal

pub returns : goal.returns
returns c = λ text ts ls events are tell ends. told text ts ls events are tell ends
