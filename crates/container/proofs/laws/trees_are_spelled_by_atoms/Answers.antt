use Rattle.container.proofs.ByAtoms.{tree_by_atoms}
use Rattle.container.proofs.laws.trees_are_spelled_by_atoms.Goals as goal

pub returns : goal.returns
returns c s h t is shut = tree_by_atoms s h t is shut
