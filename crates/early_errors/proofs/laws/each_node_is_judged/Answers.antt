use Rattle.early_errors.proofs.Sites.{trees_are}
use Rattle.early_errors.proofs.laws.each_node_is_judged.Goals as goal

pub returns : goal.returns
returns c = trees_are
