use Rattle.early_errors.proofs.Sites.{numbers_are}
use Rattle.early_errors.proofs.laws.nodes_are_numbered.Goals as goal

pub returns : goal.returns
returns c = numbers_are
