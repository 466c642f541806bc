use Rattle.std.proofs.Common.{arith}
use Rattle.early_errors.proofs.Firsts.{nodes_size}
use Rattle.tree_decoder.proofs.files.judged.Goals as goal

pub first_lazy_of-requires : goal.first_lazy_of-requires
first_lazy_of-requires c = omega (arith, nodes_size c.args.tree)
