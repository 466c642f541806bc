use Rattle.var_numbers.proofs.ReadLemmas.{varnum-prefix_free}
use Rattle.var_numbers.proofs.laws.varnum_is_prefix_free.Goals as goal

pub returns : goal.returns
returns c = varnum-prefix_free
