use Rattle.var_numbers.proofs.ReadLemmas.{number_in-varnum}
use Rattle.var_numbers.proofs.laws.varnum_is_read_back.Goals as goal

pub returns : goal.returns
returns c = number_in-varnum
