use Rattle.var_numbers.proofs.InverseLemmas.{number_in-spelled}
use Rattle.var_numbers.proofs.laws.only_varnum_is_read.Goals as goal

pub returns : goal.returns
returns c bytes n count small is =
    let read = number_in-spelled bytes n count small is in (read.small, read.count_is, read.front)
