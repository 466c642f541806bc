use Rattle.std.proofs.Common.{◌-◌, ◌*◌, ◌^◌}
use Rattle.var_numbers.specs.Pattern.{exponent}
use Rattle.var_numbers.proofs.PatternLemmas.{encoding_of}
use Rattle.var_numbers.proofs.laws.pattern_is_binary64.Goals as goal

pub returns : goal.returns
returns c n pos fits =
    let code = encoding_of n pos fits in
    (exponent n, n * 2 ^ (52 - exponent n) - 2 ^ 52, code.small, code.pattern_is, code.means)
