use Rattle.var_numbers.proofs.PatternLemmas.{pattern-injective}
use Rattle.var_numbers.proofs.laws.pattern_is_injective.Goals as goal

pub returns : goal.returns
returns c = pattern-injective
