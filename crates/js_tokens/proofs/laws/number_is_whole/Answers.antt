use Rattle.js_tokens.proofs.Longest.{number_whole}
use Rattle.js_tokens.proofs.laws.number_is_whole.Goals as goal

pub returns : goal.returns
returns c first p q start value is = number_whole first p q start value is
