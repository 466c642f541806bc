use Rattle.js_tokens.proofs.Longest.{mark_longest}
use Rattle.js_tokens.proofs.laws.punctuator_is_longest.Goals as goal

pub returns : goal.returns
returns c cs found is = mark_longest cs found is
