use Rattle.js_tokens.proofs.Longest.{name_longest}
use Rattle.js_tokens.proofs.laws.name_is_longest.Goals as goal

pub returns : goal.returns
returns c first rest starts = name_longest first rest starts
