use Rattle.js_tokens.proofs.OneCut.{not_both}
use Rattle.js_tokens.proofs.laws.text_has_not_both.Goals as goal

pub returns : goal.returns
returns c text ts f h k = not_both h.1.0 k
