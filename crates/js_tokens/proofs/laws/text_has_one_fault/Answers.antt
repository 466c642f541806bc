use Rattle.js_tokens.proofs.OneCut.{one_fault}
use Rattle.js_tokens.proofs.laws.text_has_one_fault.Goals as goal

pub returns : goal.returns
returns c text e f h k = one_fault h k
