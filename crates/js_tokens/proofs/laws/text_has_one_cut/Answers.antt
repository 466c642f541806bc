use Rattle.std.proofs.Common.{sym, ap, ◌∙◌}
use Rattle.js_tokens.specs.Heads.{with_heads}
use Rattle.js_tokens.proofs.OneCut.{one_cut}
use Rattle.js_tokens.proofs.laws.text_has_one_cut.Goals as goal

pub returns : goal.returns
returns c text ts us h k = h.1.1 ∙ ap with_heads (one_cut h.1.0 k.1.0) ∙ sym k.1.1
