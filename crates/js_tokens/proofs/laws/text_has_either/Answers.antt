use Rattle.std.proofs.Common.{inl, inr, refl}
use Rattle.std.specs.Str.{chars}
use Rattle.js_tokens.specs.Heads.{with_heads}
use Rattle.js_tokens.proofs.OneCut.{either}
use Rattle.js_tokens.proofs.laws.text_has_either.Goals as goal

pub returns : goal.returns
returns c text = elim (either (chars text)) [ inl x ↦ inl (with_heads x.0, (x.0, (x.1, refl))) | inr x ↦ inr (x.0, x.1) ]
