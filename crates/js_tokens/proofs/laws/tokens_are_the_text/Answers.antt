use Rattle.std.proofs.Common.{sym, subst}
use Rattle.std.specs.Str.{chars}
use Rattle.js_tokens.specs.Laws.{Tiles}
use Rattle.js_tokens.proofs.OneCut.{tiles}
use Rattle.js_tokens.proofs.laws.tokens_are_the_text.Goals as goal

pub returns : goal.returns
returns c text ts h = subst (λ l. Tiles (chars text) 0 l) (sym h.1.1) (tiles h.1.0)
