use Rattle.std.proofs.Common.{length, sym, ap, ◌∙◌}
use Rattle.js_tokens.proofs.Cursors.{peeked}
use Rattle.js_tokens.proofs.cursor.Cursor.peek.Goals as goal

pub returns-in-None : goal.returns-in-None
returns-in-None c = peeked c.self.inside.rest.now c.self.inside.last c.args.self.now.chars (sym (ap (λ r. length r) c.chars.ensures.rest) ∙ c.in-None.ensures.steps.0.0) (ap (λ p. p.chars) c.self.view_is)
