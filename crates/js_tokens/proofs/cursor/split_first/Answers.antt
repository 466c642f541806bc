use Rattle.std.proofs.Common.{◌≡◌, ◌<◌, ◌∷◌, length, sym, ap, ◌∙◌, subst}
use Rattle.std.specs.Str.{chars}
use Rattle.js_tokens.proofs.Cursors.{no_chars, behind_char}
use Rattle.js_tokens.proofs.cursor.split_first.Goals as goal

pub returns-in-Some : goal.returns-in-Some
returns-in-Some c =
    subst (λ r. (chars c.args.text.now ≡ c.in-Some.c ∷ chars r) × (length r < length c.args.text.now)) (sym c.as_str.ensures)
    (behind_char c.args.text.now c.next.new.self.rest.now c.in-Some.c c.utf8.text (sym c.chars-chars.ensures.rest ∙ c.in-Some.ensures.steps.0))

pub returns-in-None : goal.returns-in-None
returns-in-None c = no_chars c.args.text.now (sym (ap (λ r. length r) c.chars-chars.ensures.rest) ∙ c.in-None.ensures.steps.0.0)
