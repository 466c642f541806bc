-- What the machine sees of a text's tokens.
use Rattle.std.specs.Prelude.{ℕ, List, map}
use Rattle.js_tokens.specs.declared.kinds.Token.{Token}
use Rattle.js_grammar.specs.TokenClasses.{class_in}
use Rattle.js_machine.specs.declared.lookahead.Lookahead.{Lookahead}

abbrev pub seen_in : List ℕ → Token → Lookahead
seen_in text t = record { class = class_in text t; kind = t.kind; newline_before = t.newline_before; at = t.from }

abbrev pub seen : List ℕ → List Token → List Lookahead
seen text ts = map (seen_in text) ts
