-- What the rules ask of a text.
use Rattle.std.specs.Prelude.{ℕ, Option, List}
use Rattle.js_tokens.specs.Spelled.{is_one_template}
use Rattle.early_errors.specs.declared.known.TextFacts.{TextFacts}
use Rattle.early_errors.specs.Strict.{has_text, is_use_strict}
use Rattle.early_errors.specs.Rules.{is_restricted, is_strict_word, is_identifier, is_member_name, is_quoted}

abbrev pub facts_of : Option (List ℕ) → TextFacts
facts_of t = record {
  use_strict = has_text is_use_strict t;
  restricted = has_text is_restricted t;
  strict_word = has_text is_strict_word t;
  identifier = has_text is_identifier t;
  member_name = has_text is_member_name t;
  quoted = has_text is_quoted t;
  template = has_text is_one_template t;
}
