-- The operators and the words of declarations that tokens are, as choices of the schema's sets.
use Rattle.std.specs.Prelude.{ℕ, Option, None}
use Rattle.bast_schema.specs.declared.kind.EnumId.{EnumId}
use Rattle.bast_schema.specs.Choices.{choice_of_text}
use Rattle.js_tokens.specs.declared.kinds.TokenKind.{TokenKind}
use Rattle.js_tokens.specs.declared.kinds.TokenKind.TheVariants as tokens
use Rattle.js_tokens.specs.Spelling.{mark_text, word_text}

-- the choice of a set whose text is the spelling of a token
abbrev pub operator : EnumId → TokenKind → Option ℕ
operator e (tokens.Punctuator m) = choice_of_text e (mark_text m)
operator e (tokens.Reserved w) = choice_of_text e (word_text w)
operator e _ = None
