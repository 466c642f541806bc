use Rattle.std.proofs.Common.{◌≡◌, Some, refl}
use Rattle.js_tokens.specs.declared.kinds.Word.{Word}
use Rattle.js_tokens.specs.declared.kinds.Word.TheVariants as words
use Rattle.js_tokens.specs.declared.kinds.Mark.{Mark}
use Rattle.js_tokens.specs.declared.kinds.Mark.TheVariants as marks
use Rattle.js_tokens.specs.Words.{word_named}
use Rattle.js_tokens.specs.Marks.{punctuators, mark_among}
use Rattle.js_tokens.specs.Spelling.{mark_text, word_text}
use Rattle.js_tokens.proofs.laws.spellings_are_read.Goals as goal

mark_read : (m : Mark) → mark_among punctuators (mark_text m) ≡ Some (mark_text m, m)
unfolding mark_text
mark_read marks.OpenBrace = refl
mark_read _ = refl

word_read : (w : Word) → word_named (word_text w) ≡ Some w
unfolding word_text
word_read words.Break = refl
word_read _ = refl

pub returns : goal.returns
returns c = (mark_read, word_read)
