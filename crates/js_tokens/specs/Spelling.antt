-- How punctuators and reserved words are spelt, read off their tables.
use Rattle.std.specs.Prelude.{◌≡◌, ℕ, ◌==◌, Bool, List, [], ◌∷◌, Some, if◌then◌else◌}
use denote.Enum.Declared.{tag_of}
use Rattle.js_tokens.specs.contracts.kinds.Word as word
use Rattle.js_tokens.specs.contracts.kinds.Mark as mark
use Rattle.js_tokens.specs.declared.kinds.Word.{Word}
use Rattle.js_tokens.specs.declared.kinds.Mark.{Mark}
use Rattle.js_tokens.specs.Words.{reserved_words, word_named}
use Rattle.js_tokens.specs.Marks.{punctuators, mark_among}

-- the text beside the first entry of a table that passes a test
abbrev pub text_beside : {A : Type 0} → (A → Bool) → List (List ℕ × A) → List ℕ
text_beside is [] = []
text_beside is (x ∷ xs) = if is x.1 then x.0 else text_beside is xs

-- the spelling of a punctuator
unfoldable pub mark_text : Mark → List ℕ
mark_text m = text_beside (λ n. tag_of mark.the_type n == tag_of mark.the_type m) punctuators

-- the spelling of a reserved word
unfoldable pub word_text : Word → List ℕ
word_text w = text_beside (λ v. tag_of word.the_type v == tag_of word.the_type w) reserved_words

-- what is spelt so is read as that punctuator or word
abbrev pub SpellingsAreRead : Type 0
SpellingsAreRead = ((m : Mark) → mark_among punctuators (mark_text m) ≡ Some (mark_text m, m)) × ((w : Word) → word_named (word_text w) ≡ Some w)
