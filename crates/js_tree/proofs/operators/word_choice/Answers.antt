use Rattle.std.proofs.Common.{◌≡◌, None, refl, sym, ap, ◌∙◌, inl, inr}
use Rattle.bast_schema.specs.declared.kind.EnumId.TheVariants as sets
use Rattle.bast_schema.specs.Choices.{choice_of_text}
use Rattle.js_tokens.specs.declared.kinds.Word.{Word}
use Rattle.js_tokens.specs.declared.kinds.Word.TheVariants as words
use Rattle.js_tokens.specs.Spelling.{word_text}
use Rattle.js_tree.proofs.operators.word_choice.Goals as goal

-- no word is an operator of an update or a compound assignment
no_update : (w : Word) → None ≡ choice_of_text sets.UpdateOperator (word_text w)
unfolding word_text
no_update words.Break = refl
no_update _ = refl

no_compound : (w : Word) → None ≡ choice_of_text sets.CompoundOperator (word_text w)
unfolding word_text
no_compound words.Break = refl
no_compound _ = refl

pub returns-in-UpdateOperator : goal.returns-in-UpdateOperator
returns-in-UpdateOperator c =
    elim c.in-UpdateOperator.is [
      | inl e ↦ no_update c.args.word ∙ ap (λ s. choice_of_text s (word_text c.args.word)) (sym e)
      | inr e ↦ no_compound c.args.word ∙ ap (λ s. choice_of_text s (word_text c.args.word)) (sym e)
    ]
