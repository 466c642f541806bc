use Rattle.std.proofs.Common.{◌≡◌, None, refl, sym, ap, ◌∙◌, inl, inr}
use Rattle.bast_schema.specs.declared.kind.EnumId.TheVariants as sets
use Rattle.bast_schema.specs.Choices.{choice_of_text}
use Rattle.js_tokens.specs.declared.kinds.Mark.{Mark}
use Rattle.js_tokens.specs.declared.kinds.Mark.TheVariants as marks
use Rattle.js_tokens.specs.Spelling.{mark_text}
use Rattle.js_tree.proofs.operators.mark_choice.Goals as goal

-- no punctuator is the word of a declaration
no_declared : (m : Mark) → None ≡ choice_of_text sets.DeclaredKind (mark_text m)
unfolding mark_text
no_declared marks.OpenBrace = refl
no_declared _ = refl

no_lexical : (m : Mark) → None ≡ choice_of_text sets.LexicalKind (mark_text m)
unfolding mark_text
no_lexical marks.OpenBrace = refl
no_lexical _ = refl

no_for : (m : Mark) → None ≡ choice_of_text sets.ForKind (mark_text m)
unfolding mark_text
no_for marks.OpenBrace = refl
no_for _ = refl

pub returns-in-DeclaredKind : goal.returns-in-DeclaredKind
returns-in-DeclaredKind c =
    elim c.in-DeclaredKind.is [
      | inl e ↦ no_declared c.args.mark ∙ ap (λ s. choice_of_text s (mark_text c.args.mark)) (sym e)
      | inr h ↦ elim h [
        | inl e ↦ no_lexical c.args.mark ∙ ap (λ s. choice_of_text s (mark_text c.args.mark)) (sym e)
        | inr e ↦ no_for c.args.mark ∙ ap (λ s. choice_of_text s (mark_text c.args.mark)) (sym e)
      ]
    ]
