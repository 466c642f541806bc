use Rattle.std.proofs.Common.{◌≡◌, ℕ, sym, ap, ◌∙◌, ◌<◌, length, arith, List, map, Option}
use Rattle.std.specs.List.{position_from}
use Rattle.std.specs.Str.{bytes_eq}
use Rattle.std.proofs.lemmas.List.{length-map}
use denote.Bor.{Bor}
use Rattle.bast_schema.specs.declared.kind.EnumId.{EnumId}
use Rattle.bast_schema.specs.Choices.{choice_texts, choice_of_text}
use Rattle.bast_schema.proofs.Places.{position_from-map}
use Rattle.bast_schema.proofs.choices.choice_of.Goals as goal

choice_is : (e : EnumId) (t : List ℕ) (texts : List (Bor (List ℕ))) (o : Option ℕ) → map (λ x. x.now) texts ≡ choice_texts e → o ≡ position_from (λ x. bytes_eq x.now t) 0 texts → o ≡ choice_of_text e t
choice_is e t texts o same is = is ∙ sym (position_from-map (λ x. bytes_eq x t) (λ x. x.now) 0 texts) ∙ ap (λ ts. position_from (λ x. bytes_eq x t) 0 ts) same

pub overflow_cast-result : goal.overflow_cast-result
overflow_cast-result c =
    let within : c.in-Some.place < length c.texts_of.result.now = c.in-Some.ensures.within
    in let same : length c.texts_of.result.now ≡ length (choice_texts c.args.set) = sym (length-map c.texts_of.result.now (λ x. x.now)) ∙ ap length c.texts_of.ensures.texts
    in omega (arith, c.texts_of.ensures.few)

pub returns-in-Some : goal.returns-in-Some
returns-in-Some c = sym c.in-Some.is ∙ choice_is c.args.set c.args.text.now c.texts_of.result.now c.place_of.result c.texts_of.ensures.texts c.place_of.ensures.is

pub returns-in-None : goal.returns-in-None
returns-in-None c = sym c.in-None.is ∙ choice_is c.args.set c.args.text.now c.texts_of.result.now c.place_of.result c.texts_of.ensures.texts c.place_of.ensures.is
