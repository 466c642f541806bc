use Rattle.std.proofs.Common.{◌≡◌, None, Some, sym, ap, get_or, ◌∙◌}
use Rattle.string_table.specs.Entries.{place_in}
use Rattle.tree_encoder.specs.Writing.{AreNumbers}
use Rattle.tree_encoder.proofs.Stay.{numbers_set, numbers_stay}
use Rattle.tree_encoder.proofs.numbers.number_of_name.Goals as goal

pub returns-then-place-len-clause-kept : goal.returns-then-place-len-clause-kept
returns-then-place-len-clause-kept c =
    let kept : AreNumbers c.args.strings.now c.number_of_text.new.texts c.args.numbers.now.items =
    rw c.in_ok-number.ensures.texts (numbers_stay c.args.strings.now c.args.texts.now c.args.numbers.now.items _ c.requires.kept) in
    let there : place_in c.number_of_text.new.texts (get_or c.args.strings.now c.args.name.0 None) ≡ Some c.in_ok-number.number =
    ap (place_in c.number_of_text.new.texts) (sym c.text_of.ensures) ∙ c.in_ok-number.ensures.number in
    numbers_set c.args.strings.now c.number_of_text.new.texts c.args.numbers.now.items c.args.name.0 c.in_ok-number.number kept there
