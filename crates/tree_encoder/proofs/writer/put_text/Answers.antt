use Rattle.std.proofs.Common.{option_copied}
use Rattle.tree_encoder.specs.Writing.{AreNumbers}
use Rattle.tree_encoder.proofs.Stay.{numbers_stay, on_ok, sound_text}
use Rattle.tree_encoder.proofs.writer.put_text.Goals as goal

pub returns-clause-sound : goal.returns-clause-sound
returns-clause-sound c strings sound =
    let kept : AreNumbers strings c.number_of_text.new.texts c.args.into.now.numbers.items =
    rw c.in_ok-number.ensures.texts (numbers_stay strings c.args.into.now.texts c.args.into.now.numbers.items (option_copied c.args.text) sound.numbers) in
    on_ok c.put_number.result c.put_number.ensures.put c.put_number.ensures.small
    (λ put small. sound_text strings c.args.into.now _ (option_copied c.args.text) c.in_ok-number.number sound c.in_ok-number.ensures.texts kept put small)
