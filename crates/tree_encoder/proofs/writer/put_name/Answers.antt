use Rattle.std.proofs.Common.{None, get_or}
use Rattle.tree_encoder.proofs.Stay.{on_ok, sound_text}
use Rattle.tree_encoder.proofs.writer.put_name.Goals as goal

pub returns-clause-sound : goal.returns-clause-sound
returns-clause-sound c =
    on_ok c.put_number.result c.put_number.ensures.put c.put_number.ensures.small
    (λ put small. sound_text c.args.strings.now c.args.into.now _ (get_or c.args.strings.now c.args.name.0 None) c.in_ok-number.number c.requires c.in_ok-number.ensures.texts c.in_ok-number.ensures.kept put small)
