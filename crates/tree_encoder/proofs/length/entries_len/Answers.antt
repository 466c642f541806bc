use Rattle.std.proofs.Common.{◌<◌, length, arith}
use Rattle.tree_encoder.proofs.Lengths.{texts_past}
use Rattle.tree_encoder.proofs.length.entries_len.Goals as goal

pub returns-in-None-clause-len : goal.returns-in-None-clause-len
returns-in-None-clause-len c =
    let within : c.places.place < length c.args.texts.now = omega arith in
    texts_past c.args.texts.now c.places.place c.places.total c.entry_len.result within c.places.invariant.0 c.entry_len.ensures.len c.in-None.ensures
