use Rattle.tree_decoder.proofs.Decoding.{judged_named, judged_whole}
use Rattle.tree_decoder.proofs.files.decode.Goals as goal

pub returns-in-Ok-clause-whole : goal.returns-in-Ok-clause-whole
returns-in-Ok-clause-whole g c = judged_whole c.args.tape.now c.in-Ok.strings c.in-Ok.tree c.judged.result c.in-Ok.ensures.reads c.judged.ensures

pub returns-in-Ok-clause-named : goal.returns-in-Ok-clause-named
returns-in-Ok-clause-named g c = judged_named c.args.tape.now c.in-Ok.strings c.in-Ok.tree c.judged.result c.in-Ok.ensures.reads c.judged.ensures
