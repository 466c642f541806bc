use Rattle.tree_decoder.proofs.InGrammar.{range_sound}
use Rattle.tree_decoder.proofs.laws.tree_ranges_are_sound.Goals as goal

pub returns : goal.returns
returns c = range_sound
