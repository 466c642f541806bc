use Rattle.tree_decoder.proofs.EveryFile.{sound_is_whole, whole_is_sound}
use Rattle.tree_decoder.proofs.file_laws.files_are_read_exactly.Goals as goal

pub returns : goal.returns
returns c bytes texts t short small = record { read = whole_is_sound bytes texts t short small; only = sound_is_whole bytes texts t short small }
