use Rattle.tree_decoder.proofs.LazyAtoms.{eager_read}
use Rattle.tree_decoder.proofs.file_laws.files_without_lazy_kinds_are_read_so.Goals as goal

pub returns : goal.returns
returns c = eager_read
