use Rattle.container.proofs.ReadBack.{layout_read}
use Rattle.container.proofs.laws.container_is_read_back.Goals as goal

pub returns : goal.returns
returns c s tree bytes file few = layout_read s tree bytes file few
