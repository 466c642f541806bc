use Rattle.container.proofs.FirstFault.{trailing_told}
use Rattle.container.proofs.laws.bytes_after_container_are_trailing.Goals as goal

pub returns : goal.returns
returns c s tree bytes others file few some = trailing_told s tree bytes others file few some
