use Rattle.container.proofs.FirstFault.{changed_told}
use Rattle.container.proofs.laws.changed_byte_is_first_fault.Goals as goal

pub returns : goal.returns
returns c s tree bytes file few = changed_told s tree bytes file few
