use Rattle.container.proofs.FirstFault.{prefix_ended}
use Rattle.container.proofs.laws.container_is_ended_where_it_breaks_off.Goals as goal

pub returns : goal.returns
returns c s tree bytes n file few within = prefix_ended s tree bytes n file few within
