use Rattle.container.proofs.ReadBack.{one_reading}
use Rattle.container.proofs.laws.container_has_one_reading.Goals as goal

pub returns : goal.returns
returns c s t x y bytes left right few = one_reading s t x y bytes left right few
