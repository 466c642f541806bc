use Rattle.container.proofs.LayoutSpelled.{layout_is_container}
use Rattle.container.proofs.laws.layouts_are_containers.Goals as goal

pub returns : goal.returns
returns c bytes l small is = layout_is_container bytes l small is
