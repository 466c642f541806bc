use Rattle.container.proofs.SizeSpelled.{size_spelled}
use Rattle.container.proofs.laws.trees_have_no_more_values_than_bytes.Goals as goal

pub returns : goal.returns
returns c s h t is = size_spelled s h t is
