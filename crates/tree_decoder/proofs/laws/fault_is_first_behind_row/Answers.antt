use Rattle.tree_decoder.proofs.Rows.{first_behind_row}
use Rattle.tree_decoder.proofs.laws.fault_is_first_behind_row.Goals as goal

pub returns : goal.returns
returns c = first_behind_row
