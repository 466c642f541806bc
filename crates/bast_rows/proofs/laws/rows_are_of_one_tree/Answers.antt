use Rattle.bast_rows.proofs.Whole.{rows_once}
use Rattle.bast_rows.proofs.laws.rows_are_of_one_tree.Goals as goal

pub returns : goal.returns
returns c = rows_once
