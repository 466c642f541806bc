use Rattle.bast_rows.proofs.Back.{length_rows_of}
use Rattle.bast_rows.proofs.laws.each_value_has_a_row.Goals as goal

pub returns : goal.returns
returns c = length_rows_of
