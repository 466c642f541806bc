use Rattle.binast_run.proofs.Encoded.{is_read_back}
use Rattle.binast_run.proofs.laws.encoded_files_are_read_back.Goals as goal

pub returns : goal.returns
returns c = is_read_back
