use Rattle.tree_decoder.proofs.Spelling.{left_at}
use Rattle.tree_decoder.proofs.laws.atoms_are_due.Goals as goal

pub returns : goal.returns
returns c h t d w v is ds others = left_at h v t d w is.fits is.named is.is_folded is.folded is.eager ds others
