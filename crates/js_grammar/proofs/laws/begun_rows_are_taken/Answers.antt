use Rattle.js_grammar.proofs.Forced.{begun_taken}
use Rattle.js_grammar.proofs.laws.begun_rows_are_taken.Goals as goal

pub returns : goal.returns
returns c = begun_taken
