use Rattle.js_grammar.specs.Rows.{alternatives}
use Rattle.js_grammar.proofs.Begins.{chosen_in}
use Rattle.js_grammar.proofs.Each.{left_out_not_taken, restricted_not_taken}
use Rattle.js_grammar.proofs.Offending.{taken_begins}
use Rattle.js_grammar.proofs.laws.rows_are_alternatives.Goals as goal

pub returns-clause-among : goal.returns-clause-among
returns-clause-among c = λ s k newline r e. chosen_in s k newline (alternatives s) r e

pub returns-clause-left_out : goal.returns-clause-left_out
returns-clause-left_out c = left_out_not_taken

pub returns-clause-restricted : goal.returns-clause-restricted
returns-clause-restricted c = restricted_not_taken

pub returns-clause-begun : goal.returns-clause-begun
returns-clause-begun c = taken_begins
