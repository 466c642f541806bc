use Rattle.js_printer.proofs.OneLine.{form_line}
use Rattle.js_printer.proofs.laws.string_forms_are_one_line.Goals as goal

pub returns : goal.returns
returns c = form_line
