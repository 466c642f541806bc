use Rattle.std.proofs.Common.{sym}
use Rattle.bast_schema.specs.View.{data_of}
use Rattle.js_printer.proofs.Made.{made_is}
use Rattle.js_printer.proofs.tests.node.Goals as goal

pub returns : goal.returns
returns c = made_is c.args.kind (data_of c.args.fields.items) c.in_ok-new.field-0 (sym c.in_ok-new.ensures)
