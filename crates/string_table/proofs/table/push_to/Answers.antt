use Rattle.std.proofs.Common.{ap, ◌∙◌, map, string_bytes}
use Rattle.string_table.proofs.Kept.{texts-insert_key}
use Rattle.string_table.proofs.table.push_to.Goals as goal

pub returns-clause-pushed : goal.returns-clause-pushed
returns-clause-pushed c = ap (map string_bytes) c.in_ok-insert.ensures.keys ∙ texts-insert_key c.args.texts.now.keys c.args.text c.requires
