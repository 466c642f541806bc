use Rattle.std.proofs.Common.{sym, ◌∙◌, string_bytes}
use Rattle.std.specs.Str.{bytes_eq}
use Rattle.string_table.proofs.Search.{position-map}
use Rattle.string_table.proofs.table.index_of.Goals as goal

pub returns-clause-index : goal.returns-clause-index
returns-clause-index c =
    c.get_index_of.ensures.index ∙ sym (position-map string_bytes (bytes_eq c.args.text.now) c.args.texts.now.keys)
