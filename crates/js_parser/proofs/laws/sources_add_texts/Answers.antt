use Rattle.js_parser.proofs.TextEntries.{entries_are_texts}
use Rattle.js_parser.proofs.laws.sources_add_texts.Goals as goal

pub returns : goal.returns
returns c = entries_are_texts
