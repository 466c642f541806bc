use Rattle.std.proofs.Common.{◌∙◌}
use Rattle.js_tokens.proofs.MarkTrees.{longer_is}
use Rattle.js_tokens.proofs.marks.punctuator.Goals as goal

pub returns-in-None-clause-value : goal.returns-in-None-clause-value
returns-in-None-clause-value c = c.longer.ensures.value ∙ longer_is c.args.first c.args.cursor.now c.in-None.ensures
