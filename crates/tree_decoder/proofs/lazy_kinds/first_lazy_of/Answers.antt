use Rattle.std.proofs.Common.{sym, ◌∙◌}
use Rattle.tree_decoder.specs.LazyKinds.{kinds_of}
use Rattle.tree_decoder.proofs.LazyKinds.{walked_none, walked_some}
use Rattle.tree_decoder.proofs.lazy_kinds.first_lazy_of.Goals as goal

pub returns-in-Ok : goal.returns-in-Ok
returns-in-Ok c = sym (walked_none 0 c.in-Ok.field-0 (kinds_of c.args.tree.now) (sym c.walk_node.ensures ∙ c.in-Ok.is))

pub returns-in-Err : goal.returns-in-Err
returns-in-Err c = sym (walked_some 0 c.in-Err.other (kinds_of c.args.tree.now) (sym c.walk_node.ensures ∙ c.in-Err.is))
