use Rattle.scope_facts.proofs.WholeKept.{exact_eager}
use Rattle.binast_run.proofs.ExactNamed.{exact_in_grammar}
use Rattle.binast_run.proofs.sources.encode_tree.Goals as goal

pub encode-requires-clause-eager : goal.encode-requires-clause-eager
encode-requires-clause-eager c = rw c.in_ok-exact.ensures.exact (exact_eager c.args.strings.now c.args.tree c.requires.eager)

pub returns-in-Ok-clause-spelled : goal.returns-in-Ok-clause-spelled
returns-in-Ok-clause-spelled c = λ _.
    exact_in_grammar c.args.strings.now c.args.tree c.in_ok-exact.exact c.in-Ok.file.items c.in_ok-exact.ensures.exact c.requires.script c.requires.named c.in_ok-exact.ensures.names
    c.in-Ok.ensures.file c.in-Ok.ensures.in_grammar
