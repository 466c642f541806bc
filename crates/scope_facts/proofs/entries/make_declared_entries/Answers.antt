use Rattle.std.proofs.Common.{◌∙◌, sym, ◌≡◌, arith}
use Rattle.std.proofs.lemmas.Grind.{common_steps}
use Rattle.bast_schema.specs.Tree.{none}
use Rattle.bast_schema.specs.Counts.{join}
use Rattle.bast_schema.specs.View.{data_of}
use Rattle.bast_schema.proofs.Sums.{join_none}
use Rattle.scope_facts.specs.Entries.{declared_entries}
use Rattle.scope_facts.proofs.entries.make_declared_entries.Goals as goal

pub returns : goal.returns
returns c =
    let e : join (data_of c.loop-name.out.items) none ≡ declared_entries c.args.names.now = grind (arith, common_steps, c.loop-name.invariant)
    in sym (join_none (data_of c.loop-name.out.items)) ∙ e
