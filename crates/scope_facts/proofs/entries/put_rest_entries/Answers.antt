use Rattle.std.proofs.Common.{◌∙◌, sym, ◌≡◌, arith}
use Rattle.std.proofs.lemmas.Grind.{common_steps}
use Rattle.bast_schema.specs.Tree.{none}
use Rattle.bast_schema.specs.Counts.{join}
use Rattle.bast_schema.specs.View.{data_of}
use Rattle.bast_schema.proofs.Sums.{join_none}
use Rattle.scope_facts.specs.Entries.{rest_entries}
use Rattle.scope_facts.proofs.entries.put_rest_entries.Goals as goal

pub returns : goal.returns
returns c =
    let e : join (data_of c.loop-name.out.items) none ≡ join (data_of c.args.out.now.items) (rest_entries c.args.names.now) = grind (arith, common_steps, c.loop-name.invariant)
    in sym (join_none (data_of c.loop-name.out.items)) ∙ e
