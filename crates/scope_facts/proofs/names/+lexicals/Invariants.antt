use Rattle.std.proofs.Common.{◌≡◌, ◌++◌, drop}
use Rattle.bast_schema.specs.Tree.{weight, weight_in, weight_at}
use Rattle.bast_schema.specs.View.{datum, data_of}
use Rattle.scope_facts.specs.Names.{lexicals_in}
use Rattle.scope_facts.proofs.names.+lexicals.Given as goal

abbrev pub decreases-put_lexicals : goal.decreases-put_lexicals
decreases-put_lexicals l = weight l.node.now

abbrev pub decreases-put_lexicals_in : goal.decreases-put_lexicals_in
decreases-put_lexicals_in l = weight_in (data_of l.values.now)

abbrev pub decreases-put_lexicals_at : goal.decreases-put_lexicals_at
decreases-put_lexicals_at l = weight_at (datum l.value.now)

abbrev pub invariant-put_lexicals_in-loop-value : goal.invariant-put_lexicals_in-loop-value
invariant-put_lexicals_in-loop-value l = l.out.items ++ lexicals_in (data_of (drop l.value-index l.values)) ≡ l.fn.out.items ++ lexicals_in (data_of l.values)
