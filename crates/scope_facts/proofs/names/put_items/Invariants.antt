use Rattle.std.proofs.Common.{◌≡◌, ◌++◌, drop}
use Rattle.bast_schema.specs.View.{data_of}
use Rattle.scope_facts.specs.Names.{bound_below}
use Rattle.scope_facts.proofs.names.put_items.Given as goal

abbrev pub invariant-loop-item : goal.invariant-loop-item
invariant-loop-item l = l.names.items ++ bound_below (data_of (drop l.item-index l.items)) ≡ l.fn.names.items ++ bound_below (data_of l.items)
