use Rattle.std.proofs.Common.{◌≡◌, drop}
use Rattle.bast_schema.specs.Counts.{join}
use Rattle.bast_schema.specs.Tree.{Data}
use Rattle.bast_schema.specs.View.{data_of}
use Rattle.scope_facts.specs.Entries.{item_entries}
use Rattle.scope_facts.proofs.entries.put_item_entries.Given as goal

abbrev pub invariant-loop-item : goal.invariant-loop-item
invariant-loop-item l = record {
  place : l.place ≡ l.item-index;
  entries : (others : Data) → join (data_of l.out.items) (item_entries l.item-index (data_of (drop l.item-index l.items)) others) ≡ join (data_of l.fn.out.items) (item_entries 0 (data_of l.items) others);
}
