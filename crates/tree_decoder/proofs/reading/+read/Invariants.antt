use Rattle.std.proofs.Common.{◌+◌, ◌-◌, ◌*◌, ◌≤◌, take}
use Rattle.bast_schema.specs.Tree.{item_type}
use Rattle.bast_schema.specs.View.{data_of}
use Rattle.tree_decoder.specs.Dues.{times}
use Rattle.tree_decoder.specs.Found.{Spent}
use Rattle.tree_decoder.specs.Range.{range_of}
use Rattle.tree_decoder.specs.Windows.{windows_in}
use Rattle.tree_decoder.proofs.Nodes.{Chain}
use Rattle.tree_decoder.proofs.reading.+read.Given as goal

abbrev pub decreases-value : goal.decreases-value
decreases-value g l = 3 * (l.input.now.end - l.at) + 2

abbrev pub decreases-node : goal.decreases-node
decreases-node g l = 3 * (l.input.now.end - l.at) + 1

abbrev pub decreases-list : goal.decreases-list
decreases-list g l = 3 * (l.input.now.end - l.at) + 1

abbrev pub decreases-fields : goal.decreases-fields
decreases-fields g l = 3 * (l.input.now.end - l.at) + 3

abbrev pub decreases-items : goal.decreases-items
decreases-items g l = 3 * (l.input.now.end - l.at) + 3

abbrev pub invariant-fields-loop-one : goal.invariant-fields-loop-one
invariant-fields-loop-one g l = record {
  chain : Chain (range_of l.input) (take l.one-index l.wanted) l.depth l.inside l.at (data_of l.values.items) l.next;
  forward : l.at ≤ l.next;
  within : l.next ≤ (range_of l.input).end;
  spent : Spent (windows_in (data_of l.values.items)) l.at l.next l.fn.steps l.steps;
  later : l.fn.steps ≤ l.steps;
}

abbrev pub invariant-items-loop : goal.invariant-items-loop
invariant-items-loop g l = record {
  chain : Chain (range_of l.input) (times l.counter (item_type l.item l.holes)) l.depth l.inside l.at (data_of l.values.items) l.next;
  forward : l.at ≤ l.next;
  within : l.next ≤ (range_of l.input).end;
  spent : Spent (windows_in (data_of l.values.items)) l.at l.next l.fn.steps l.steps;
  later : l.fn.steps ≤ l.steps;
}
