use Rattle.std.proofs.Common.{◌≡◌, ◌≤◌, ◌+◌, ℕ, drop}
use Rattle.bast_schema.specs.Tree.{weight, weight_in, weight_at}
use Rattle.bast_schema.specs.View.{datum, data_of}
use Rattle.scope_facts.specs.Covers.{cover_of}
use Rattle.scope_check.proofs.Walks.{Walked}
use Rattle.scope_check.proofs.walk.+walk.Given as goal

abbrev pub decreases-walk_node : goal.decreases-walk_node
decreases-walk_node l = weight l.node.now

abbrev pub decreases-walk_fields : goal.decreases-walk_fields
decreases-walk_fields l = weight_in (data_of l.fields.now)

abbrev pub decreases-walk_scope : goal.decreases-walk_scope
decreases-walk_scope l = weight_at (datum l.scope.now) + weight_in (data_of l.after.now)

abbrev pub decreases-walk_value : goal.decreases-walk_value
decreases-walk_value l = weight_at (datum l.value.now)

abbrev pub decreases-walk_items : goal.decreases-walk_items
decreases-walk_items l = weight_in (data_of l.values.now)

abbrev pub invariant-walk_items-loop-value : goal.invariant-walk_items-loop-value
invariant-walk_items-loop-value l = record {
  walked : Walked l.eval (cover_of l.fn.covers.items) l.now l.told l.next (data_of (drop l.value-index l.values)) l.number (data_of l.values);
  now : l.now ≤ l.next;
  covers : (x : ℕ) → cover_of l.covers.items x ≡ cover_of l.fn.covers.items x;
}
