use Rattle.std.proofs.Common.{◌≡◌, ◌*◌, ◌+◌, ◌≤◌, length, drop}
use Rattle.bast_schema.specs.Tree.{weight, weight_in, weight_at}
use Rattle.bast_schema.specs.View.{datum, data_of}
use Rattle.container.specs.Atoms.{atoms_of_fields, atoms_of_items}
use Rattle.tree_encoder.specs.File.{texts_held}
use Rattle.tree_encoder.specs.Writing.{AllPlain, IsSound, so_far, written}
use Rattle.tree_encoder.proofs.nodes.+put.Given as goal

abbrev pub decreases-put_node : goal.decreases-put_node
decreases-put_node l = 3 * weight l.node.now

abbrev pub decreases-put_fields : goal.decreases-put_fields
decreases-put_fields l = 3 * weight_in (data_of l.values.now)

abbrev pub decreases-put_items : goal.decreases-put_items
decreases-put_items l = 3 * weight_in (data_of l.values.now)

abbrev pub decreases-put_list : goal.decreases-put_list
decreases-put_list l = 3 * weight_in (data_of l.values.now) + 1

abbrev pub decreases-put_value : goal.decreases-put_value
decreases-put_value l = 3 * weight_at (datum l.value.now)

-- what is left to write makes of this writer what all makes of that at first
abbrev pub invariant-put_fields-loop-at : goal.invariant-put_fields-loop-at
invariant-put_fields-loop-at l =
    (l.at ≤ length l.values)
    × (written (so_far l.into) (atoms_of_fields (texts_held l.strings) (drop l.at l.wanted) (data_of (drop l.at l.values))) ≡ written (so_far l.fn.into) (atoms_of_fields (texts_held l.strings) l.wanted (data_of l.values)))
    × AllPlain (atoms_of_fields (texts_held l.strings) (drop l.at l.wanted) (data_of (drop l.at l.values)))
    × IsSound l.strings l.into

abbrev pub invariant-put_items-loop-value : goal.invariant-put_items-loop-value
invariant-put_items-loop-value l =
    (written (so_far l.into) (atoms_of_items (texts_held l.strings) (data_of (drop l.value-index l.values))) ≡ written (so_far l.fn.into) (atoms_of_items (texts_held l.strings) (data_of l.values)))
    × AllPlain (atoms_of_items (texts_held l.strings) (data_of (drop l.value-index l.values)))
    × IsSound l.strings l.into
