use Rattle.std.proofs.Common.{◌≡◌, ◌++◌, drop, string_bytes}
use Rattle.bast_schema.specs.Fields.{fields, field_names}
use Rattle.bast_schema.specs.Tree.{weight, weight_at, weight_in}
use Rattle.bast_schema.specs.View.{datum, data_of}
use Rattle.js_printer.specs.Listing.{fields_lines, items_lines, shown_all}
use Rattle.js_printer.proofs.listing.+listing.Given as goal

abbrev pub decreases-put_node : goal.decreases-put_node
decreases-put_node l = weight l.node.now

abbrev pub decreases-put_fields : goal.decreases-put_fields
decreases-put_fields l = weight_in (data_of l.values.now)

abbrev pub decreases-put_field : goal.decreases-put_field
decreases-put_field l = weight_at (datum l.value.now)

abbrev pub decreases-put_items : goal.decreases-put_items
decreases-put_items l = weight_in (data_of l.values.now)

abbrev pub decreases-put_item : goal.decreases-put_item
decreases-put_item l = weight_at (datum l.value.now)

-- what stands, and what is left to show, is the whole
abbrev pub invariant-put_fields-loop-at : goal.invariant-put_fields-loop-at
invariant-put_fields-loop-at l =
    string_bytes l.into ++ shown_all (fields_lines l.strings l.depth (drop l.at (fields l.kind)) (drop l.at (field_names l.kind)) (data_of (drop l.at l.values)))
    ≡ string_bytes l.fn.into ++ shown_all (fields_lines l.strings l.depth (fields l.kind) (field_names l.kind) (data_of l.values))

abbrev pub invariant-put_items-loop-value : goal.invariant-put_items-loop-value
invariant-put_items-loop-value l =
    string_bytes l.into ++ shown_all (items_lines l.strings l.depth (data_of (drop l.value-index l.values)))
    ≡ string_bytes l.fn.into ++ shown_all (items_lines l.strings l.depth (data_of l.values))
