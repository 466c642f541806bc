use Rattle.std.proofs.Common.{◌≡◌, arith, ap, sym, ◌∙◌}
use Rattle.bast_schema.specs.Tree.{kind_of, nodes_in}
use Rattle.bast_schema.specs.View.{data_of}
use Rattle.bast_schema.proofs.Lists.{weight_member, data_of_drop}
use Rattle.early_errors.specs.Kinds.{role, places}
use Rattle.early_errors.specs.Around.{is_labelled, flags_in}
use Rattle.early_errors.proofs.Firsts.{node_more, labels_same, labels_new, walked_step}
use Rattle.early_errors.proofs.walk.+walk.Goals as goal

pub walk_node-returns-in_ok-labels : goal.walk_node-returns-in_ok-labels
walk_node-returns-in_ok-labels t c =
    let r : c.role_of-role.result ≡ role (kind_of c.args.node.now) = c.role_of-role.ensures ∙ ap role c.kind.ensures.kind
    in let ds = data_of c.fields-fields.result.now
    in rw (sym (node_more c.args.texts.now (record { flags = c.args.flags; labels = c.args.labels.now }) c.args.number c.args.node.now (kind_of c.args.node.now) ds c.flags_of_parts-flags.result c.deref.result.now c.places_of-places.result.now c.in_ok-violation.field-0
    c.fields-fields.ensures.tree
    c.in_default.is c.in_ok-violation.ensures
    (c.places_of-places.ensures ∙ ap places c.kind-2.ensures.kind)
    (c.flags_of_parts-flags.ensures ∙ ap (λ x. flags_in c.args.texts.now x ds c.args.flags) r)
    (c.deref.ensures.value ∙ c.in_ok-labels.ensures ∙ labels_new (role (kind_of c.args.node.now)) ds c.args.labels.now (sym (ap is_labelled r) ∙ sym c.is_label_of.ensures ∙ c.if-is_label_of.true)))) c.walk_values.ensures

pub walk_node-returns-else-is_label_of : goal.walk_node-returns-else-is_label_of
walk_node-returns-else-is_label_of t c =
    let r : c.role_of-role.result ≡ role (kind_of c.args.node.now) = c.role_of-role.ensures ∙ ap role c.kind.ensures.kind
    in let ds = data_of c.fields-fields.result.now
    in rw (sym (node_more c.args.texts.now (record { flags = c.args.flags; labels = c.args.labels.now }) c.args.number c.args.node.now (kind_of c.args.node.now) ds c.flags_of_parts-flags.result c.args.labels.now c.places_of-places.result.now c.in_ok-violation.field-0
    c.fields-fields.ensures.tree
    c.in_default.is c.in_ok-violation.ensures
    (c.places_of-places.ensures ∙ ap places c.kind-2.ensures.kind)
    (c.flags_of_parts-flags.ensures ∙ ap (λ x. flags_in c.args.texts.now x ds c.args.flags) r)
    (labels_same (role (kind_of c.args.node.now)) ds c.args.labels.now (sym (ap is_labelled r) ∙ sym c.is_label_of.ensures ∙ c.if-is_label_of.false)))) c.walk_values-else-is_label_of.ensures

pub walk_values-walk_value-requires : goal.walk_values-walk_value-requires
walk_values-walk_value-requires t c = (
  omega (arith, weight_member _ _ _ c.value-item.is c.loop-value-test.true),
  omega (arith, c.loop-value.invariant.number, ap nodes_in (data_of_drop _ _ _ c.value-item.is c.loop-value-test.true)),
)

pub walk_values-loop-value-preserved : goal.walk_values-loop-value-preserved
walk_values-loop-value-preserved t c =
    walked_step _ _ c.loop-value.left.now _ c.first_place-place.result c.loop-value.next c.in-Next.number _ _ _ _ _ _ c.flags_of_place.result c.labels_of_place.result.now c.in_ok-violation.field-0
    (data_of_drop _ _ _ c.value-item.is c.loop-value-test.true) c.loop-value.invariant c.first_place-place.ensures c.rest_of_places-left.ensures
    c.flags_of_place.ensures c.labels_of_place.ensures c.in_ok-violation.ensures c.in-Next.is
