use Rattle.std.proofs.Common.{◌≡◌, [], ◌∷◌, ◌++◌, ◌<◌, ◌+◌, ◌^◌, ◌-◌, length, drop, get_or, sym, ap, ◌∙◌, arith, string_bytes, lit≤, min}
use Rattle.bast_schema.specs.declared.kind.FieldType.TheVariants as field
use Rattle.bast_schema.specs.declared.kind.Union.TheVariants.{Body}
use Rattle.bast_schema.specs.Fields.{fields, field_names}
use Rattle.bast_schema.specs.Tree.{branch}
use Rattle.bast_schema.specs.View.{datum, data_of}
use Rattle.bast_schema.proofs.Lists.{weight_member}
use Rattle.js_printer.specs.Listing.{field_lines, fields_lines, items_lines, shown_all, line}
use Rattle.js_printer.proofs.Listed.{fields_drop, fit_length, fits_here, goes_on, list_left, named_member, node_left, saturated, whole_member}
use Rattle.js_printer.proofs.listing.+listing.Goals as goal

pub put_node-returns : goal.put_node-returns
put_node-returns t c =
    let head = c.args.name.now ++ c.args.mark.now
    in let tree = ap (λ k. branch k (data_of c.fields.result.now)) c.kind-kind.ensures.kind ∙ c.fields.ensures.tree
    in let deeper = ap (λ e. min e 16) c.saturating_add.ensures ∙ saturated c.args.depth (2 ^ 32 - 1) (lit≤ tt)
    in let put = c.in_ok-put_line.ensures ∙ ap (λ n. string_bytes c.args.into.now ++ shown_all (line c.args.depth (head ++ n) ∷ [])) c.name_of.ensures
    in let left = node_left c.args.strings.now c.args.depth c.saturating_add.result head c.kind-kind.result c.fields.result.now c.args.node.now (string_bytes c.args.into.now) (string_bytes c.put_line.new.into) tree deeper put
    in rw left c.put_fields.ensures

pub put_fields-bounds-values-at : goal.put_fields-bounds-values-at
put_fields-bounds-values-at t c =
    let counts = fit_length (fields c.args.kind) c.args.values.now c.requires.typed
    in let is = ap length c.fields_of-wanted.ensures.is
    in omega arith

pub put_fields-put_field-requires : goal.put_fields-put_field-requires
put_fields-put_field-requires t c =
    let counts = fit_length (fields c.args.kind) c.args.values.now c.requires.typed
    in let is = ap length c.fields_of-wanted.ensures.is
    in let within : c.loop-at.at < length c.args.values.now = omega arith
    in (
      omega (arith, weight_member c.args.values.now c.loop-at.at c.index-values-at.result c.index-values-at.is within),
      (
        fits_here (fields c.args.kind) c.fields_of-wanted.result.now c.args.values.now c.loop-at.at (field.Node Body) c.index-values-at.result c.fields_of-wanted.ensures.is c.requires.typed c.loop-at-test.true within c.index-values-at.is,
        (
          whole_member c.args.values.now c.loop-at.at c.index-values-at.result c.index-values-at.is within c.requires.whole,
          named_member c.args.strings.now c.args.values.now c.loop-at.at c.index-values-at.result c.index-values-at.is within c.requires.names,
        ),
      ),
    )

pub put_fields-loop-at-preserved : goal.put_fields-loop-at-preserved
put_fields-loop-at-preserved t c =
    let ts = fields c.args.kind
    in let ns = field_names c.args.kind
    in let vs = c.args.values.now
    in let s = c.args.strings.now
    in let d = c.args.depth
    in let i = c.loop-at.at
    in let v = c.index-values-at.result
    in let n = c.field_name-name.result.now
    in let counts = fit_length ts vs c.requires.typed
    in let same = c.fields_of-wanted.ensures.is
    in let is = ap length same
    in let within : i < length vs = omega arith
    in let less : i < length ts = omega arith
    in let next = shown_all (field_lines s d (get_or c.fields_of-wanted.result.now i (field.Node Body)) n (datum v))
    in let rest = shown_all (fields_lines s d (drop (i + 1) ts) (drop (i + 1) ns) (data_of (drop (i + 1) vs)))
    in let split = fields_drop s d ts ns vs i (field.Node Body) n v less c.field_name-name.ensures within c.index-values-at.is
    ∙ ap (λ us. shown_all (field_lines s d (get_or us i (field.Node Body)) n (datum v)) ++ rest) (sym same)
    in goes_on (string_bytes c.put_field.new.into) (string_bytes c.loop-at.into) next rest (shown_all (fields_lines s d (drop i ts) (drop i ns) (data_of (drop i vs)))) (string_bytes c.args.into.now ++ shown_all (fields_lines s d ts ns (data_of vs))) c.in_ok-put_field.ensures split c.loop-at.invariant

pub put_items-put_item-requires : goal.put_items-put_item-requires
put_items-put_item-requires t c = (
  omega (arith, weight_member c.args.values.now c.loop-value.value-index c.value-item.result c.value-item.is c.loop-value-test.true),
  (
    whole_member c.args.values.now c.loop-value.value-index c.value-item.result c.value-item.is c.loop-value-test.true c.requires.whole,
    named_member c.args.strings.now c.args.values.now c.loop-value.value-index c.value-item.result c.value-item.is c.loop-value-test.true c.requires.names,
  ),
)

pub put_field-returns-in_ok-put_count-in-List : goal.put_field-returns-in_ok-put_count-in-List
put_field-returns-in_ok-put_count-in-List t c =
    let s = c.args.strings.now
    in let items = c.as_slice-values.result.now
    in let deeper = ap (λ e. min e 16) c.saturating_add.ensures ∙ saturated c.args.depth (2 ^ 32 - 1) (lit≤ tt)
    in let left = list_left s c.args.depth c.saturating_add.result c.args.wanted c.args.name.now items c.in-List.values (string_bytes c.args.into.now) (string_bytes c.put_count.new.into) c.as_slice-values.ensures deeper c.in_ok-put_count-in-List.ensures
    in let is : string_bytes c.args.into.now ++ shown_all (field_lines s c.args.depth c.args.wanted c.args.name.now (datum c.args.value.now)) ≡ string_bytes c.put_count.new.into ++ shown_all (items_lines s c.saturating_add.result (data_of items)) = rw c.in-List.is left
    in rw is c.put_items.ensures
