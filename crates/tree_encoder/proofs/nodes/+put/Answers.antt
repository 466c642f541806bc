use Rattle.std.proofs.Common.{ℕ, ◌<◌, length, sym, ap, arith, List}
use Rattle.std.proofs.lemmas.Result.{err_from_is_err_and}
use Rattle.bast_schema.specs.declared.kind.FieldType.TheVariants as field
use Rattle.bast_schema.specs.declared.kind.Union.TheVariants.{Body}
use Rattle.bast_schema.specs.View.{data_of}
use Rattle.bast_schema.proofs.Lists.{weight_member, count_data_of}
use Rattle.container.specs.Atoms.{atoms_of_fields, atoms_of_items}
use Rattle.container.proofs.Fields.{atoms_of_fields_past}
use Rattle.tree_encoder.specs.File.{texts_held}
use Rattle.tree_encoder.specs.Writing.{so_far, written}
use Rattle.tree_encoder.proofs.Walk.{fields_split, items_split, list_fails, list_more, long_list, node_fails, plain_next, puts_fail, puts_next}
use Rattle.tree_encoder.proofs.nodes.+put.Goals as goal

-- ---- fields

pub put_fields-returns-then-at-values-clause-puts : goal.put_fields-returns-then-at-values-clause-puts
put_fields-returns-then-at-values-clause-puts t c =
    rw (atoms_of_fields_past (texts_held c.args.strings.now) c.args.wanted.now c.args.values.now c.loop-at.at c.if-at-values.true) at c.loop-at.invariant.1

pub put_fields-put_value-requires : goal.put_fields-put_value-requires
put_fields-put_value-requires t c =
    let h = texts_held c.args.strings.now
    in let within : c.loop-at.at < length c.args.values.now = omega arith
    in let split = fields_split h c.args.wanted.now c.args.values.now c.loop-at.at (field.Node Body) c.index-values-at.result c.loop-at-test.true within c.index-values-at.is
    in (
      omega (arith, weight_member c.args.values.now c.loop-at.at c.index-values-at.result c.index-values-at.is within),
      ((plain_next split c.loop-at.invariant.2).0, c.loop-at.invariant.3),
    )

pub put_fields-returns-in_err-put_value-clause-puts : goal.put_fields-returns-in_err-put_value-clause-puts
put_fields-returns-in_err-put_value-clause-puts t c =
    let e = err_from_is_err_and c.from_residual.result c.from_residual.ensures.1
    in let h = texts_held c.args.strings.now
    in let within : c.loop-at.at < length c.args.values.now = omega arith
    in let split = fields_split h c.args.wanted.now c.args.values.now c.loop-at.at (field.Node Body) c.index-values-at.result c.loop-at-test.true within c.index-values-at.is
    in rw (e.1, e.2) (puts_fail c.in_err-put_value.field-0.0 (so_far c.args.into.now) (so_far c.loop-at.into) (so_far c.put_value.new.into) (so_far c.put_value.new.into) (atoms_of_fields h c.args.wanted.now (data_of c.args.values.now)) split c.loop-at.invariant.1 c.in_err-put_value.ensures.puts)

pub put_fields-loop-at-preserved : goal.put_fields-loop-at-preserved
put_fields-loop-at-preserved t c =
    let h = texts_held c.args.strings.now
    in let within : c.loop-at.at < length c.args.values.now = omega arith
    in let split = fields_split h c.args.wanted.now c.args.values.now c.loop-at.at (field.Node Body) c.index-values-at.result c.loop-at-test.true within c.index-values-at.is
    in (
      omega arith,
      puts_next (so_far c.put_value.new.into) (so_far c.loop-at.into) (written (so_far c.args.into.now) (atoms_of_fields h c.args.wanted.now (data_of c.args.values.now))) split c.in_ok-put_value.ensures.puts c.loop-at.invariant.1,
      (plain_next split c.loop-at.invariant.2).1,
      c.in_ok-put_value.ensures.sound,
    )

-- ---- items

pub put_items-put_value-requires : goal.put_items-put_value-requires
put_items-put_value-requires t c =
    let h = texts_held c.args.strings.now
    in let split = items_split h c.args.values.now c.loop-value.value-index c.value-item.result c.value-item.is c.loop-value-test.true
    in (
      omega (arith, weight_member c.args.values.now c.loop-value.value-index c.value-item.result c.value-item.is c.loop-value-test.true),
      ((plain_next split c.loop-value.invariant.1).0, c.loop-value.invariant.2),
    )

pub put_items-returns-in_err-put_value-clause-puts : goal.put_items-returns-in_err-put_value-clause-puts
put_items-returns-in_err-put_value-clause-puts t c =
    let e = err_from_is_err_and c.from_residual.result c.from_residual.ensures.1
    in let h = texts_held c.args.strings.now
    in let split = items_split h c.args.values.now c.loop-value.value-index c.value-item.result c.value-item.is c.loop-value-test.true
    in rw (e.1, e.2) (puts_fail c.in_err-put_value.field-0.0 (so_far c.args.into.now) (so_far c.loop-value.into) (so_far c.put_value.new.into) (so_far c.put_value.new.into) (atoms_of_items h (data_of c.args.values.now)) split c.loop-value.invariant.0 c.in_err-put_value.ensures.puts)

pub put_items-loop-value-preserved : goal.put_items-loop-value-preserved
put_items-loop-value-preserved t c =
    let h = texts_held c.args.strings.now
    in let split = items_split h c.args.values.now c.loop-value.value-index c.value-item.result c.value-item.is c.loop-value-test.true
    in (
      puts_next (so_far c.put_value.new.into) (so_far c.loop-value.into) (written (so_far c.args.into.now) (atoms_of_items h (data_of c.args.values.now))) split c.in_ok-put_value.ensures.puts c.loop-value.invariant.0,
      (plain_next split c.loop-value.invariant.1).1,
      c.in_ok-put_value.ensures.sound,
    )

-- ---- lists

pub put_list-returns-then-values-clause-puts : goal.put_list-returns-then-values-clause-puts
put_list-returns-then-values-clause-puts t c =
    long_list (so_far c.args.into.now) (texts_held c.args.strings.now) (data_of c.args.values.now) (rw (count_data_of c.args.values.now) (omega arith))

pub put_list-returns-in_err-put_number-clause-puts : goal.put_list-returns-in_err-put_number-clause-puts
put_list-returns-in_err-put_number-clause-puts t c =
    let e = err_from_is_err_and c.from_residual.result c.from_residual.ensures.1
    in rw (e.1, e.2) (list_fails c.in_err-put_number.field-0.0 c.put_number.result (so_far c.args.into.now) (record { tables = record { kinds = c.args.into.now.kinds; texts = c.args.into.now.texts }; bytes = c.put_number.new.into.items }) (texts_held c.args.strings.now) (data_of c.args.values.now) (length c.args.values.now) c.in_err-put_number.was (sym (count_data_of c.args.values.now)) c.put_number.ensures.large)

pub put_list-returns-clause-puts : goal.put_list-returns-clause-puts
put_list-returns-clause-puts t c =
    list_more c.put_items.result (so_far c.args.into.now) _ (so_far c.put_items.new.into) (texts_held c.args.strings.now) (data_of c.args.values.now) (length c.args.values.now) (sym (count_data_of c.args.values.now))
    (ap (λ (bytes : List ℕ). record { tables = record { kinds = c.args.into.now.kinds; texts = c.args.into.now.texts }; bytes = bytes }) c.in_ok-put_number.ensures.put) c.put_items.ensures.puts

-- ---- nodes

pub put_node-returns-in_err-put_kind-clause-puts : goal.put_node-returns-in_err-put_kind-clause-puts
put_node-returns-in_err-put_kind-clause-puts t c =
    let e = err_from_is_err_and c.from_residual.result c.from_residual.ensures.1
    in rw (e.1, e.2) (node_fails c.in_err-put_kind.field-0.0 (so_far c.args.into.now) (so_far c.put_kind.new.into) (so_far c.put_kind.new.into) (texts_held c.args.strings.now) c.args.node.now c.kind-kind.result c.kind-kind.ensures.kind c.in_err-put_kind.ensures.puts)
