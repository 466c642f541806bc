use Rattle.std.proofs.Common.{arith, sym, subst, ◌≡◌, ◌≤◌, ◌<◌, ℕ, List, Some}
use Rattle.std.proofs.lemmas.List.{take_all, take_more}
use Rattle.std.proofs.lemmas.Result.{err_from_is_err_and}
use Rattle.bast_schema.specs.declared.kind.FieldType.{FieldType}
use Rattle.bast_schema.specs.declared.kind.FieldType.TheVariants as field
use Rattle.bast_schema.specs.declared.kind.Union.TheVariants.{Body}
use Rattle.bast_schema.specs.Fields.{fields}
use Rattle.bast_schema.specs.Made.{node_of}
use Rattle.bast_schema.specs.Tree.{Tree, branch, child, item_type}
use Rattle.bast_schema.specs.View.{data_of}
use Rattle.tree_decoder.specs.Dues.{below, dues, times}
use Rattle.tree_decoder.specs.Found.{Found, Run, Fails, Spent, SpentFails}
use Rattle.tree_decoder.specs.Range.{range_of}
use Rattle.tree_decoder.specs.Windows.{windows, windows_in}
use Rattle.tree_decoder.proofs.Machine.{kind_stands, count_stands}
use Rattle.tree_decoder.proofs.Nodes.{kind_read, node_found, absent_found, node_made, atom_fails, atom_spends, rest_fails, rest_spends, kind_atom, count_atom, spent_node, list_found, below_bounds, node_is, no_fault, chain_more, chain_run, chain_times, fails_at, spends_at, spent_more, stops_at, take_split, times_at}
use Rattle.tree_decoder.proofs.reading.+read.Goals as goal

-- ---- fields

pub fields-returns-in_err-value-clause-reads : goal.fields-returns-in_err-value-clause-reads
fields-returns-in_err-value-clause-reads g t c =
    let e = err_from_is_err_and c.from_residual.result c.from_residual.ensures.1 in
    let f = fails_at (range_of c.args.input.now) c.args.wanted.now _ _ _ c.args.depth c.args.inside c.args.at c.loop-one.next (data_of c.loop-one.values.items) c.in_err-value.field-0.0 (take_split c.args.wanted.now c.loop-one.one-index (field.Node Body) c.loop-one-test.true) c.requires.depth.1 c.requires.at c.loop-one.invariant.chain c.in_err-value.ensures.reads in
    rw (e.1, e.2) f

pub fields-returns-in_err-value-clause-spends : goal.fields-returns-in_err-value-clause-spends
fields-returns-in_err-value-clause-spends g t c =
    let e = err_from_is_err_and c.from_residual.result c.from_residual.ensures.1 in
    let f = spends_at (range_of c.args.input.now) c.args.wanted.now _ _ _ c.args.depth c.args.inside c.args.at c.loop-one.next (data_of c.loop-one.values.items) c.args.steps.now c.loop-one.steps c.value.new.steps (take_split c.args.wanted.now c.loop-one.one-index (field.Node Body) c.loop-one-test.true) c.requires.depth.1 c.requires.at c.loop-one.invariant.chain c.loop-one.invariant.spent c.in_err-value.ensures.spends in
    rw e.1 f

pub fields-returns-in_err-push-clause-spends : goal.fields-returns-in_err-push-clause-spends
fields-returns-in_err-push-clause-spends g t c =
    let e = err_from_is_err_and c.from_residual-in_err-push.result c.from_residual-in_err-push.ensures.1 in
    let f = stops_at (range_of c.args.input.now) c.args.wanted.now _ _ _ c.args.depth c.args.inside c.args.at c.loop-one.next c.in_ok-value.after c.loop-one.values.items c.in_ok-value.value c.args.steps.now c.loop-one.steps c.value.new.steps c.requires.sound (take_split c.args.wanted.now c.loop-one.one-index (field.Node Body) c.loop-one-test.true) c.requires.depth.1 c.requires.at c.loop-one.invariant.chain c.loop-one.invariant.spent c.in_ok-value.ensures.reads c.in_ok-value.ensures.spends in
    rw e.1 f

pub fields-loop-one-preserved : goal.fields-loop-one-preserved
fields-loop-one-preserved g t c =
    let found = c.in_ok-value.ensures.reads in
    let on : c.args.at ≤ c.loop-one.next = c.loop-one.invariant.forward in
    let ahead : c.loop-one.next < c.in_ok-value.after = found.forward in
    let before : c.args.steps.now ≤ c.loop-one.steps = c.loop-one.invariant.later in
    let later : c.loop-one.steps ≤ c.value.new.steps = c.in_ok-value.ensures.later in
    record {
      chain = rw (take_more c.args.wanted.now c.loop-one.one-index (field.Node Body) c.loop-one-test.true, c.in_ok-push.ensures.ok) (chain_more _ _ _ _ _ _ _ _ c.loop-one.values.items c.in_ok-value.value c.loop-one.invariant.chain found);
      forward = omega arith;
      within = found.within;
      spent = rw c.in_ok-push.ensures.ok (spent_more c.loop-one.values.items c.in_ok-value.value c.args.at c.loop-one.next c.in_ok-value.after c.args.steps.now c.loop-one.steps c.value.new.steps on (omega arith) c.loop-one.invariant.spent c.in_ok-value.ensures.spends);
      later = omega arith;
    }

pub fields-returns-clause-reads : goal.fields-returns-clause-reads
fields-returns-clause-reads g t c =
    let all = take_all c.loop-one.one-index c.args.wanted.now (omega arith) in
    chain_run _ _ _ _ _ _ _ c.requires.depth.1 c.requires.at (rw all at c.loop-one.invariant.chain)

-- ---- items

pub items-returns-in_err-value-clause-reads : goal.items-returns-in_err-value-clause-reads
items-returns-in_err-value-clause-reads g t c =
    let e = err_from_is_err_and c.from_residual.result c.from_residual.ensures.1 in
    let f = fails_at (range_of c.args.input.now) (times c.args.count (item_type c.args.item c.args.holes)) _ _ _ c.args.depth c.args.inside c.args.at c.loop.next (data_of c.loop.values.items) c.in_err-value.field-0.0 (times_at c.args.count c.loop.counter (item_type c.args.item c.args.holes) c.loop-test.true) c.requires.depth.1 c.requires.at c.loop.invariant.chain c.in_err-value.ensures.reads in
    rw (e.1, e.2) f

pub items-returns-in_err-value-clause-spends : goal.items-returns-in_err-value-clause-spends
items-returns-in_err-value-clause-spends g t c =
    let e = err_from_is_err_and c.from_residual.result c.from_residual.ensures.1 in
    let f = spends_at (range_of c.args.input.now) (times c.args.count (item_type c.args.item c.args.holes)) _ _ _ c.args.depth c.args.inside c.args.at c.loop.next (data_of c.loop.values.items) c.args.steps.now c.loop.steps c.node.new.steps (times_at c.args.count c.loop.counter (item_type c.args.item c.args.holes) c.loop-test.true) c.requires.depth.1 c.requires.at c.loop.invariant.chain c.loop.invariant.spent c.in_err-value.ensures.spends in
    rw e.1 f

pub items-returns-in_err-push-clause-spends : goal.items-returns-in_err-push-clause-spends
items-returns-in_err-push-clause-spends g t c =
    let e = err_from_is_err_and c.from_residual-in_err-push.result c.from_residual-in_err-push.ensures.1 in
    let f = stops_at (range_of c.args.input.now) (times c.args.count (item_type c.args.item c.args.holes)) _ _ _ c.args.depth c.args.inside c.args.at c.loop.next c.in_ok-value.after c.loop.values.items c.in_ok-value.value c.args.steps.now c.loop.steps c.node.new.steps c.requires.sound (times_at c.args.count c.loop.counter (item_type c.args.item c.args.holes) c.loop-test.true) c.requires.depth.1 c.requires.at c.loop.invariant.chain c.loop.invariant.spent c.in_ok-value.ensures.reads c.in_ok-value.ensures.spends in
    rw e.1 f

pub items-loop-preserved : goal.items-loop-preserved
items-loop-preserved g t c =
    let found = c.in_ok-value.ensures.reads in
    let on : c.args.at ≤ c.loop.next = c.loop.invariant.forward in
    let ahead : c.loop.next < c.in_ok-value.after = found.forward in
    let before : c.args.steps.now ≤ c.loop.steps = c.loop.invariant.later in
    let later : c.loop.steps ≤ c.node.new.steps = c.in_ok-value.ensures.later in
    record {
      chain = rw c.in_ok-push.ensures.ok (chain_times _ _ _ _ _ _ _ _ c.loop.values.items c.in_ok-value.value c.loop.invariant.chain found);
      forward = omega arith;
      within = found.within;
      spent = rw c.in_ok-push.ensures.ok (spent_more c.loop.values.items c.in_ok-value.value c.args.at c.loop.next c.in_ok-value.after c.args.steps.now c.loop.steps c.node.new.steps on (omega arith) c.loop.invariant.spent c.in_ok-value.ensures.spends);
      later = omega arith;
    }

pub items-returns-clause-reads : goal.items-returns-clause-reads
items-returns-clause-reads g t c =
    let e : c.loop.counter ≡ c.args.count = omega arith in
    subst (λ (n : ℕ). Run (range_of c.args.input.now) (times n (item_type c.args.item c.args.holes)) c.args.depth c.args.inside c.args.at (data_of c.loop.values.items) c.loop.next) e
    (chain_run _ _ _ _ _ _ _ c.requires.depth.1 c.requires.at c.loop.invariant.chain)

-- ---- lists

pub list-returns-in-Err-clause-reads : goal.list-returns-in-Err-clause-reads
list-returns-in-Err-clause-reads g t c = atom_fails (range_of c.args.input.now) (field.List c.args.item c.args.holes c.args.filled) c.args.depth c.args.inside c.args.at c.in-Err.fault c.requires.at (count_atom (range_of c.args.input.now) c.args.item c.args.holes c.args.filled c.args.depth c.args.inside c.args.at _ (sym c.in-Err.ensures.is))

pub list-returns-in-Err-clause-spends : goal.list-returns-in-Err-clause-spends
list-returns-in-Err-clause-spends g t c = atom_spends (range_of c.args.input.now) (field.List c.args.item c.args.holes c.args.filled) c.args.depth c.args.inside c.args.at c.in-Err.fault _ _ c.requires.at (count_atom (range_of c.args.input.now) c.args.item c.args.holes c.args.filled c.args.depth c.args.inside c.args.at _ (sym c.in-Err.ensures.is)) c.in-Err.ensures.cost

pub list-items-requires : goal.list-items-requires
list-items-requires g t c κs lives =
    let mv = count_stands (range_of c.args.input.now) c.args.filled c.args.at c.in-Ok.found c.requires.sound c.requires.at (sym c.in-Ok.ensures.is) in
    let forward : c.args.at < c.in-Ok.found.1 = mv.forward in
    let within : c.in-Ok.found.1 ≤ c.args.input.now.end = mv.within in
    (omega arith, (lives, (c.requires.sound, (within, c.requires.depth))))

pub list-returns-in_err-values-clause-reads : goal.list-returns-in_err-values-clause-reads
list-returns-in_err-values-clause-reads g t c =
    let e = err_from_is_err_and c.from_residual.result c.from_residual.ensures.1 in
    rw (e.1, e.2) (rest_fails (range_of c.args.input.now) (field.List c.args.item c.args.holes c.args.filled) c.args.depth c.args.inside c.args.at (dues (times c.in-Ok.found.0 (item_type c.args.item c.args.holes)) c.args.depth c.args.inside) c.in-Ok.found.1 c.in_err-values.field-0.0 c.requires.sound c.requires.at (count_atom (range_of c.args.input.now) c.args.item c.args.holes c.args.filled c.args.depth c.args.inside c.args.at _ (sym c.in-Ok.ensures.is)) c.in_err-values.ensures.reads)

pub list-returns-in_err-values-clause-spends : goal.list-returns-in_err-values-clause-spends
list-returns-in_err-values-clause-spends g t c =
    let e = err_from_is_err_and c.from_residual.result c.from_residual.ensures.1 in
    rw e.1 (rest_spends (range_of c.args.input.now) (field.List c.args.item c.args.holes c.args.filled) c.args.depth c.args.inside c.args.at (dues (times c.in-Ok.found.0 (item_type c.args.item c.args.holes)) c.args.depth c.args.inside) c.in-Ok.found.1 c.args.steps.now c.item_count.new.steps c.items.new.steps c.requires.sound c.requires.at (count_atom (range_of c.args.input.now) c.args.item c.args.holes c.args.filled c.args.depth c.args.inside c.args.at _ (sym c.in-Ok.ensures.is)) c.in-Ok.ensures.cost c.in_err-values.ensures.spends)

pub list-returns-clause-reads : goal.list-returns-clause-reads
list-returns-clause-reads g t c =
    rw c.of.ensures (list_found (range_of c.args.input.now) c.args.item c.args.holes c.args.filled c.args.depth c.args.inside c.args.at c.in-Ok.found.0 c.in-Ok.found.1 (data_of c.in_ok-values.values.items) c.in_ok-values.next c.requires.sound c.requires.at (sym c.in-Ok.ensures.is) c.in_ok-values.ensures.reads)

pub list-returns-clause-spends : goal.list-returns-clause-spends
list-returns-clause-spends g t c =
    let mv = count_stands (range_of c.args.input.now) c.args.filled c.args.at c.in-Ok.found c.requires.sound c.requires.at (sym c.in-Ok.ensures.is) in
    let forward : c.args.at < c.in-Ok.found.1 = mv.forward in
    rw c.of.ensures (spent_node (windows_in (data_of c.in_ok-values.values.items)) c.args.at c.in-Ok.found.1 c.in_ok-values.next c.args.steps.now c.item_count.new.steps c.items.new.steps (omega arith) c.in_ok-values.ensures.reads.forward c.in-Ok.ensures.cost c.in_ok-values.ensures.spends)

-- ---- nodes

pub node-returns-in-Err-clause-reads : goal.node-returns-in-Err-clause-reads
node-returns-in-Err-clause-reads g t c = atom_fails (range_of c.args.input.now) (item_type c.args.union c.args.optional) c.args.depth c.args.inside c.args.at c.in-Err.fault c.requires.at (kind_atom (range_of c.args.input.now) c.args.union c.args.optional c.args.depth c.args.inside c.args.at _ (sym c.in-Err.ensures.is))

pub node-returns-in-Err-clause-spends : goal.node-returns-in-Err-clause-spends
node-returns-in-Err-clause-spends g t c = atom_spends (range_of c.args.input.now) (item_type c.args.union c.args.optional) c.args.depth c.args.inside c.args.at c.in-Err.fault _ _ c.requires.at (kind_atom (range_of c.args.input.now) c.args.union c.args.optional c.args.depth c.args.inside c.args.at _ (sym c.in-Err.ensures.is)) c.in-Err.ensures.cost

pub node-returns-in_default-clause-reads : goal.node-returns-in_default-clause-reads
node-returns-in_default-clause-reads g t c =
    let e = kind_read _ c.in-Ok.found _ c.in-Ok.ensures.is c.in_default.is in
    absent_found (range_of c.args.input.now) c.args.union c.args.optional c.args.depth c.args.inside c.args.at c.in-Ok.found.1 c.requires.sound c.requires.at c.requires.depth.1 e

pub node-fields-requires : goal.node-fields-requires
node-fields-requires g t c κs lives =
    let e = kind_read _ c.in-Ok.found _ c.in-Ok.ensures.is c.in-Some.is in
    let mv = kind_stands (range_of c.args.input.now) c.args.union c.args.optional c.args.depth c.args.inside c.args.at (Some c.in-Some.kind, c.in-Ok.found.1) c.requires.sound c.requires.at e in
    let forward : c.args.at < c.in-Ok.found.1 = mv.forward in
    let within : c.in-Ok.found.1 ≤ c.args.input.now.end = mv.within in
    let bounds = below_bounds c.in-Some.kind c.args.depth c.requires.depth.0 c.requires.depth.1 mv.may.2 in
    (omega arith, (lives, (c.requires.sound, (within, rw c.depth_below-below.ensures bounds))))

pub node-returns-in_err-fields-clause-reads : goal.node-returns-in_err-fields-clause-reads
node-returns-in_err-fields-clause-reads g t c =
    let e = kind_read _ c.in-Ok.found _ c.in-Ok.ensures.is c.in-Some.is in
    let q = err_from_is_err_and c.from_residual.result c.from_residual.ensures.1 in
    let f = subst (λ (n : ℕ). Fails (range_of c.args.input.now) (dues (fields c.in-Some.kind) n c.args.inside) c.in-Ok.found.1 c.in_err-fields.field-0.0) c.depth_below-below.ensures (subst (λ (ts : List FieldType). Fails (range_of c.args.input.now) (dues ts c.depth_below-below.result c.args.inside) c.in-Ok.found.1 c.in_err-fields.field-0.0) c.fields_of.ensures.is c.in_err-fields.ensures.reads) in
    rw (q.1, q.2) (rest_fails (range_of c.args.input.now) (item_type c.args.union c.args.optional) c.args.depth c.args.inside c.args.at (dues (fields c.in-Some.kind) (below c.in-Some.kind c.args.depth) c.args.inside) c.in-Ok.found.1 c.in_err-fields.field-0.0 c.requires.sound c.requires.at (kind_atom (range_of c.args.input.now) c.args.union c.args.optional c.args.depth c.args.inside c.args.at _ e) f)

pub node-returns-in_err-fields-clause-spends : goal.node-returns-in_err-fields-clause-spends
node-returns-in_err-fields-clause-spends g t c =
    let e = kind_read _ c.in-Ok.found _ c.in-Ok.ensures.is c.in-Some.is in
    let q = err_from_is_err_and c.from_residual.result c.from_residual.ensures.1 in
    let f = subst (λ (n : ℕ). SpentFails (range_of c.args.input.now) (dues (fields c.in-Some.kind) n c.args.inside) c.in-Ok.found.1 c.node_kind.new.steps c.fields.new.steps) c.depth_below-below.ensures (subst (λ (ts : List FieldType). SpentFails (range_of c.args.input.now) (dues ts c.depth_below-below.result c.args.inside) c.in-Ok.found.1 c.node_kind.new.steps c.fields.new.steps) c.fields_of.ensures.is c.in_err-fields.ensures.spends) in
    rw q.1 (rest_spends (range_of c.args.input.now) (item_type c.args.union c.args.optional) c.args.depth c.args.inside c.args.at (dues (fields c.in-Some.kind) (below c.in-Some.kind c.args.depth) c.args.inside) c.in-Ok.found.1 c.args.steps.now c.node_kind.new.steps c.fields.new.steps c.requires.sound c.requires.at (kind_atom (range_of c.args.input.now) c.args.union c.args.optional c.args.depth c.args.inside c.args.at _ e) c.in-Ok.ensures.cost f)

pub node-unreachable-requires : goal.node-unreachable-requires
node-unreachable-requires g t c =
    let e = kind_read _ c.in-Ok.found _ c.in-Ok.ensures.is c.in-Some.is in
    let ds = data_of c.in_ok-fields.fields.items in
    let run = subst (λ (n : ℕ). Run (range_of c.args.input.now) (fields c.in-Some.kind) n c.args.inside c.in-Ok.found.1 (data_of c.in_ok-fields.fields.items) c.in_ok-fields.next) c.depth_below-below.ensures (subst (λ (ts : List FieldType). Run (range_of c.args.input.now) ts c.depth_below-below.result c.args.inside c.in-Ok.found.1 (data_of c.in_ok-fields.fields.items) c.in_ok-fields.next) c.fields_of.ensures.is c.in_ok-fields.ensures.reads) in
    no_fault c.in-Err-new.field-0 (branch c.in-Some.kind ds) (node_of c.in-Some.kind ds) c.in-Err-new.ensures (node_made (range_of c.args.input.now) c.args.union c.args.optional c.args.depth c.args.inside c.args.at c.in-Some.kind c.in-Ok.found.1 ds c.in_ok-fields.next c.requires.sound c.requires.at c.requires.depth.0 c.requires.depth.1 e run)

pub node-returns-clause-reads : goal.node-returns-clause-reads
node-returns-clause-reads g t c =
    let e = kind_read _ c.in-Ok.found _ c.in-Ok.ensures.is c.in-Some.is in
    let ds = data_of c.in_ok-fields.fields.items in
    let run = subst (λ (n : ℕ). Run (range_of c.args.input.now) (fields c.in-Some.kind) n c.args.inside c.in-Ok.found.1 (data_of c.in_ok-fields.fields.items) c.in_ok-fields.next) c.depth_below-below.ensures (subst (λ (ts : List FieldType). Run (range_of c.args.input.now) ts c.depth_below-below.result c.args.inside c.in-Ok.found.1 (data_of c.in_ok-fields.fields.items) c.in_ok-fields.next) c.fields_of.ensures.is c.in_ok-fields.ensures.reads) in
    let made = node_made (range_of c.args.input.now) c.args.union c.args.optional c.args.depth c.args.inside c.args.at c.in-Some.kind c.in-Ok.found.1 ds c.in_ok-fields.next c.requires.sound c.requires.at c.requires.depth.0 c.requires.depth.1 e run in
    let same : c.in-Ok-new.node ≡ branch c.in-Some.kind ds = node_is c.in-Ok-new.node (branch c.in-Some.kind ds) (node_of c.in-Some.kind ds) c.in-Ok-new.ensures made in
    subst (λ (x : Tree). Found (range_of c.args.input.now) (item_type c.args.union c.args.optional) c.args.depth c.args.inside c.args.at (child x) c.in_ok-fields.next) (sym same)
    (node_found (range_of c.args.input.now) c.args.union c.args.optional c.args.depth c.args.inside c.args.at c.in-Some.kind c.in-Ok.found.1 ds c.in_ok-fields.next c.requires.sound c.requires.at c.requires.depth.1 e run)

pub node-returns-clause-spends : goal.node-returns-clause-spends
node-returns-clause-spends g t c =
    let e = kind_read _ c.in-Ok.found _ c.in-Ok.ensures.is c.in-Some.is in
    let ds = data_of c.in_ok-fields.fields.items in
    let run = subst (λ (n : ℕ). Run (range_of c.args.input.now) (fields c.in-Some.kind) n c.args.inside c.in-Ok.found.1 (data_of c.in_ok-fields.fields.items) c.in_ok-fields.next) c.depth_below-below.ensures (subst (λ (ts : List FieldType). Run (range_of c.args.input.now) ts c.depth_below-below.result c.args.inside c.in-Ok.found.1 (data_of c.in_ok-fields.fields.items) c.in_ok-fields.next) c.fields_of.ensures.is c.in_ok-fields.ensures.reads) in
    let made = node_made (range_of c.args.input.now) c.args.union c.args.optional c.args.depth c.args.inside c.args.at c.in-Some.kind c.in-Ok.found.1 ds c.in_ok-fields.next c.requires.sound c.requires.at c.requires.depth.0 c.requires.depth.1 e run in
    let same : c.in-Ok-new.node ≡ branch c.in-Some.kind ds = node_is c.in-Ok-new.node (branch c.in-Some.kind ds) (node_of c.in-Some.kind ds) c.in-Ok-new.ensures made in
    let mv = kind_stands (range_of c.args.input.now) c.args.union c.args.optional c.args.depth c.args.inside c.args.at (Some c.in-Some.kind, c.in-Ok.found.1) c.requires.sound c.requires.at e in
    let forward : c.args.at < c.in-Ok.found.1 = mv.forward in
    subst (λ (x : Tree). Spent (windows x) c.args.at c.in_ok-fields.next c.args.steps.now c.fields.new.steps) (sym same)
    (spent_node (windows_in ds) c.args.at c.in-Ok.found.1 c.in_ok-fields.next c.args.steps.now c.node_kind.new.steps c.fields.new.steps (omega arith) run.forward c.in-Ok.ensures.cost c.in_ok-fields.ensures.spends)

pub value-returns-in_default : goal.value-returns-in_default
value-returns-in_default g t c = record { reads = c.single.ensures.reads c.args.depth c.args.inside c.requires.depth.1; spends = c.single.ensures.spends c.args.depth c.args.inside; later = c.single.ensures.later }
