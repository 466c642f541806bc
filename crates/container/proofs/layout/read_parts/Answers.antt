use Rattle.std.proofs.Common.{ℕ, ap, ◌∙◌, arith}
use Rattle.std.proofs.lemmas.Result.{err_from_is_err_and}
use Rattle.container.specs.Parts.{done_at}
use Rattle.container.proofs.LayoutLemmas.{layout_left, layout_stands}
use Rattle.container.proofs.LayoutSpelled.{layout_is_container}
use Rattle.container.proofs.OutsideLemmas.{outside_kinds, outside_read, outside_texts}
use Rattle.container.proofs.Reached.{behind_head, behind_grammar, behind_kinds, behind_strings, behind_texts, behind_tree, fails_in_kinds, fails_in_texts, stops_in_head, stops_in_grammar, stops_in_strings, stops_in_tree}
use Rattle.container.proofs.layout.read_parts.Goals as goal

pub returns-in_err-head-clause-layout : goal.returns-in_err-head-clause-layout
returns-in_err-head-clause-layout g c =
    let r = err_from_is_err_and c.from_residual.result c.from_residual.ensures.1 in
    rw (r.1, r.2) ((stops_in_head c.args.tape.now _ c.in_err-head.ensures.exact).layout)

pub returns-in_err-head-clause-cost : goal.returns-in_err-head-clause-cost
returns-in_err-head-clause-cost g c =
    let stops = (stops_in_head c.args.tape.now _ c.in_err-head.ensures.exact) in
    omega (arith, stops.all, c.in_err-head.ensures.most)

pub returns-in_err-from-clause-layout : goal.returns-in_err-from-clause-layout
returns-in_err-from-clause-layout g c =
    let at_grammar = behind_head c.args.tape.now c.in_ok-head.head c.in_ok-head.ensures.exact in
    let r = err_from_is_err_and c.from_residual-in_err-from.result c.from_residual-in_err-from.ensures.1 in
    rw (r.1, r.2) ((stops_in_grammar at_grammar _ c.in_err-from.ensures.exact).layout)

pub returns-in_err-from-clause-cost : goal.returns-in_err-from-clause-cost
returns-in_err-from-clause-cost g c =
    let at_grammar = behind_head c.args.tape.now c.in_ok-head.head c.in_ok-head.ensures.exact in
    let stops = (stops_in_grammar at_grammar _ c.in_err-from.ensures.exact) in
    omega (arith, stops.all, c.in_ok-head.ensures.cost, c.in_ok-head.ensures.within)

pub returns-in_err-kinds-clause-layout : goal.returns-in_err-kinds-clause-layout
returns-in_err-kinds-clause-layout g c =
    let at_grammar = behind_head c.args.tape.now c.in_ok-head.head c.in_ok-head.ensures.exact in
    let at_kinds = behind_grammar at_grammar (c.in_ok-from.from, c.in_ok-from.to) c.in_ok-from.ensures.exact in
    let r = err_from_is_err_and c.from_residual-in_err-kinds.result c.from_residual-in_err-kinds.ensures.1 in
    rw (r.1, r.2) (fails_in_kinds at_kinds _ c.in_err-kinds.ensures.exact)

pub returns-in_err-kinds-clause-cost : goal.returns-in_err-kinds-clause-cost
returns-in_err-kinds-clause-cost g c =
    let at_grammar = behind_head c.args.tape.now c.in_ok-head.head c.in_ok-head.ensures.exact in
    let at_kinds = behind_grammar at_grammar (c.in_ok-from.from, c.in_ok-from.to) c.in_ok-from.ensures.exact in
    omega (arith, outside_kinds c.args.tape.now (c.in_ok-from.from, c.in_ok-from.to) at_kinds.is c.in_ok-from.ensures.within.within, c.in_ok-head.ensures.cost, c.in_ok-head.ensures.within, c.in_ok-from.ensures.cost, c.in_ok-from.ensures.within.ahead, c.in_ok-from.ensures.within.order, c.in_ok-from.ensures.within.within)

pub returns-in_err-from-2-clause-layout : goal.returns-in_err-from-2-clause-layout
returns-in_err-from-2-clause-layout g c =
    let at_grammar = behind_head c.args.tape.now c.in_ok-head.head c.in_ok-head.ensures.exact in
    let at_kinds = behind_grammar at_grammar (c.in_ok-from.from, c.in_ok-from.to) c.in_ok-from.ensures.exact in
    let at_strings = behind_kinds at_kinds c.in_ok-kinds.kinds c.in_ok-kinds.ensures.exact in
    let r = err_from_is_err_and c.from_residual-in_err-from-2.result c.from_residual-in_err-from-2.ensures.1 in
    rw (r.1, r.2) ((stops_in_strings at_strings _ c.in_err-from-2.ensures.exact).layout)

pub returns-in_err-from-2-clause-cost : goal.returns-in_err-from-2-clause-cost
returns-in_err-from-2-clause-cost g c =
    let at_grammar = behind_head c.args.tape.now c.in_ok-head.head c.in_ok-head.ensures.exact in
    let at_kinds = behind_grammar at_grammar (c.in_ok-from.from, c.in_ok-from.to) c.in_ok-from.ensures.exact in
    let at_strings = behind_kinds at_kinds c.in_ok-kinds.kinds c.in_ok-kinds.ensures.exact in
    let stops = (stops_in_strings at_strings _ c.in_err-from-2.ensures.exact) in
    omega (arith, stops.all, c.in_ok-head.ensures.cost, c.in_ok-head.ensures.within, c.in_ok-from.ensures.cost, c.in_ok-from.ensures.within.ahead, c.in_ok-from.ensures.within.order, c.in_ok-from.ensures.within.within)

pub returns-in_err-strings-clause-layout : goal.returns-in_err-strings-clause-layout
returns-in_err-strings-clause-layout g c =
    let at_grammar = behind_head c.args.tape.now c.in_ok-head.head c.in_ok-head.ensures.exact in
    let at_kinds = behind_grammar at_grammar (c.in_ok-from.from, c.in_ok-from.to) c.in_ok-from.ensures.exact in
    let at_strings = behind_kinds at_kinds c.in_ok-kinds.kinds c.in_ok-kinds.ensures.exact in
    let at_texts = behind_strings at_strings (c.in_ok-from-2.from, c.in_ok-from-2.to) c.in_ok-from-2.ensures.exact in
    let r = err_from_is_err_and c.from_residual-in_err-strings.result c.from_residual-in_err-strings.ensures.1 in
    rw (r.1, r.2) (fails_in_texts at_texts _ c.in_err-strings.ensures.exact)

pub returns-in_err-strings-clause-cost : goal.returns-in_err-strings-clause-cost
returns-in_err-strings-clause-cost g c =
    let at_grammar = behind_head c.args.tape.now c.in_ok-head.head c.in_ok-head.ensures.exact in
    let at_kinds = behind_grammar at_grammar (c.in_ok-from.from, c.in_ok-from.to) c.in_ok-from.ensures.exact in
    let at_strings = behind_kinds at_kinds c.in_ok-kinds.kinds c.in_ok-kinds.ensures.exact in
    let at_texts = behind_strings at_strings (c.in_ok-from-2.from, c.in_ok-from-2.to) c.in_ok-from-2.ensures.exact in
    omega (arith, outside_texts c.args.tape.now c.in_ok-kinds.kinds (c.in_ok-from-2.from, c.in_ok-from-2.to) at_texts.is c.in_ok-from-2.ensures.within.within, c.in_ok-head.ensures.cost, c.in_ok-head.ensures.within, c.in_ok-from.ensures.cost, c.in_ok-from.ensures.within.ahead, c.in_ok-from.ensures.within.order, c.in_ok-from.ensures.within.within, c.in_ok-from-2.ensures.cost, c.in_ok-from-2.ensures.within.ahead, c.in_ok-from-2.ensures.within.order, c.in_ok-from-2.ensures.within.within)

pub returns-in_err-from-3-clause-layout : goal.returns-in_err-from-3-clause-layout
returns-in_err-from-3-clause-layout g c =
    let at_grammar = behind_head c.args.tape.now c.in_ok-head.head c.in_ok-head.ensures.exact in
    let at_kinds = behind_grammar at_grammar (c.in_ok-from.from, c.in_ok-from.to) c.in_ok-from.ensures.exact in
    let at_strings = behind_kinds at_kinds c.in_ok-kinds.kinds c.in_ok-kinds.ensures.exact in
    let at_texts = behind_strings at_strings (c.in_ok-from-2.from, c.in_ok-from-2.to) c.in_ok-from-2.ensures.exact in
    let at_tree = behind_texts at_texts c.in_ok-strings.strings c.in_ok-strings.ensures.exact in
    let r = err_from_is_err_and c.from_residual-in_err-from-3.result c.from_residual-in_err-from-3.ensures.1 in
    rw (r.1, r.2) ((stops_in_tree at_tree _ c.in_err-from-3.ensures.exact).layout)

pub returns-in_err-from-3-clause-cost : goal.returns-in_err-from-3-clause-cost
returns-in_err-from-3-clause-cost g c =
    let at_grammar = behind_head c.args.tape.now c.in_ok-head.head c.in_ok-head.ensures.exact in
    let at_kinds = behind_grammar at_grammar (c.in_ok-from.from, c.in_ok-from.to) c.in_ok-from.ensures.exact in
    let at_strings = behind_kinds at_kinds c.in_ok-kinds.kinds c.in_ok-kinds.ensures.exact in
    let at_texts = behind_strings at_strings (c.in_ok-from-2.from, c.in_ok-from-2.to) c.in_ok-from-2.ensures.exact in
    let at_tree = behind_texts at_texts c.in_ok-strings.strings c.in_ok-strings.ensures.exact in
    let stops = (stops_in_tree at_tree _ c.in_err-from-3.ensures.exact) in
    omega (arith, stops.all, c.in_ok-head.ensures.cost, c.in_ok-head.ensures.within, c.in_ok-from.ensures.cost, c.in_ok-from.ensures.within.ahead, c.in_ok-from.ensures.within.order, c.in_ok-from.ensures.within.within, c.in_ok-from-2.ensures.cost, c.in_ok-from-2.ensures.within.ahead, c.in_ok-from-2.ensures.within.order, c.in_ok-from-2.ensures.within.within)

pub returns-in_err-check_end-clause-layout : goal.returns-in_err-check_end-clause-layout
returns-in_err-check_end-clause-layout g c =
    let at_grammar = behind_head c.args.tape.now c.in_ok-head.head c.in_ok-head.ensures.exact in
    let at_kinds = behind_grammar at_grammar (c.in_ok-from.from, c.in_ok-from.to) c.in_ok-from.ensures.exact in
    let at_strings = behind_kinds at_kinds c.in_ok-kinds.kinds c.in_ok-kinds.ensures.exact in
    let at_texts = behind_strings at_strings (c.in_ok-from-2.from, c.in_ok-from-2.to) c.in_ok-from-2.ensures.exact in
    let at_tree = behind_texts at_texts c.in_ok-strings.strings c.in_ok-strings.ensures.exact in
    let whole = behind_tree at_tree (c.in_ok-from-3.from, c.in_ok-from-3.to) c.in_ok-from-3.ensures.exact in
    let r = err_from_is_err_and c.from_residual-in_err-check_end.result c.from_residual-in_err-check_end.ensures.1 in
    rw (r.1, r.2) (layout_left c.args.tape.now _ _ whole (c.in_err-check_end.ensures ∙ ap (λ (n : ℕ). done_at n c.in_ok-from-3.to) c.len.ensures.count))

pub returns-in_err-check_end-clause-cost : goal.returns-in_err-check_end-clause-cost
returns-in_err-check_end-clause-cost g c =
    let at_grammar = behind_head c.args.tape.now c.in_ok-head.head c.in_ok-head.ensures.exact in
    let at_kinds = behind_grammar at_grammar (c.in_ok-from.from, c.in_ok-from.to) c.in_ok-from.ensures.exact in
    let at_strings = behind_kinds at_kinds c.in_ok-kinds.kinds c.in_ok-kinds.ensures.exact in
    let at_texts = behind_strings at_strings (c.in_ok-from-2.from, c.in_ok-from-2.to) c.in_ok-from-2.ensures.exact in
    let at_tree = behind_texts at_texts c.in_ok-strings.strings c.in_ok-strings.ensures.exact in
    let whole = behind_tree at_tree (c.in_ok-from-3.from, c.in_ok-from-3.to) c.in_ok-from-3.ensures.exact in
    omega (arith, outside_read c.args.tape.now _ whole, c.in_ok-head.ensures.cost, c.in_ok-head.ensures.within, c.in_ok-from.ensures.cost, c.in_ok-from.ensures.within.ahead, c.in_ok-from.ensures.within.order, c.in_ok-from.ensures.within.within, c.in_ok-from-2.ensures.cost, c.in_ok-from-2.ensures.within.ahead, c.in_ok-from-2.ensures.within.order, c.in_ok-from-2.ensures.within.within, c.in_ok-from-3.ensures.cost, c.in_ok-from-3.ensures.within.ahead, c.in_ok-from-3.ensures.within.order, c.in_ok-from-3.ensures.within.within)

pub returns-clause-layout : goal.returns-clause-layout
returns-clause-layout g c =
    let at_grammar = behind_head c.args.tape.now c.in_ok-head.head c.in_ok-head.ensures.exact in
    let at_kinds = behind_grammar at_grammar (c.in_ok-from.from, c.in_ok-from.to) c.in_ok-from.ensures.exact in
    let at_strings = behind_kinds at_kinds c.in_ok-kinds.kinds c.in_ok-kinds.ensures.exact in
    let at_texts = behind_strings at_strings (c.in_ok-from-2.from, c.in_ok-from-2.to) c.in_ok-from-2.ensures.exact in
    let at_tree = behind_texts at_texts c.in_ok-strings.strings c.in_ok-strings.ensures.exact in
    let whole = behind_tree at_tree (c.in_ok-from-3.from, c.in_ok-from-3.to) c.in_ok-from-3.ensures.exact in
    layout_stands c.args.tape.now _ whole (c.in_ok-check_end.ensures ∙ ap (λ (n : ℕ). done_at n c.in_ok-from-3.to) c.len.ensures.count)

pub returns-clause-cost : goal.returns-clause-cost
returns-clause-cost g c =
    let at_grammar = behind_head c.args.tape.now c.in_ok-head.head c.in_ok-head.ensures.exact in
    let at_kinds = behind_grammar at_grammar (c.in_ok-from.from, c.in_ok-from.to) c.in_ok-from.ensures.exact in
    let at_strings = behind_kinds at_kinds c.in_ok-kinds.kinds c.in_ok-kinds.ensures.exact in
    let at_texts = behind_strings at_strings (c.in_ok-from-2.from, c.in_ok-from-2.to) c.in_ok-from-2.ensures.exact in
    let at_tree = behind_texts at_texts c.in_ok-strings.strings c.in_ok-strings.ensures.exact in
    let whole = behind_tree at_tree (c.in_ok-from-3.from, c.in_ok-from-3.to) c.in_ok-from-3.ensures.exact in
    omega (arith, outside_read c.args.tape.now _ whole, c.in_ok-head.ensures.cost, c.in_ok-head.ensures.within, c.in_ok-from.ensures.cost, c.in_ok-from.ensures.within.ahead, c.in_ok-from.ensures.within.order, c.in_ok-from.ensures.within.within, c.in_ok-from-2.ensures.cost, c.in_ok-from-2.ensures.within.ahead, c.in_ok-from-2.ensures.within.order, c.in_ok-from-2.ensures.within.within, c.in_ok-from-3.ensures.cost, c.in_ok-from-3.ensures.within.ahead, c.in_ok-from-3.ensures.within.order, c.in_ok-from-3.ensures.within.within)

pub read_section-requires : goal.read_section-requires
read_section-requires g c =
    c.in_ok-head.ensures.within

pub returns-clause-spelled : goal.returns-clause-spelled
returns-clause-spelled g c = layout_is_container c.args.tape.now _ c.len.ensures.bytes (returns-clause-layout g c)
