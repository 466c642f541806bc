use Rattle.std.proofs.Common.{◌≡◌, ◌+◌, ◌-◌, ◌<◌, Ok, drop, length, reverse, subst, sym, arith}
use Rattle.std.proofs.lemmas.Result.{err_from_is_err_and}
use Rattle.js_tree.specs.Image.{image}
use Rattle.js_tree.specs.Nodes.{limited}
use Rattle.js_tree.proofs.Broken.{refused_at}
use Rattle.js_tree.proofs.build.build.Goals as goal

pub returns-in_err-build_event : goal.returns-in_err-build_event
returns-in_err-build_event c =
    let p = err_from_is_err_and c.from_residual.result c.from_residual.ensures.1 in
    let back : c.loop-left.left - 1 + 1 ≡ c.loop-left.left = omega arith in
    let below : c.loop-left.left - 1 < length c.args.events.now = omega arith in
    rw (p.1, p.2) (refused_at (reverse c.args.leaves.now.items) c.args.events.now (c.loop-left.left - 1) _ (reverse c.loop-left.leaves.items, c.loop-left.parts) c.in_err-build_event.field-0.0 below
    (subst (λ j. image limited (reverse c.args.leaves.now.items) (drop j c.args.events.now) ≡ Ok (reverse c.loop-left.leaves.items, c.loop-left.parts)) (sym back) c.loop-left.invariant.1) c.in_err-build_event.ensures)
