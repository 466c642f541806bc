use Rattle.std.proofs.Common.{◌∙◌, sym, ap, Ok}
use Rattle.js_tree.proofs.StatementLists.{turn_directive, turn_behind, parted_of}
use Rattle.js_tree.proofs.statements.directives.Goals as goal

pub loop-raw-preserved : goal.loop-raw-preserved
loop-raw-preserved c = (
  turn_directive _ _ c.in-Some.raw _ _ c.in-Some.ensures.raw c.in-Some.ensures.behind c.in_ok-push_directive.ensures ∙ c.loop-raw.invariant.0,
  turn_behind _ _ c.in-Some.raw c.in-Some.ensures.raw c.in-Some.ensures.behind ∙ c.loop-raw.invariant.1,
)

pub returns : goal.returns
returns c = parted_of c.args.items.now _ _ _ c.loop-raw.invariant.0 c.loop-raw.invariant.1 c.in_default.ensures.raw c.in_default.ensures.behind ∙ ap (λ r. Ok (r, c.next_directive.new.self)) (sym c.of.ensures)
