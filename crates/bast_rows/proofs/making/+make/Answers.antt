use Rattle.std.proofs.Common.{◌≡◌, ap, sym, ◌∙◌, arith}
use Rattle.bast_schema.specs.Counts.{join}
use Rattle.bast_schema.specs.Tree.{none, more, depth_in, weight_in}
use Rattle.bast_schema.specs.View.{data_of}
use Rattle.bast_schema.proofs.Sums.{join_none}
use Rattle.bast_rows.specs.Siblings.{datum_of}
use Rattle.bast_rows.proofs.Remaking.{node_is, no_fault, goes_on}
use Rattle.bast_rows.proofs.making.+make.Goals as goal

pub make_node-make_values-requires : goal.make_node-make_values-requires
make_node-make_values-requires g t c κs lives = (omega arith, (lives, (omega (arith, c.requires.depth))))

pub make_node-unreachable-requires : goal.make_node-unreachable-requires
make_node-unreachable-requires g t c = no_fault c.args.kind (g.S.Siblings.seen c.args.values) (data_of c.in_ok-fields.fields.items) c.in-Err.field-0 c.in_ok-fields.ensures c.requires.typed c.requires.depth c.in-Err.ensures

pub make_node-returns : goal.make_node-returns
make_node-returns g t c = node_is c.args.kind (g.S.Siblings.seen c.args.values) (data_of c.in_ok-fields.fields.items) c.in-Ok.node c.in_ok-fields.ensures c.requires.typed c.requires.depth c.in-Ok.ensures

pub make_values-loop-sibling-preserved : goal.make_values-loop-sibling-preserved
make_values-loop-sibling-preserved g t c =
    let d = datum_of g.S.Siblings.seen c.in-Some.sibling
    in let ds = g.S.Siblings.seen c.step.new.self
    in let inv = c.loop-sibling.invariant
    in let e : g.S.Siblings.seen c.loop-sibling.values ≡ more (datum_of g.S.Siblings.seen c.in-Some.sibling) (g.S.Siblings.seen c.step.new.self) = c.in-Some.ensures.values
    in (
      ap (λ xs. join (data_of xs) (g.S.Siblings.seen c.step.new.self)) c.in_ok-push.ensures.items ∙ goes_on c.loop-sibling.made.items c.in_ok-make_value.field-0 d _ ds _ c.in_ok-make_value.ensures e inv.0,
      omega (arith, ap depth_in e, inv.1),
      omega (arith, ap weight_in e, inv.2),
    )

pub make_values-returns : goal.make_values-returns
make_values-returns g t c =
    let e : g.S.Siblings.seen c.loop-sibling.values ≡ none = c.in_default.ensures.values
    in sym (join_none (data_of c.loop-sibling.made.items)) ∙ ap (join (data_of c.loop-sibling.made.items)) (sym e) ∙ c.loop-sibling.invariant.0
