use Rattle.std.proofs.Common.{◌∙◌, ◌++◌, ap, arith}
use Rattle.bast_rows.specs.RowsOf.{rows_of}
use Rattle.bast_rows.proofs.rows.Rows.of.Goals as goal

pub finish-requires : goal.finish-requires
finish-requires c = record {
  tree = c.args.tree.now;
  are = record {
    rows = c.put_node.ensures.rows ∙ ap (λ rs. rs ++ rows_of c.args.tree.now) c.in_ok-room.ensures.0;
    typed = c.kind-kind.ensures.typed;
    depth = omega (arith, c.depth-depth.ensures.depth, c.depth-depth.ensures.most);
  };
}

pub returns : goal.returns
returns c = c.finish.ensures.is c.args.tree.now (record {
  rows = c.put_node.ensures.rows ∙ ap (λ rs. rs ++ rows_of c.args.tree.now) c.in_ok-room.ensures.0;
  typed = c.kind-kind.ensures.typed;
  depth = omega (arith, c.depth-depth.ensures.depth, c.depth-depth.ensures.most);
})
