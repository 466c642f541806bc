use Rattle.std.proofs.Common.{arith, sym, ◌≡◌, None, Ok, true, false, Bool, ◌≤◌, ◌+◌, refl, if◌then◌else◌, nat_lt}
use Rattle.std.proofs.lemmas.Bool.Decides.{nat_tests}
use Rattle.bast_schema.specs.Fields.{fields}
use Rattle.bast_schema.specs.declared.kind.Kind.{Kind}
use Rattle.bast_schema.specs.Tree.{Tree, Data, branch, first_wrong, depth}
use Rattle.bast_schema.specs.View.{data_of}
use Rattle.bast_schema.specs.Made.{node_of, limited}
use Rattle.bast_schema.proofs.Lists.{fit_where_none_wrong}
use Rattle.bast_schema.proofs.node.Node.new.Goals as goal
use mir.Val.{bool_byte}

one_if : (b : Bool) → bool_byte b ≡ (if b then 1 else 0)
one_if true = refl
one_if false = refl

limited_within : (t : Tree) → depth t ≤ 512 → limited t ≡ Ok t
limited_within t h = let e : nat_lt 512 (depth t) ≡ false = grind (arith, nat_tests) in rw e refl

made : (k : Kind) (ds : Data) → first_wrong 0 (fields k) ds ≡ None → depth (branch k ds) ≤ 512 → Ok (branch k ds) ≡ node_of k ds
made k ds e h = rw e (sym (limited_within (branch k ds) h))

none_wrong : (c : goal.Else-depth-gt-DEPTH_LIMIT) → first_wrong 0 (fields c.args.kind) (data_of c.args.fields.items) ≡ None
none_wrong c = rw (sym c.fields_of.ensures.is, sym c.deref.ensures.value) (sym c.in_default.ensures)

depth_is : (c : goal.Else-depth-gt-DEPTH_LIMIT) → c.from.result + c.deepest.result ≡ depth (branch c.args.kind (data_of c.args.fields.items))
depth_is c = rw (c.from.ensures, one_if c.is_counted.result, c.is_counted.ensures, c.deepest.ensures.is, c.deref-2.ensures.value) refl

pub invariant_of-result : goal.invariant_of-result
invariant_of-result c = record {
  typed = fit_where_none_wrong 0 (fields c.args.kind) (data_of c.args.fields.items) (none_wrong c);
  depth = depth_is c;
  most = c.if-depth-gt-DEPTH_LIMIT.false;
}

pub returns : goal.returns
returns c = made c.args.kind (data_of c.args.fields.items) (none_wrong c) (rw (← (depth_is c)) c.if-depth-gt-DEPTH_LIMIT.false)
