use Rattle.std.proofs.Common.{◌≡◌, ◌≤◌, ◌<◌, ◌+◌, ◌*◌, Ok, ap, sym, ◌∙◌, length, subst, arith}
use Rattle.bast_schema.specs.Counts.{size}
use Rattle.js_parser.proofs.LeafNames.{names_of}
use Rattle.js_tree.specs.Image.{tree_of}
use Rattle.js_tree.specs.Nodes.{limited}
use Rattle.js_tree_laws.proofs.Payments.{trees_are_small}
use Rattle.js_tree_laws.proofs.Scripts.{trees_are_scripts}
use Rattle.js_tree_laws.proofs.TreesHold.{trees_are_whole, trees_are_eager, trees_are_plain, trees_have_names, trees_are_shallow}
use Rattle.js_machine.specs.Machine.{Accepted, Ends}
use Rattle.js_parser.specs.Leaves.{AreLeaves}
use Rattle.js_tree.specs.Results.{Fails}
use Rattle.js_parser.proofs.Accepted.{never_broken}
use Rattle.js_parser.proofs.source.parse.Goals as goal

pub returns-in-Ok-build_tree-clause-script : goal.returns-in-Ok-build_tree-clause-script
returns-in-Ok-build_tree-clause-script c =
    trees_are_scripts c.args.text.now _ c.in-Ok-leaves_of.leaves.items c.in-Ok-derive.events.items c.in-Ok-build_tree.tree c.in-Ok-derive.ensures.accepted
    (subst (λ es. tree_of limited c.in-Ok-leaves_of.leaves.items es ≡ Ok c.in-Ok-build_tree.tree) c.deref-3.ensures.value c.in-Ok-build_tree.ensures)

pub returns-in-Ok-build_tree-clause-whole : goal.returns-in-Ok-build_tree-clause-whole
returns-in-Ok-build_tree-clause-whole c = trees_are_whole c.in-Ok-leaves_of.leaves.items c.deref-3.result.now c.in-Ok-build_tree.tree c.in-Ok-build_tree.ensures

pub returns-in-Ok-build_tree-clause-eager : goal.returns-in-Ok-build_tree-clause-eager
returns-in-Ok-build_tree-clause-eager c = trees_are_eager c.in-Ok-leaves_of.leaves.items c.deref-3.result.now c.in-Ok-build_tree.tree c.in-Ok-build_tree.ensures

pub returns-in-Ok-build_tree-clause-plain : goal.returns-in-Ok-build_tree-clause-plain
returns-in-Ok-build_tree-clause-plain c = trees_are_plain c.in-Ok-leaves_of.leaves.items c.deref-3.result.now c.in-Ok-build_tree.tree c.in-Ok-build_tree.ensures

pub returns-in-Ok-build_tree-clause-named : goal.returns-in-Ok-build_tree-clause-named
returns-in-Ok-build_tree-clause-named c =
    trees_have_names _ c.in-Ok-leaves_of.leaves.items c.deref-3.result.now c.in-Ok-build_tree.tree (names_of c.args.text.now c.leaves_of.new.strings _ c.in-Ok-leaves_of.leaves.items c.in-Ok-leaves_of.ensures.leaves) c.in-Ok-build_tree.ensures

pub returns-in-Ok-build_tree-clause-shallow : goal.returns-in-Ok-build_tree-clause-shallow
returns-in-Ok-build_tree-clause-shallow c = trees_are_shallow c.in-Ok-leaves_of.leaves.items c.deref-3.result.now c.in-Ok-build_tree.tree c.in-Ok-build_tree.ensures

pub returns-in-Ok-build_tree-clause-small : goal.returns-in-Ok-build_tree-clause-small
returns-in-Ok-build_tree-clause-small c =
    let few : length c.in-Ok.tokens.items ≤ length c.args.text.now + 1 = c.in-Ok.ensures.few in
    let same : length c.deref.result.now ≡ length c.in-Ok.tokens.items = ap length c.deref.ensures.value in
    let less : size c.in-Ok-build_tree.tree < 7 * length c.deref.result.now =
    trees_are_small c.args.text.now _ c.in-Ok-leaves_of.leaves.items c.in-Ok-derive.events.items c.in-Ok-build_tree.tree c.in-Ok-derive.ensures.accepted
    (subst (λ es. tree_of limited c.in-Ok-leaves_of.leaves.items es ≡ Ok c.in-Ok-build_tree.tree) c.deref-3.ensures.value c.in-Ok-build_tree.ensures) in
    omega (arith, few, same, less)

pub returns-in-Ok-build_tree-clause-size : goal.returns-in-Ok-build_tree-clause-size
returns-in-Ok-build_tree-clause-size c =
    let short : length c.args.text.now ≤ 8388608 = c.requires.size in
    let less : size c.in-Ok-build_tree.tree < 7 * (length c.args.text.now + 1) = returns-in-Ok-build_tree-clause-small c in
    omega (arith, short, less)

pub unreachable-requires : goal.unreachable-requires
unreachable-requires c =
    let ends = subst (λ ts. Ends c.args.text.now ts (Accepted c.in-Ok-derive.events.items)) c.deref.ensures.value c.in-Ok-derive.ensures.accepted in
    let leaves = subst (λ ts. AreLeaves c.args.text.now c.leaves_of.new.strings ts c.in-Ok-leaves_of.leaves.items) c.deref-2.ensures.value c.in-Ok-leaves_of.ensures.leaves in
    let broken = subst (λ e. Fails e (tree_of limited c.in-Ok-leaves_of.leaves.items c.deref-3.result.now)) c.in-Err-Broken.field-0-is c.in-Err-Broken.ensures in
    never_broken c.args.text.now c.leaves_of.new.strings c.in-Ok.tokens.items c.in-Ok-leaves_of.leaves.items c.in-Ok-derive.events.items c.in-Ok.ensures.tokens leaves ends
    (ap (tree_of limited c.in-Ok-leaves_of.leaves.items) (sym c.deref-3.ensures.value) ∙ broken)
