use Rattle.std.proofs.Common.{◌+◌, ◌<◌, ◌≤◌, ◌*◌, length, take, sym, subst, rules, arith}
use Rattle.js_parser.specs.Leaves.{AreLeaves}
use Rattle.js_parser.proofs.LeafLists.{next_leaf, next_table, grows_on}
use Rattle.js_parser.proofs.leaves.leaves_of.Goals as goal

pub loop-token-preserved : goal.loop-token-preserved
loop-token-preserved c =
    let below : c.loop-token.token-index < length c.args.tokens.now = search rules in
    let now : length c.loop-token.strings ≤ length c.args.strings.now + 2 * c.loop-token.token-index = c.loop-token.invariant.few in
    let more : length c.leaf_of.new.strings ≤ length c.loop-token.strings + 2 = c.leaf_of.ensures.few in
    record {
      are = subst (λ ls. AreLeaves c.args.text.now c.leaf_of.new.strings (take (c.loop-token.token-index + 1) c.args.tokens.now) ls) (sym c.in_ok-push.ensures.items)
          (next_leaf c.args.text.now c.loop-token.strings c.leaf_of.new.strings c.args.tokens.now c.loop-token.token-index _ c.loop-token.leaves.items c.in_ok-leaf.leaf below c.leaf_of.ensures.grows c.loop-token.invariant.are c.in_ok-leaf.ensures.leaf);
      table = next_table c.args.text.now c.loop-token.strings c.leaf_of.new.strings c.args.strings.now c.args.tokens.now c.loop-token.token-index _ below c.in_ok-leaf.ensures.table c.loop-token.invariant.table;
      grows = grows_on c.args.strings.now c.loop-token.strings c.leaf_of.new.strings c.loop-token.invariant.grows c.leaf_of.ensures.grows;
      few = omega (arith, now, more);
    }
