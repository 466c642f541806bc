use Rattle.std.proofs.Common.{◌≡◌, ◌≤◌, ◌+◌, ◌*◌, take, drop, length}
use Rattle.js_parser.specs.Leaves.{AreLeaves, Grows, with_texts}
use Rattle.js_parser.proofs.leaves.leaves_of.Given as goal

abbrev pub invariant-loop-token : goal.invariant-loop-token
invariant-loop-token l = record {
  are : AreLeaves l.text l.strings (take l.token-index l.tokens) l.leaves.items;
  table : with_texts l.text l.strings (drop l.token-index l.tokens) ≡ with_texts l.text l.fn.strings l.tokens;
  grows : Grows l.fn.strings l.strings;
  few : length l.strings ≤ length l.fn.strings + 2 * l.token-index;
}
