use Rattle.std.proofs.Common.{◌≡◌, ◌++◌, ◌≤◌, length, take, drop}
use Rattle.js_tokens.specs.Heads.{with_heads, arrow_next}
use Rattle.js_tokens.proofs.HeadMarks.{Tell}
use Rattle.js_tokens.proofs.heads.mark_heads.Given as goal

-- the heads of the last tokens are marked
abbrev pub invariant-loop-left : goal.invariant-loop-left
invariant-loop-left l = record {
  items : l.tokens.items ≡ take l.left l.fn.tokens.items ++ with_heads (drop l.left l.fn.tokens.items);
  tell : Tell l.closers (drop l.left l.fn.tokens.items);
  next : l.arrow ≡ arrow_next (drop l.left l.fn.tokens.items);
  within : l.left ≤ length l.fn.tokens.items;
}

abbrev pub decreases-loop-left : goal.decreases-loop-left
decreases-loop-left l = l.left
