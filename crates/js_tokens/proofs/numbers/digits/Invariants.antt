use Rattle.std.proofs.Common.{◌≡◌, ◌^◌, ◌≤◌, length}
use Rattle.js_tokens.specs.Numbers.{digits_at}
use Rattle.js_tokens.proofs.numbers.digits.Given as goal

abbrev pub invariant-loop-c : goal.invariant-loop-c
invariant-loop-c l = record {
  value : digits_at l.base l.value l.cursor ≡ digits_at l.base l.first l.fn.cursor;
  bound : l.value ≤ 2 ^ 53;
  within : length l.cursor.chars ≤ length l.fn.cursor.chars;
}

abbrev pub decreases-loop-c : goal.decreases-loop-c
decreases-loop-c l = length l.cursor.chars
