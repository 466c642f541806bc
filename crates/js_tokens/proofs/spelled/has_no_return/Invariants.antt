use Rattle.std.proofs.Common.{◌≡◌, length}
use Rattle.std.specs.Str.{chars, IsUtf8}
use Rattle.js_tokens.specs.Words.{each}
use Rattle.js_tokens.specs.Spelled.{is_no_return}
use Rattle.js_tokens.proofs.spelled.has_no_return.Given as goal

abbrev pub invariant-loop-c : goal.invariant-loop-c
invariant-loop-c l = record { utf8 : IsUtf8 l.rest; value : each is_no_return (chars l.rest) ≡ each is_no_return (chars l.text) }

abbrev pub decreases-loop-c : goal.decreases-loop-c
decreases-loop-c l = length l.rest
