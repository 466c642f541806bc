use Rattle.std.proofs.Common.{◌≡◌, ◌++◌, length, string_bytes}
use Rattle.std.specs.Prelude.{encode_utf8_all}
use Rattle.js_tokens.specs.Values.{until}
use Rattle.js_tokens.proofs.values.unchanged.Given as goal

abbrev pub invariant-loop-cursor : goal.invariant-loop-cursor
invariant-loop-cursor l = string_bytes l.raw ++ encode_utf8_all (until l.closing l.stop l.cursor.chars l.cursor.at) ≡ encode_utf8_all (until l.closing l.stop l.fn.cursor.chars l.fn.cursor.at)

abbrev pub decreases-loop-cursor : goal.decreases-loop-cursor
decreases-loop-cursor l = length l.cursor.chars
