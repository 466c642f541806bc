use Rattle.std.proofs.Common.{◌≡◌, ◌++◌, false, length, string_bytes}
use Rattle.std.specs.Prelude.{encode_utf8_all}
use Rattle.js_tokens.specs.Values.{until, line_feeds}
use Rattle.js_tokens.proofs.values.with_line_feeds.Given as goal

abbrev pub invariant-loop-cursor : goal.invariant-loop-cursor
invariant-loop-cursor l = string_bytes l.raw ++ encode_utf8_all (line_feeds l.behind_return (until l.closing l.stop l.cursor.chars l.cursor.at)) ≡ encode_utf8_all (line_feeds false (until l.closing l.stop l.fn.cursor.chars l.fn.cursor.at))

abbrev pub decreases-loop-cursor : goal.decreases-loop-cursor
decreases-loop-cursor l = length l.cursor.chars
