use Rattle.std.proofs.Common.{◌≡◌, ◌≤◌, length}
use Rattle.js_tokens.specs.Place.{past}
use Rattle.js_tokens.specs.Classes.{is_part}
use Rattle.js_tokens.proofs.scan.identifier_rest.Given as goal

abbrev pub invariant-loop-c : goal.invariant-loop-c
invariant-loop-c l = record { value : past is_part l.cursor ≡ past is_part l.initial.cursor; within : length l.cursor.chars ≤ length l.fn.cursor.chars }

abbrev pub decreases-loop-c : goal.decreases-loop-c
decreases-loop-c l = length l.cursor.chars
