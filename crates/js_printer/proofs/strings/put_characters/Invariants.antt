use Rattle.std.proofs.Common.{◌≡◌, ◌++◌, string_bytes, flat_map}
use Rattle.js_printer.specs.StringForm.{escaped}
use Rattle.js_printer.proofs.strings.put_characters.Given as goal

abbrev pub invariant-loop-character : goal.invariant-loop-character
invariant-loop-character l = string_bytes l.into ≡ string_bytes l.fn.into ++ flat_map escaped l.yielded
