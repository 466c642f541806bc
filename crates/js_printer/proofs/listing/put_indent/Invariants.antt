use Rattle.std.proofs.Common.{◌≡◌, ◌++◌, replicate, string_bytes}
use Rattle.js_printer.proofs.listing.put_indent.Given as goal

abbrev pub invariant-loop : goal.invariant-loop
invariant-loop l = string_bytes l.into ≡ string_bytes l.fn.into ++ replicate l.counter 32
