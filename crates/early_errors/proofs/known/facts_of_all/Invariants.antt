use Rattle.std.proofs.Common.{◌≡◌, map, take}
use Rattle.early_errors.specs.TextFacts.{facts_of}
use Rattle.early_errors.proofs.known.facts_of_all.Given as goal

abbrev pub invariant-places : goal.invariant-places
invariant-places l = l.all.items ≡ map facts_of (take l.place l.strings)
