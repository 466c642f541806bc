use Rattle.std.proofs.Common.{◌≡◌, ◌++◌, drop}
use Rattle.early_errors.specs.Declares.{lexical_of}
use Rattle.early_errors.proofs.declares.lexical_among.Given as goal

abbrev pub invariant-loop-name : goal.invariant-loop-name
invariant-loop-name l = l.names.items ++ lexical_of (drop l.name-index l.declared) ≡ lexical_of l.declared
