use Rattle.std.proofs.Common.{◌≡◌, ◌++◌, drop}
use Rattle.early_errors.specs.Declares.{var_of}
use Rattle.early_errors.proofs.declares.var_among.Given as goal

abbrev pub invariant-loop-name : goal.invariant-loop-name
invariant-loop-name l = l.names.items ++ var_of (drop l.name-index l.declared) ≡ var_of l.declared
