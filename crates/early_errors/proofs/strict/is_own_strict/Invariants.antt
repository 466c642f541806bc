use Rattle.std.proofs.Common.{◌≡◌, drop}
use Rattle.bast_schema.specs.View.{data_of}
use Rattle.early_errors.specs.Strict.{own_strict}
use Rattle.early_errors.proofs.strict.is_own_strict.Given as goal

abbrev pub invariant-loop-value : goal.invariant-loop-value
invariant-loop-value l = own_strict l.texts (data_of (drop l.value-index l.fields)) ≡ own_strict l.texts (data_of l.fields)
