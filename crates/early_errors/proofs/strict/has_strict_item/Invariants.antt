use Rattle.std.proofs.Common.{◌≡◌, drop}
use Rattle.bast_schema.specs.View.{data_of}
use Rattle.early_errors.specs.Strict.{strict_items}
use Rattle.early_errors.proofs.strict.has_strict_item.Given as goal

abbrev pub invariant-loop-value : goal.invariant-loop-value
invariant-loop-value l = strict_items l.texts (data_of (drop l.value-index l.values)) ≡ strict_items l.texts (data_of l.values)
