use Rattle.std.proofs.Common.{◌≡◌, filter_map, drop}
use Rattle.early_errors.specs.Early.{broken, first}
use Rattle.early_errors.proofs.walk.first_of_rules.Given as goal

abbrev pub invariant-loop-rule : goal.invariant-loop-rule
invariant-loop-rule l = first (filter_map (broken l.texts l.number (record { flags = l.flags; labels = l.labels }) l.node) (drop l.rule-index l.order)) ≡ first (filter_map (broken l.texts l.number (record { flags = l.flags; labels = l.labels }) l.node) l.order)
