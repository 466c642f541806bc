use Rattle.std.proofs.Common.{◌≡◌, ◌||◌, drop}
use Rattle.scope_check.specs.Entries.{is_among}
use Rattle.scope_check.specs.declared.entries.Key.{Key}
use Rattle.scope_check.proofs.entries.set_of.Given as goal

abbrev pub invariant-loop-key : goal.invariant-loop-key
invariant-loop-key l = (a : Key) → (is_among l.set.keys a || is_among (drop l.key-index l.list) a) ≡ is_among l.list a
