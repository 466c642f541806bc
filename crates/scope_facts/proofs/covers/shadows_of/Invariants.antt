use Rattle.std.proofs.Common.{◌≡◌, take}
use Rattle.scope_facts.specs.Covers.{cover_of, shadows_among}
use Rattle.scope_facts.proofs.covers.shadows_of.Given as goal

abbrev pub invariant-loop-name : goal.invariant-loop-name
invariant-loop-name l = l.shadows.items ≡ shadows_among (cover_of l.covers) (take l.name-index l.names)
