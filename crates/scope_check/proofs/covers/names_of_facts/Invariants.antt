use Rattle.std.proofs.Common.{◌≡◌, map, take}
use Rattle.scope_check.proofs.covers.names_of_facts.Given as goal

abbrev pub invariant-loop-fact : goal.invariant-loop-fact
invariant-loop-fact l = l.names.items ≡ map (λ f. f.name.0) (take l.fact-index l.facts)
