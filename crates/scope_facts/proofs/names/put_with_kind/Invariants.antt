use Rattle.std.proofs.Common.{◌≡◌, ◌++◌, drop}
use Rattle.scope_facts.specs.Names.{with_kind}
use Rattle.scope_facts.proofs.names.put_with_kind.Given as goal

abbrev pub invariant-loop-name : goal.invariant-loop-name
invariant-loop-name l = l.out.items ++ with_kind l.kind (drop l.name-index l.names) ≡ l.fn.out.items ++ with_kind l.kind l.names
