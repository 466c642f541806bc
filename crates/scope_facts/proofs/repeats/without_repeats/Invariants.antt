use Rattle.std.proofs.Common.{◌≡◌, ◌++◌, [], drop}
use Rattle.std.specs.List.{list_any}
use Rattle.scope_facts.specs.declared.names.Declared.{Declared}
use Rattle.scope_facts.specs.Names.{once, same}
use Rattle.scope_facts.proofs.repeats.without_repeats.Given as goal

abbrev pub invariant-loop-name : goal.invariant-loop-name
invariant-loop-name l = record {
  listed : l.out.items ++ once l.out.items (drop l.name-index l.names) ≡ once [] l.names;
  seen : (a : Declared) → list_any (same a) l.seen.keys ≡ list_any (same a) l.out.items;
}
