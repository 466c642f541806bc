use Rattle.std.proofs.Common.{Bool, true, false, not, ◌≡◌, sym}
use Rattle.std.specs.List.{list_any}
use Rattle.scope_facts.specs.Names.{same}
use Rattle.scope_facts.proofs.Once.{once_new}
use Rattle.scope_facts.proofs.repeats.put_name.Goals as goal

none_there : (f x y : Bool) → f ≡ not x → f ≡ true → x ≡ y → y ≡ false
none_there f true y e t s = cc
none_there f false y e t s = sym s

pub returns-clause-names : goal.returns-clause-names
returns-clause-names c = λ others.
    let e : list_any (same c.args.name) c.args.names.now.items ≡ false = none_there _ _ _ c.in_ok-insert_name.ensures.is_new c.if-not-branch.false (c.requires c.args.name)
    in rw c.in_ok-push.ensures.items (sym (once_new c.args.name others c.args.names.now.items e))
