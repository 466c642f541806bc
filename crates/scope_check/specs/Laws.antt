-- What holds of exact scopes.
use Rattle.std.specs.Prelude.{ℕ, true, ◌≡◌, List, [], Option}
use Rattle.bast_schema.specs.Tree.{Tree, typed}
use Rattle.scope_facts.specs.declared.context.Ctx.{Ctx}
use Rattle.scope_facts.specs.Exact.{exact}
use Rattle.scope_check.specs.Untrue.{untrue}

-- what exact scopes say is untrue nowhere, where no scope is around the tree: as in a script
abbrev pub ExactScopesAreTrue : Type 0
ExactScopesAreTrue = (texts : List (Option (List ℕ))) (c : Ctx) (t : Tree) → c.scopes ≡ [] → typed t ≡ true → untrue texts c (exact texts t) ≡ []
