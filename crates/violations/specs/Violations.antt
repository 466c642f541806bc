-- The violations of a tree in a context: its early errors, and the places where what its scopes say is untrue.
use Rattle.std.specs.Prelude.{◌≡◌, ◌≤◌, ◌<◌, ◌⊎◌, ℕ, false, List, [], Option, Some, None, get_or, nat_lt, if◌then◌else◌}
use Rattle.std.specs.List.{Contains}
use denote.Enum.Declared.{tag_of}
use Rattle.bast_schema.specs.Tree.{Tree}
use Rattle.early_errors.specs.Early.{early, first}
use Rattle.scope_check.specs.Untrue.{untrue}
use Rattle.scope_facts.specs.contracts.context.Rule as rules
use Rattle.scope_facts.specs.declared.context.Ctx.{Ctx}
use Rattle.scope_facts.specs.declared.context.Rule.{Rule}
use Rattle.scope_facts.specs.declared.context.Violation.{Violation}

-- what is around a script: nothing
abbrev pub script : Ctx
script = record { strict = false; own_strict = false; unique = false; function = false; scopes = [] }

-- an early error of the tree, or a place of it where what its scopes say is untrue
abbrev pub IsViolation : List (Option (List ℕ)) → Ctx → Tree → Violation → Type 0
IsViolation texts c t v = Contains (early texts c t) v ⊎ Contains (untrue texts c t) v

-- the place of a rule in the order of the rules: the early errors come first
abbrev pub place_of : Rule → ℕ
place_of r = tag_of rules.the_type r

-- the text of a violation's name, where it has one
abbrev pub name_in : List (Option (List ℕ)) → Violation → Option (List ℕ)
name_in texts v = elim v.name [ Some n ↦ get_or texts n.0 None | None ↦ None ]

-- v stands at a lesser node than w, or at the same node by a rule that does not come after that of w
abbrev pub NotAfter : Violation → Violation → Type 0
NotAfter v w = (v.node < w.node) ⊎ ((v.node ≡ w.node) × (place_of v.rule ≤ place_of w.rule))

-- of an early error and an untrue place the one of the lesser node, and the early error where they stand at one node
abbrev pub sooner : Violation → Violation → Violation
sooner early scopes = if nat_lt scopes.node early.node then scopes else early

abbrev pub earlier : Option Violation → Option Violation → Option Violation
earlier None scopes = scopes
earlier (Some early) None = Some early
earlier (Some early) (Some scopes) = Some (sooner early scopes)

-- the first violation of a tree
abbrev pub first_violation : List (Option (List ℕ)) → Ctx → Tree → Option Violation
first_violation texts c t = earlier (first (early texts c t)) (first (untrue texts c t))
