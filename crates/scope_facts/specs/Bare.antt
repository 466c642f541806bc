-- A tree whose scopes say nothing, without lazy functions.
use Rattle.std.specs.Prelude.{false, if◌then◌else◌}
use Rattle.bast_schema.specs.declared.kind.Kind.{Kind}
use Rattle.bast_schema.specs.declared.kind.Kind.TheVariants.{EagerFunctionDeclaration, LazyFunctionDeclaration, EagerMethod, LazyMethod, EagerGetter, LazyGetter, EagerSetter, LazySetter, EagerFunctionExpression, LazyFunctionExpression}
use Rattle.bast_schema.specs.Tree.{Tree, branch, Datum, child, listed, flag, Data, none, more}
use Rattle.scope_facts.specs.declared.roles.Shape.{Shape}
use Rattle.scope_facts.specs.declared.roles.Shape.TheVariants.{Parameters}
use Rattle.scope_facts.specs.Roles.{shape_of}
use Rattle.scope_facts.specs.Uses.{is_scope}

-- the kind without its laziness
abbrev pub eager : Kind → Kind
eager LazyFunctionDeclaration = EagerFunctionDeclaration
eager LazyMethod = EagerMethod
eager LazyGetter = EagerGetter
eager LazySetter = EagerSetter
eager LazyFunctionExpression = EagerFunctionExpression
eager k = k

-- the fields of a scope that has no entry and no flag set
abbrev pub empty_fields : Shape → Data
empty_fields Parameters = more (listed none) (more (flag false) (more (flag false) none))
empty_fields _ = more (listed none) (more (flag false) none)

abbrev pub bare_scope : Datum → Datum
bare_scope (child (branch k ds)) = child (branch k (empty_fields (shape_of k)))
bare_scope d = d

abbrev mutual
  pub bare : Tree → Tree
  bare (branch k ds) = branch (eager k) (bare_in ds)

  pub bare_at : Datum → Datum
  bare_at (child t) = child (bare t)
  bare_at (listed ds) = listed (bare_in ds)
  bare_at d = d

  pub bare_in : Data → Data
  bare_in none = none
  bare_in (more d ds) = more (if is_scope d then bare_scope d else bare_at d) (bare_in ds)
