-- The first violation by one recursion over the tree, with the covers of the names in place of frames.
use Rattle.std.specs.Prelude.{ℕ, Bool, true, ◌&&◌, ◌+◌, if◌then◌else◌, Option, None, Some, List, [], ◌∷◌}
use Rattle.bast_schema.specs.declared.kind.Kind.{Kind}
use Rattle.bast_schema.specs.Tree.{Tree, branch, Datum, child, listed, Data, none, more, nodes_at}
use Rattle.scope_facts.specs.declared.context.Rule.TheVariants.{A2}
use Rattle.scope_facts.specs.declared.context.ScopeFacts.{ScopeFacts}
use Rattle.scope_facts.specs.declared.context.Violation.{Violation}
use Rattle.scope_facts.specs.declared.roles.Part.{Part}
use Rattle.scope_facts.specs.declared.roles.Part.TheVariants.{Use}
use Rattle.scope_facts.specs.Covers.{inside_now}
use Rattle.scope_facts.specs.Names.{bound}
use Rattle.scope_facts.specs.Reading.{says_eval}
use Rattle.scope_facts.specs.Roles.{part}
use Rattle.scope_facts.specs.Uses.{is_scope, first_name}
use Rattle.scope_facts.specs.declared.covers.Cover.{Cover}
use Rattle.scope_check.specs.declared.walk.Step.{Step}
use Rattle.scope_check.specs.declared.walk.Step.TheVariants.{Found, Next}
use Rattle.scope_check.specs.Covers.{is_fine, entered, facts_of}
use Rattle.scope_check.specs.Untrue.{first, violation, untrue_eval, untrue_scope}

-- the first of two that there is
abbrev pub or_else : {A : Type 0} → Option A → Option A → Option A
or_else (Some x) o = Some x
or_else None o = o

abbrev pub is_fine_name : (ℕ → Option Cover) → ℕ → Option ℕ → Bool
is_fine_name c now None = true
is_fine_name c now (Some x) = is_fine now (c x)

abbrev pub is_fine_use : (ℕ → Option Cover) → ℕ → Part → Option ℕ → Bool
is_fine_use c now Use x = is_fine_name c now x
is_fine_use c now _ x = true

abbrev pub least_use : (ℕ → Option Cover) → ℕ → ℕ → Kind → Data → Option Violation
least_use c now n k ds = if is_fine_use c now (part k) (first_name ds) then None else Some (violation n A2 (first_name ds))

-- the violation at a node itself
abbrev pub least_own : Option ℕ → (ℕ → Option Cover) → ℕ → Bool → ℕ → Kind → Data → Option Violation
least_own e c now told n k ds = or_else (least_use c now n k ds) (first (untrue_eval e told n k ds))

abbrev mutual
  pub least : Option ℕ → (ℕ → Option Cover) → ℕ → Bool → ℕ → Tree → Option Violation
  least e c now told n (branch k ds) = or_else (least_own e c now told n k ds) (least_in e c (inside_now (part k) now) told (bound ds) (n + 1) ds)

  pub least_at : Option ℕ → (ℕ → Option Cover) → ℕ → Bool → ℕ → Datum → Option Violation
  least_at e c now told n (child t) = least e c now told n t
  least_at e c now told n (listed ds) = least_among e c now told n ds
  least_at e c now told n _ = None

  pub least_in : Option ℕ → (ℕ → Option Cover) → ℕ → Bool → List ℕ → ℕ → Data → Option Violation
  least_in e c now told names n none = None
  least_in e c now told names n (more d ds) =
      if is_scope d then or_else (first (untrue_scope n names d ds)) (least_in e (λ x. entered now (facts_of d) x (c x)) now (told && says_eval d) names (n + nodes_at d) ds)
      else or_else (least_at e c now told n d) (least_in e c now told names (n + nodes_at d) ds)

  pub least_among : Option ℕ → (ℕ → Option Cover) → ℕ → Bool → ℕ → Data → Option Violation
  least_among e c now told n none = None
  least_among e c now told n (more d ds) = or_else (least_at e c now told n d) (least_among e c now told (n + nodes_at d) ds)

-- what a walk tells that ends at a number
abbrev pub told_step : Option Violation → ℕ → Step
told_step (Some v) n = Found v
told_step None n = Next n

-- the cover of a name inside the scopes of a context, outermost first, where it was this
abbrev pub cover_start : List ScopeFacts → ℕ → Option Cover → Option Cover
cover_start [] x o = o
cover_start (s ∷ ss) x o = cover_start ss x (entered 0 s.names x o)
