-- The first violation by one recursion over the tree.
use Rattle.std.specs.Prelude.{ℕ, Option, Some, None, List, [], ◌+◌, filter_map}
use Rattle.bast_schema.specs.Tree.{Tree, branch, Datum, child, listed, Data, none, more, nodes_at}
use Rattle.scope_facts.specs.declared.context.Violation.{Violation}
use Rattle.early_errors.specs.declared.kinds.Place.{Place}
use Rattle.early_errors.specs.declared.walk.Step.{Step}
use Rattle.early_errors.specs.declared.walk.Step.TheVariants.{Found, Next}
use Rattle.early_errors.specs.Kinds.{role, places}
use Rattle.early_errors.specs.Strict.{Texts}
use Rattle.early_errors.specs.Around.{Around, parts_around, placed, place_first, place_rest}
use Rattle.early_errors.specs.Early.{broken, early_rules, first}

-- the first of two that there is
abbrev pub or_else : {A : Type 0} → Option A → Option A → Option A
or_else (Some x) o = Some x
or_else None o = o

abbrev mutual
  pub least : Texts → Around → ℕ → Tree → Option Violation
  least s a n (branch k ds) = or_else (first (filter_map (broken s n a (branch k ds)) early_rules)) (least_in s (places k) (parts_around s (role k) ds a) (n + 1) ds)

  pub least_at : Texts → Around → ℕ → Datum → Option Violation
  least_at s a n (child t) = least s a n t
  least_at s a n (listed ds) = least_in s [] a n ds
  least_at s a n _ = None

  pub least_in : Texts → List Place → Around → ℕ → Data → Option Violation
  least_in s ps a n none = None
  least_in s ps a n (more d ds) = or_else (least_at s (placed (place_first ps) a) n d) (least_in s (place_rest ps) a (n + nodes_at d) ds)

-- what a walk tells that ends at a number
abbrev pub told : Option Violation → ℕ → Step
told (Some v) n = Found v
told None n = Next n
