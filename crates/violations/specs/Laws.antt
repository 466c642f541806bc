-- What the first violation is, in the words of the two lists.
use Rattle.std.specs.Prelude.{◌≡◌, ℕ, List, [], Option, None, IfSome}
use Rattle.bast_schema.specs.Tree.{Tree}
use Rattle.early_errors.specs.Early.{early}
use Rattle.scope_check.specs.Untrue.{untrue}
use Rattle.scope_facts.specs.declared.context.Ctx.{Ctx}
use Rattle.scope_facts.specs.declared.context.Violation.{Violation}
use Rattle.violations.specs.Violations.{IsViolation, NotAfter, first_violation}

-- a violation of the tree, before which no other comes, by node and then by rule
pub record IsLeast (texts : List (Option (List ℕ))) (c : Ctx) (t : Tree) (v : Violation) : Type 0 where
  pub stands : IsViolation texts c t v
  pub least : (w : Violation) → IsViolation texts c t w → NotAfter v w

-- no early error, and nothing untrue
pub record IsSound (texts : List (Option (List ℕ))) (c : Ctx) (t : Tree) : Type 0 where
  pub no_early : early texts c t ≡ []
  pub no_untrue : untrue texts c t ≡ []

-- the first violation is the least one, and there is none exactly where the tree is sound
pub record FirstIsLeast (texts : List (Option (List ℕ))) (c : Ctx) (t : Tree) : Type 0 where
  pub least : IfSome (first_violation texts c t) (IsLeast texts c t)
  pub none : first_violation texts c t ≡ None → IsSound texts c t
  pub sound : IsSound texts c t → first_violation texts c t ≡ None

abbrev pub FirstViolationsAreLeast : Type 0
FirstViolationsAreLeast = (texts : List (Option (List ℕ))) (c : Ctx) (t : Tree) → FirstIsLeast texts c t
