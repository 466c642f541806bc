-- The untrue places of a tree go along its nodes.
use Rattle.std.proofs.Common.{ℕ, ◌+◌, ◌≤◌, ◌&&◌, not, Bool, true, false, List, [], ◌∷◌, ◌++◌, Option, inr, refl, arith, lit≤, if◌then◌else◌}
use Rattle.bast_schema.specs.Tree.{Tree, branch, Datum, child, absent, listed, flag, index, whole, name, no_name, choice, window, Data, none, more, nodes, nodes_at, nodes_in}
use Rattle.scope_facts.specs.declared.context.Ctx.{Ctx}
use Rattle.scope_facts.specs.declared.context.Rule.{Rule}
use Rattle.scope_facts.specs.declared.context.Rule.TheVariants.{A1, A2, A3}
use Rattle.scope_facts.specs.declared.context.Violation.{Violation}
use Rattle.scope_facts.specs.declared.roles.Shape.{Shape}
use Rattle.scope_facts.specs.declared.roles.Shape.TheVariants as shape
use Rattle.scope_facts.specs.Exact.{eval_name}
use Rattle.scope_facts.specs.Frames.{Frame, frame, fine_use, inside}
use Rattle.scope_facts.specs.Names.{bound}
use Rattle.scope_facts.specs.Reading.{says_eval}
use Rattle.scope_facts.specs.Roles.{part, shape_of}
use Rattle.scope_facts.specs.Uses.{is_scope, is_eval, first_name}
use Rattle.scope_check.specs.declared.finding.Finding.{Finding}
use Rattle.scope_check.specs.declared.finding.Finding.TheVariants.{Fine, Wrong}
use Rattle.scope_check.specs.Entries.{scope_says}
use Rattle.scope_check.specs.Untrue.{untrue, untrue_use, untrue_eval, untrue_scope, untrue_from, untrue_at, untrue_in, untrue_among, violation, found, entries_rule, frames_inside, all_tell}
use Rattle.violations.specs.Violations.{place_of}
use Rattle.violations.proofs.Along.{Along, joined, nowhere, widened}

-- by one of the rules on what scopes say
abbrev pub IsUntrue : Violation → Type 0
IsUntrue v = place_of A1 ≤ place_of v.rule

one_there : (n : ℕ) (r : Rule) (x : Option ℕ) → place_of A1 ≤ place_of r → Along IsUntrue n (n + 1) (violation n r x ∷ [])
one_there n r x is = record { between = ((is, omega arith, omega arith), tt); led = tt }

-- what a use finds comes before what a direct eval finds
use_then_eval : (n : ℕ) (x e : Option ℕ) (fine calls : Bool) → Along IsUntrue n (n + 1) ((if fine then [] else violation n A2 x ∷ []) ++ (if calls then violation n A3 e ∷ [] else []))
use_then_eval n x e true true = one_there n A3 e (lit≤ tt)
use_then_eval n x e true false = nowhere IsUntrue n (n + 1)
use_then_eval n x e false true = record { between = ((lit≤ tt, omega arith, omega arith), ((lit≤ tt, omega arith, omega arith), tt)); led = (inr (refl, lit≤ tt), tt) }
use_then_eval n x e false false = one_there n A2 x (lit≤ tt)

of_finding : (n : ℕ) (r : Rule) (f : Finding) → place_of A1 ≤ place_of r → Along IsUntrue n (n + 1) (found n r f)
of_finding n r Fine is = nowhere IsUntrue n (n + 1)
of_finding n r (Wrong x) is = one_there n r x is

by_entries : (s : Shape) → place_of A1 ≤ place_of (entries_rule s)
by_entries shape.Parameters = lit≤ tt
by_entries _ = lit≤ tt

of_scope : (n : ℕ) (names : List ℕ) (d : Datum) (after : Data) → Along IsUntrue n (n + nodes_at d) (untrue_scope n names d after)
of_scope n names (child (branch k ds)) after =
    widened IsUntrue n (n + 1) n (n + nodes (branch k ds)) (untrue_scope n names (child (branch k ds)) after) (omega arith) (omega arith) (of_finding n (entries_rule (shape_of k)) (scope_says names (branch k ds) after) (by_entries (shape_of k)))
of_scope n names (listed es) after = nowhere IsUntrue n (n + nodes_in es)
of_scope n names _ after = nowhere IsUntrue n (n + 0)

-- what is found in one value, and then in those after it
behind : (n : ℕ) (d : Datum) (ds : Data) (xs ys : List Violation) → Along IsUntrue n (n + nodes_at d) xs → Along IsUntrue (n + nodes_at d) (n + nodes_at d + nodes_in ds) ys → Along IsUntrue n (n + (nodes_at d + nodes_in ds)) (xs ++ ys)
behind n d ds xs ys a b =
    joined IsUntrue n (n + nodes_at d) (n + (nodes_at d + nodes_in ds)) xs ys (omega arith) (omega arith) a
    (widened IsUntrue (n + nodes_at d) (n + nodes_at d + nodes_in ds) (n + nodes_at d) (n + (nodes_at d + nodes_in ds)) ys (omega arith) (omega arith) b)

of_either : (from to : ℕ) (b : Bool) (xs ys : List Violation) → Along IsUntrue from to xs → Along IsUntrue from to ys → Along IsUntrue from to (if b then xs else ys)
of_either from to true xs ys a b = a
of_either from to false xs ys a b = b

mutual
  along_from : (e : Option ℕ) (fs : List Frame) (told : Bool) (n : ℕ) (t : Tree) → Along IsUntrue n (n + nodes t) (untrue_from e fs told n t)
  along_from e fs told n (branch k ds) =
      let own = use_then_eval n (first_name ds) e (fine_use fs (part k) ds) (is_eval e (part k) ds && not told) in
      let below = along_in e (inside (part k) fs) told (bound ds) (n + 1) ds in
      joined IsUntrue n (n + 1) (n + nodes (branch k ds)) (untrue_use fs n k ds ++ untrue_eval e told n k ds) (untrue_in e (inside (part k) fs) told (bound ds) (n + 1) ds) (omega arith) (omega arith) own
      (widened IsUntrue (n + 1) (n + 1 + nodes_in ds) (n + 1) (n + nodes (branch k ds)) (untrue_in e (inside (part k) fs) told (bound ds) (n + 1) ds) (omega arith) (omega arith) below)

  along_at : (e : Option ℕ) (fs : List Frame) (told : Bool) (n : ℕ) (d : Datum) → Along IsUntrue n (n + nodes_at d) (untrue_at e fs told n d)
  along_at e fs told n (child t) = along_from e fs told n t
  along_at e fs told n (listed ds) = along_among e fs told n ds
  along_at e fs told n _ = nowhere IsUntrue n (n + 0)

  along_in : (e : Option ℕ) (fs : List Frame) (told : Bool) (names : List ℕ) (n : ℕ) (ds : Data) → Along IsUntrue n (n + nodes_in ds) (untrue_in e fs told names n ds)
  along_in e fs told names n none = nowhere IsUntrue n (n + 0)
  along_in e fs told names n (more d ds) =
      of_either n (n + (nodes_at d + nodes_in ds)) (is_scope d)
      (untrue_scope n names d ds ++ untrue_in e (frame d ∷ fs) (told && says_eval d) names (n + nodes_at d) ds)
      (untrue_at e fs told n d ++ untrue_in e fs told names (n + nodes_at d) ds)
      (behind n d ds (untrue_scope n names d ds) (untrue_in e (frame d ∷ fs) (told && says_eval d) names (n + nodes_at d) ds) (of_scope n names d ds) (along_in e (frame d ∷ fs) (told && says_eval d) names (n + nodes_at d) ds))
      (behind n d ds (untrue_at e fs told n d) (untrue_in e fs told names (n + nodes_at d) ds) (along_at e fs told n d) (along_in e fs told names (n + nodes_at d) ds))

  along_among : (e : Option ℕ) (fs : List Frame) (told : Bool) (n : ℕ) (ds : Data) → Along IsUntrue n (n + nodes_in ds) (untrue_among e fs told n ds)
  along_among e fs told n none = nowhere IsUntrue n (n + 0)
  along_among e fs told n (more d ds) =
      behind n d ds (untrue_at e fs told n d) (untrue_among e fs told (n + nodes_at d) ds) (along_at e fs told n d) (along_among e fs told (n + nodes_at d) ds)

pub untrue_along : (texts : List (Option (List ℕ))) (c : Ctx) (t : Tree) → Along IsUntrue 0 (0 + nodes t) (untrue texts c t)
untrue_along texts c t = along_from (eval_name texts) (frames_inside [] c.scopes) (all_tell c.scopes) 0 t
