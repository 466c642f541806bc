-- The places of a tree where what its scopes say is untrue.
use Rattle.std.specs.Prelude.{ℕ, Bool, ◌&&◌, ◌+◌, ◌++◌, not, if◌then◌else◌, Option, None, Some, List, [], ◌∷◌}
use Rattle.std.specs.List.{list_all}
use Rattle.std.specs.Option.{option_map}
use Rattle.bast_schema.specs.declared.kind.Kind.{Kind}
use Rattle.bast_schema.specs.declared.kind.Kind.TheVariants.{AssertedBoundName}
use Rattle.bast_schema.specs.Tree.{Tree, branch, Datum, child, listed, flag, name, Data, none, more, nodes_at}
use Rattle.scope_facts.specs.declared.context.Ctx.{Ctx}
use Rattle.scope_facts.specs.declared.context.FactName.{FactName}
use Rattle.scope_facts.specs.declared.context.Rule.{Rule}
use Rattle.scope_facts.specs.declared.context.Rule.TheVariants.{A1, A2, A3, A4, A5}
use Rattle.scope_facts.specs.declared.context.ScopeFacts.{ScopeFacts}
use Rattle.scope_facts.specs.declared.context.Violation.{Violation}
use Rattle.scope_facts.specs.declared.roles.Shape.{Shape}
use Rattle.scope_facts.specs.declared.roles.Shape.TheVariants.{Parameters, BoundName}
use Rattle.scope_facts.specs.Exact.{eval_name}
use Rattle.scope_facts.specs.Frames.{Frame, scope, frame, fine_use, inside}
use Rattle.scope_facts.specs.Names.{bound}
use Rattle.scope_facts.specs.Reading.{says_eval}
use Rattle.scope_facts.specs.Roles.{part, shape_of}
use Rattle.scope_facts.specs.Uses.{is_scope, is_eval, first_name}
use Rattle.scope_check.specs.declared.finding.Finding.{Finding}
use Rattle.scope_check.specs.declared.finding.Finding.TheVariants.{Fine, Wrong}
use Rattle.scope_check.specs.Entries.{scope_says}

abbrev pub first : {A : Type 0} → List A → Option A
first [] = None
first (x ∷ xs) = Some x

-- at the node with this number
abbrev pub violation : ℕ → Rule → Option ℕ → Violation
violation n r x = record { node = n; rule = r; name = option_map (λ y. record { 0 = y }) x }

-- a use whose nearest declaration is outside its function has to find it captured
abbrev pub untrue_use : List Frame → ℕ → Kind → Data → List Violation
untrue_use fs n k ds = if fine_use fs (part k) ds then [] else violation n A2 (first_name ds) ∷ []

-- all scopes around a direct eval have to tell it; e is the name of the text eval
abbrev pub untrue_eval : Option ℕ → Bool → ℕ → Kind → Data → List Violation
untrue_eval e told n k ds = if is_eval e (part k) ds && not told then violation n A3 e ∷ [] else []

-- the rule on the entries of a scope
abbrev pub entries_rule : Shape → Rule
entries_rule Parameters = A4
entries_rule BoundName = A5
entries_rule _ = A1

abbrev pub found : ℕ → Rule → Finding → List Violation
found n r Fine = []
found n r (Wrong x) = violation n r x ∷ []

-- a scope has to declare what the node declares whose values bind these names, and what stands after the scope
abbrev pub untrue_scope : ℕ → List ℕ → Datum → Data → List Violation
untrue_scope n names (child (branch k ds)) after = found n (entries_rule (shape_of k)) (scope_says names (branch k ds) after)
untrue_scope n names d after = []

-- node by node, of which the first has number n; around them are frames, innermost first, and `told` says whether all
-- scopes around tell a direct eval. What stands in a scope node has numbers, but is not looked at.
abbrev mutual
  pub untrue_from : Option ℕ → List Frame → Bool → ℕ → Tree → List Violation
  untrue_from e fs told n (branch k ds) = untrue_use fs n k ds ++ untrue_eval e told n k ds ++ untrue_in e (inside (part k) fs) told (bound ds) (n + 1) ds

  pub untrue_at : Option ℕ → List Frame → Bool → ℕ → Datum → List Violation
  untrue_at e fs told n (child t) = untrue_from e fs told n t
  untrue_at e fs told n (listed ds) = untrue_among e fs told n ds
  untrue_at e fs told n _ = []

  -- in the fields of a node whose values bind these names
  pub untrue_in : Option ℕ → List Frame → Bool → List ℕ → ℕ → Data → List Violation
  untrue_in e fs told names n none = []
  untrue_in e fs told names n (more d ds) =
      if is_scope d then untrue_scope n names d ds ++ untrue_in e (frame d ∷ fs) (told && says_eval d) names (n + nodes_at d) ds
      else untrue_at e fs told n d ++ untrue_in e fs told names (n + nodes_at d) ds

  pub untrue_among : Option ℕ → List Frame → Bool → ℕ → Data → List Violation
  untrue_among e fs told n none = []
  untrue_among e fs told n (more d ds) = untrue_at e fs told n d ++ untrue_among e fs told (n + nodes_at d) ds

-- the entries that a scope of the context says there are
abbrev pub fact_entry : FactName → Tree
fact_entry f = branch AssertedBoundName (more (name f.name.0) (more (flag f.captured) none))

abbrev pub fact_entries : List FactName → Data
fact_entries [] = none
fact_entries (f ∷ fs) = more (child (fact_entry f)) (fact_entries fs)

-- the scopes of the context, outermost first, inside of other frames
abbrev pub frames_inside : List Frame → List ScopeFacts → List Frame
frames_inside fs [] = fs
frames_inside fs (s ∷ ss) = frames_inside (scope (fact_entries s.names) ∷ fs) ss

abbrev pub all_tell : List ScopeFacts → Bool
all_tell ss = list_all (λ s. s.direct_eval) ss

-- the violations of a tree in a context, by the numbers of their nodes in preorder; the names are those of the texts
abbrev pub untrue : List (Option (List ℕ)) → Ctx → Tree → List Violation
untrue texts c t = untrue_from (eval_name texts) (frames_inside [] c.scopes) (all_tell c.scopes) 0 t
