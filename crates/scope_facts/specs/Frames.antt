-- The scopes that cover a node, and what is true of the uses below it.
use Rattle.std.specs.Prelude.{ℕ, Bool, true, false, ◌&&◌, ◌||◌, not, if◌then◌else◌, Option, None, Some, List, [], ◌∷◌}
use Rattle.bast_schema.specs.Tree.{Tree, branch, Datum, child, listed, flag, Data, none, more}
use Rattle.scope_facts.specs.Roles.{part}
use Rattle.scope_facts.specs.Uses.{is_scope, is_entry, has_entry, first_name, crossed_in}
use Rattle.scope_facts.specs.Flagged.{holds_of}
use Rattle.scope_facts.specs.declared.roles.Part.{Part}
use Rattle.scope_facts.specs.declared.roles.Part.TheVariants.{Use, Function}

-- of what is around a node, innermost first: a scope with its entries, or the place where a function begins
pub data Frame : Type 0 where
  scope : Data → Frame
  begins : Frame

abbrev pub frame : Datum → Frame
frame (child (branch k (more (listed es) ds))) = scope es
frame _ = scope none

abbrev pub is_captured : Data → Bool
is_captured none = true
is_captured (more (flag b) ds) = b
is_captured (more d ds) = is_captured ds

-- whether all entries of the name are captured
abbrev pub all_captured_at : ℕ → Datum → Bool
all_captured_at x (child (branch k ds)) = not (is_entry x (child (branch k ds))) || is_captured ds
all_captured_at x _ = true

abbrev pub all_captured : ℕ → Data → Bool
all_captured x none = true
all_captured x (more d ds) = all_captured_at x d && all_captured x ds

-- the nearest declaration of a name: whether it is captured, and whether it is outside the innermost function
pub record Near : Type 0 where
  pub captured : Bool
  pub outside : Bool

-- the innermost scope that has an entry of the name
abbrev pub nearest : List Frame → ℕ → Bool → Option Near
nearest [] x out = None
nearest (begins ∷ fs) x out = nearest fs x true
nearest (scope es ∷ fs) x out = if has_entry x es then Some (record { captured = all_captured x es; outside = out }) else nearest fs x out

abbrev pub fine : Option Near → Bool
fine None = true
fine (Some n) = n.captured || not n.outside

abbrev pub fine_name : List Frame → Option ℕ → Bool
fine_name fs None = true
fine_name fs (Some x) = fine (nearest fs x false)

abbrev pub fine_use : List Frame → Part → Data → Bool
fine_use fs Use ds = fine_name fs (first_name ds)
fine_use fs _ ds = true

abbrev pub inside : Part → List Frame → List Frame
inside Function fs = begins ∷ fs
inside _ fs = fs

-- whether each use below finds its nearest declaration captured where that is outside the use's function
abbrev mutual
  pub respects : List Frame → Tree → Bool
  respects fs (branch k ds) = fine_use fs (part k) ds && respects_in (inside (part k) fs) ds

  pub respects_at : List Frame → Datum → Bool
  respects_at fs (child t) = respects fs t
  respects_at fs (listed ds) = respects_among fs ds
  respects_at fs _ = true

  pub respects_in : List Frame → Data → Bool
  respects_in fs none = true
  respects_in fs (more d ds) = if is_scope d then respects_in (frame d ∷ fs) ds else respects_at fs d && respects_in fs ds

  pub respects_among : List Frame → Data → Bool
  respects_among fs none = true
  respects_among fs (more d ds) = respects_at fs d && respects_among fs ds

-- the same of the entries alone: each is captured where a use inside a function needs it
abbrev pub needed : Option ℕ → Data → Bool
needed o after = holds_of (λ x. crossed_in x after) o

abbrev pub kept_entry : Datum → Data → Bool
kept_entry (child (branch k ds)) after = is_captured ds || not (needed (first_name ds) after)
kept_entry d after = true

abbrev pub kept_entries : Data → Data → Bool
kept_entries none after = true
kept_entries (more d ds) after = kept_entry d after && kept_entries ds after

abbrev pub kept_scope : Datum → Data → Bool
kept_scope (child (branch k (more (listed es) ds))) after = kept_entries es after
kept_scope d after = true

abbrev mutual
  pub kept : Tree → Bool
  kept (branch k ds) = kept_in ds

  pub kept_at : Datum → Bool
  kept_at (child t) = kept t
  kept_at (listed ds) = kept_among ds
  kept_at d = true

  pub kept_in : Data → Bool
  kept_in none = true
  kept_in (more d ds) = (if is_scope d then kept_scope d ds else kept_at d) && kept_in ds

  pub kept_among : Data → Bool
  kept_among none = true
  kept_among (more d ds) = kept_at d && kept_among ds
