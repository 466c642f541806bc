-- The scopes read from above: what a use finds on its way out.
use Rattle.std.specs.Prelude.{ℕ, Bool, true, false, ◌&&◌, ◌||◌, not, if◌then◌else◌, Option, List, [], ◌∷◌}
use Rattle.bast_schema.specs.Tree.{Tree, branch, Datum, child, listed, Data, none, more}
use Rattle.scope_facts.specs.Roles.{part}
use Rattle.scope_facts.specs.Uses.{is_scope, has_entry, is_use_of, is_eval}
use Rattle.scope_facts.specs.Frames.{Frame, scope, begins, frame, inside, is_captured}

-- whether a name has no entry in scopes that stand one around the other, innermost first, and a function begins between
-- them; `out` says whether one was left before
abbrev pub leaves : ℕ → List Frame → Bool → Bool
leaves x [] out = out
leaves x (begins ∷ fs) out = leaves x fs true
leaves x (scope es ∷ fs) out = if has_entry x es then false else leaves x fs out

-- whether some use of the name below finds its nearest declaration outside these frames, and leaves a function for it
abbrev mutual
  pub escapes : ℕ → List Frame → Tree → Bool
  escapes x fs (branch k ds) = (is_use_of x (part k) ds && leaves x fs false) || escapes_in x (inside (part k) fs) ds

  pub escapes_at : ℕ → List Frame → Datum → Bool
  escapes_at x fs (child t) = escapes x fs t
  escapes_at x fs (listed ds) = escapes_among x fs ds
  escapes_at x fs _ = false

  pub escapes_in : ℕ → List Frame → Data → Bool
  escapes_in x fs none = false
  escapes_in x fs (more d ds) = if is_scope d then escapes_in x (frame d ∷ fs) ds else escapes_at x fs d || escapes_in x fs ds

  pub escapes_among : ℕ → List Frame → Data → Bool
  escapes_among x fs none = false
  escapes_among x fs (more d ds) = escapes_at x fs d || escapes_among x fs ds

-- what a scope says of direct evals
abbrev pub says_eval_in : Data → Bool
says_eval_in (more (listed es) ds) = is_captured ds
says_eval_in _ = true

abbrev pub says_eval : Datum → Bool
says_eval (child (branch k ds)) = says_eval_in ds
says_eval _ = true

-- whether each direct eval below is covered only by scopes that say so; b tells whether all scopes around do
abbrev mutual
  pub evals_told : Option ℕ → Bool → Tree → Bool
  evals_told e b (branch k ds) = (not (is_eval e (part k) ds) || b) && evals_told_in e b ds

  pub evals_told_at : Option ℕ → Bool → Datum → Bool
  evals_told_at e b (child t) = evals_told e b t
  evals_told_at e b (listed ds) = evals_told_among e b ds
  evals_told_at e b _ = true

  pub evals_told_in : Option ℕ → Bool → Data → Bool
  evals_told_in e b none = true
  evals_told_in e b (more d ds) = if is_scope d then evals_told_in e (b && says_eval d) ds else evals_told_at e b d && evals_told_in e b ds

  pub evals_told_among : Option ℕ → Bool → Data → Bool
  evals_told_among e b none = true
  evals_told_among e b (more d ds) = evals_told_at e b d && evals_told_among e b ds
