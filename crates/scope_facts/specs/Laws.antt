-- What holds of exact scopes.
use Rattle.std.specs.Prelude.{ℕ, Bool, true, ◌≡◌, ◌≤◌, ◌*◌, List, [], Option}
use Rattle.bast_schema.specs.Counts.{size}
use Rattle.bast_schema.specs.Eager.{is_eager}
use Rattle.bast_schema.specs.NamesHold.{names_hold}
use Rattle.bast_schema.specs.Tree.{Tree, Data, typed}
use Rattle.scope_facts.specs.Uses.{crossed_in}
use Rattle.scope_facts.specs.Frames.{respects}
use Rattle.scope_facts.specs.Reading.{escapes_in, evals_told}
use Rattle.scope_facts.specs.Exact.{exact, eval_name}
use Rattle.scope_facts.specs.Bare.{bare}
use Rattle.scope_facts.specs.Names.{vars, lexicals, tops}
use Rattle.scope_facts.specs.Renamed.{IsInjective, KeepsEval, renamed}

-- a scope's entry is captured exactly where some use of its name in what the scope covers finds no nearer scope with an
-- entry of the name, and stands in a function that begins there
abbrev pub CapturedExactly : Type 0
CapturedExactly = (x : ℕ) (after : Data) → crossed_in x after ≡ escapes_in x [] after

-- in an exact tree each use inside a function finds its nearest declaration captured, where that is outside the function
abbrev pub UsesAreCaptured : Type 0
UsesAreCaptured = (texts : List (Option (List ℕ))) (t : Tree) → respects [] (exact texts t) ≡ true

-- in an exact tree each direct eval is covered only by scopes that say so
abbrev pub EvalsAreTold : Type 0
EvalsAreTold = (texts : List (Option (List ℕ))) (t : Tree) → evals_told (eval_name texts) true (exact texts t) ≡ true

-- exact scopes change nothing but scopes
abbrev pub BareOfExact : Type 0
BareOfExact = (texts : List (Option (List ℕ))) (t : Tree) → bare (exact texts t) ≡ bare t

-- two trees declare the same names: below them, directly in them, and as statements of a script or of a body
pub record SameNames (t u : Tree) : Type 0 where
  pub vars : vars t ≡ vars u
  pub lexicals : lexicals t ≡ lexicals u
  pub tops : tops t ≡ tops u

-- what a well-typed tree declares does not depend on what its scopes say
abbrev pub ScopesDeclareNothing : Type 0
ScopesDeclareNothing = (texts : List (Option (List ℕ))) (t : Tree) → typed t ≡ true → SameNames (exact texts t) t

-- the numbers of names mean nothing: a tree with other numbers for its names has the exact tree with these numbers
abbrev pub NumbersMeanNothing : Type 0
NumbersMeanNothing =
    (r : ℕ → ℕ) → IsInjective r → (p : ℕ → Bool) (texts strings : List (Option (List ℕ))) → KeepsEval r p (eval_name texts) (eval_name strings) → (t : Tree) → names_hold p t ≡ true
    → exact strings (renamed r t) ≡ renamed r (exact texts t)

-- the exact scopes of a well-typed tree without lazy functions don't depend on the scopes that it has
abbrev pub ExactOfBare : Type 0
ExactOfBare = (texts : List (Option (List ℕ))) (t : Tree) → typed t ≡ true → is_eager t ≡ true → exact texts (bare t) ≡ exact texts t

-- a tree with exact scopes has at most four times as many values as the well-typed tree that it is made of
abbrev pub FourTimesAtMost : Type 0
FourTimesAtMost = (texts : List (Option (List ℕ))) (t : Tree) → typed t ≡ true → size (exact texts t) ≤ 4 * size t
