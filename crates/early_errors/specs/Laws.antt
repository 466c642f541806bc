-- What holds of the definitions alone.
use Rattle.std.specs.Prelude.{ℕ, Bool, List, [], Some, true, ◌||◌, ◌≡◌, map}
use Rattle.std.specs.Option.{option_map}
use Rattle.bast_schema.specs.NamesHold.{names_hold}
use Rattle.bast_schema.specs.Tree.{Tree, nodes, typed}
use Rattle.scope_facts.specs.declared.context.Ctx.{Ctx}
use Rattle.scope_facts.specs.declared.context.ScopeFacts.{ScopeFacts}
use Rattle.scope_facts.specs.declared.context.Violation.{Violation}
use Rattle.scope_facts.specs.Bare.{bare}
use Rattle.scope_facts.specs.Exact.{exact}
use Rattle.scope_facts.specs.Renamed.{IsInjective, renamed}
use Rattle.early_errors.specs.declared.kinds.Place.TheVariants.{Inside}
use Rattle.early_errors.specs.Strict.{Texts, text_of}
use Rattle.early_errors.specs.Around.{Around, sites, placed, start}
use Rattle.early_errors.specs.Preorder.{preorder, numbers_from}
use Rattle.early_errors.specs.Early.{early}

-- what is judged is each node of the tree in preorder
abbrev pub EachNodeIsJudged : Type 0
EachNodeIsJudged = (s : Texts) (a : Around) (n : ℕ) (t : Tree) → map (λ x. x.tree) (sites s a n t) ≡ preorder t

-- under numbers that go on by one
abbrev pub NodesAreNumbered : Type 0
NodesAreNumbered = (s : Texts) (a : Around) (n : ℕ) (t : Tree) → map (λ x. x.number) (sites s a n t) ≡ numbers_from n (nodes t)

-- the inside of a function is judged as in the context that the function gives it, so it may be read and judged apart
abbrev pub InsideIsContext : Type 0
InsideIsContext = (a : Around) (fs : List ScopeFacts) → placed Inside a ≡ start (record { strict = a.flags.strict || a.flags.own_strict; own_strict = a.flags.own_strict; unique = a.flags.unique; function = true; scopes = fs })

-- violations without the numbers of their nodes: the entries of a scope are nodes too, and move the numbers behind them
abbrev pub unnumbered : List Violation → List Violation
unnumbered vs = map (λ v. record { node = 0; rule = v.rule; name = v.name }) vs

-- a well-typed tree breaks the same rules, in the same order and by the same names, with exact scopes and with empty ones
abbrev pub ScopesBreakNoRule : Type 0
ScopesBreakNoRule = (s : Texts) (c : Ctx) (t : Tree) → typed t ≡ true → unnumbered (early s c (exact s t)) ≡ unnumbered (early s c (bare t))

-- and so with its own scopes, whatever they say
abbrev pub OwnScopesBreakNoRule : Type 0
OwnScopesBreakNoRule = (s : Texts) (c : Ctx) (t : Tree) → typed t ≡ true → unnumbered (early s c t) ≡ unnumbered (early s c (bare t))

-- whether one of two trees is without early errors exactly where the other is
pub record BothSound (s : Texts) (c : Ctx) (t u : Tree) : Type 0 where
  pub there : early s c t ≡ [] → early s c u ≡ []
  pub back : early s c u ≡ [] → early s c t ≡ []

-- a well-typed tree is without early errors with empty scopes exactly where it is so with exact ones
abbrev pub EarlyOfExact : Type 0
EarlyOfExact = (s : Texts) (c : Ctx) (t : Tree) → typed t ≡ true → BothSound s c (bare t) (exact s t)

-- a violation of a tree with other numbers for its names
abbrev pub renamed_violation : (ℕ → ℕ) → Violation → Violation
renamed_violation r v = record { node = v.node; rule = v.rule; name = option_map (λ x. record { 0 = r x.0 }) v.name }

-- of the names with a property, each stands for the same text after the renaming
abbrev pub KeepsTexts : (ℕ → ℕ) → (ℕ → Bool) → Texts → Texts → Type 0
KeepsTexts r p texts strings = (n : ℕ) → p n ≡ true → text_of strings (Some (r n)) ≡ text_of texts (Some n)

-- the numbers of names mean nothing: a tree with other numbers for its names breaks the same rules at the same nodes
abbrev pub NumbersBreakNoRule : Type 0
NumbersBreakNoRule = (r : ℕ → ℕ) → IsInjective r → (p : ℕ → Bool) (texts strings : Texts) → KeepsTexts r p texts strings → (c : Ctx) (t : Tree) → names_hold p t ≡ true
    → early strings c (renamed r t) ≡ map (renamed_violation r) (early texts c t)
