-- The early errors of a tree: its nodes by number, and at each the rules in order.
use Rattle.std.specs.Prelude.{ℕ, Option, Some, None, List, [], ◌∷◌, flat_map, filter_map}
use Rattle.std.specs.Option.{option_map}
use Rattle.bast_schema.specs.Tree.{Tree}
use Rattle.scope_facts.specs.declared.context.Ctx.{Ctx}
use Rattle.scope_facts.specs.declared.context.Rule.{Rule}
use Rattle.scope_facts.specs.declared.context.Rule.TheVariants.{E1, E2, E3, E4, E5, E6, E7, E8, E9, E10, E11, E12, E13, E14, E15, E16, E17, E18}
use Rattle.scope_facts.specs.declared.context.Violation.{Violation}
use Rattle.early_errors.specs.declared.rules.Finding.{Finding}
use Rattle.early_errors.specs.declared.rules.Finding.TheVariants.{Holds, Broken}
use Rattle.early_errors.specs.Strict.{Texts}
use Rattle.early_errors.specs.Around.{Around, Site, sites, start}
use Rattle.early_errors.specs.Reading.{reading}
use Rattle.early_errors.specs.Rules.{says}

unfoldable pub early_rules : List Rule
early_rules = E1 ∷ E2 ∷ E3 ∷ E4 ∷ E5 ∷ E6 ∷ E7 ∷ E8 ∷ E9 ∷ E10 ∷ E11 ∷ E12 ∷ E13 ∷ E14 ∷ E15 ∷ E16 ∷ E17 ∷ E18 ∷ []

abbrev pub violation : ℕ → Rule → Finding → Option Violation
violation n r (Broken name) = Some (record { node = n; rule = r; name = option_map (λ x. record { 0 = x }) name })
violation n r Holds = None

-- what a rule finds at a node
abbrev pub broken : Texts → ℕ → Around → Tree → Rule → Option Violation
broken s n a t r = violation n r (says r (reading s a t))

-- the violations at a node, rule by rule
abbrev pub found_at : Texts → Site → List Violation
found_at s x = filter_map (broken s x.number x.around x.tree) early_rules

-- the violations of a tree, node by node
abbrev pub early : Texts → Ctx → Tree → List Violation
early s c t = flat_map (found_at s) (sites s (start c) 0 t)

abbrev pub first : {A : Type 0} → List A → Option A
first [] = None
first (x ∷ xs) = Some x
