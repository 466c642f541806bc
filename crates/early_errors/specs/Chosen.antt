-- The rules that can be broken at a node at all, by what the node is.
use Rattle.std.specs.Prelude.{List, [], ◌∷◌}
use Rattle.scope_facts.specs.declared.context.Rule.{Rule}
use Rattle.scope_facts.specs.declared.context.Rule.TheVariants.{E1, E2, E3, E4, E5, E6, E7, E8, E9, E10, E11, E12, E13, E14, E15, E16, E17, E18}
use Rattle.early_errors.specs.declared.kinds.Role.{Role}
use Rattle.early_errors.specs.declared.kinds.Role.TheVariants as roles

abbrev pub chosen : Role → List Rule
chosen roles.Script = E1 ∷ E2 ∷ E16 ∷ []
chosen roles.Arrow = E4 ∷ E16 ∷ []
chosen roles.Contents = E1 ∷ E2 ∷ E3 ∷ E4 ∷ E5 ∷ E16 ∷ []
chosen roles.Block = E1 ∷ E2 ∷ E16 ∷ []
chosen roles.For = E1 ∷ E15 ∷ E16 ∷ []
chosen roles.Catch = E14 ∷ E16 ∷ []
chosen roles.Directive = E16 ∷ E18 ∷ []
chosen roles.Template = E16 ∷ E18 ∷ []
chosen roles.Declarator = E9 ∷ E16 ∷ []
chosen roles.Labelled = E8 ∷ E13 ∷ E16 ∷ E17 ∷ []
chosen roles.Return = E10 ∷ E16 ∷ []
chosen roles.Break = E8 ∷ E11 ∷ E12 ∷ E16 ∷ E17 ∷ []
chosen roles.Continue = E8 ∷ E11 ∷ E12 ∷ E16 ∷ E17 ∷ []
chosen roles.Unary = E7 ∷ E16 ∷ []
chosen roles.Use = E6 ∷ E8 ∷ E17 ∷ []
chosen roles.Binding = E6 ∷ E8 ∷ E16 ∷ E17 ∷ []
chosen roles.Head = []
chosen roles.Property = E17 ∷ []
chosen roles.Member = []
chosen _ = E16 ∷ []
