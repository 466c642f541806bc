-- The rules that are not chosen for a node hold there.
use Rattle.std.proofs.Common.{ℕ, List, Option, Result, IfOk, ◌≡◌, ◌∙◌, ap, sym, refl, filter_map}
use Rattle.bast_base.specs.declared.errors.Memory.{Memory}
use Rattle.bast_schema.specs.declared.kind.Kind.{Kind}
use Rattle.scope_facts.specs.declared.context.Rule.{Rule}
use Rattle.scope_facts.specs.declared.context.Violation.{Violation}
use Rattle.bast_schema.specs.Tree.{Tree, branch, Data, kind_of}
use Rattle.early_errors.specs.declared.kinds.Role.{Role}
use Rattle.early_errors.specs.declared.kinds.Role.TheVariants as roles
use Rattle.early_errors.specs.Kinds.{role}
use Rattle.early_errors.specs.Strict.{Texts}
use Rattle.early_errors.specs.Around.{Around}
use Rattle.early_errors.specs.Reading.{reading_by}
use Rattle.early_errors.specs.Rules.{says}
use Rattle.early_errors.specs.Early.{broken, early_rules, first, violation}
use Rattle.early_errors.specs.Chosen.{chosen}

chosen_by : (s : Texts) (n : ℕ) (a : Around) (ds : Data) (r : Role)
    → filter_map (λ q. violation n q (says q (reading_by s a r ds))) (chosen r) ≡ filter_map (λ q. violation n q (says q (reading_by s a r ds))) early_rules
unfolding early_rules
chosen_by s n a ds roles.Script = refl
chosen_by s n a ds roles.Function = refl
chosen_by s n a ds roles.Method = refl
chosen_by s n a ds roles.Arrow = refl
chosen_by s n a ds roles.Contents = refl
chosen_by s n a ds roles.Block = refl
chosen_by s n a ds roles.For = refl
chosen_by s n a ds roles.Loop = refl
chosen_by s n a ds roles.Catch = refl
chosen_by s n a ds roles.Directive = refl
chosen_by s n a ds roles.Template = refl
chosen_by s n a ds roles.Lexical = refl
chosen_by s n a ds roles.Variables = refl
chosen_by s n a ds roles.Declarator = refl
chosen_by s n a ds roles.Labelled = refl
chosen_by s n a ds roles.Return = refl
chosen_by s n a ds roles.Break = refl
chosen_by s n a ds roles.Continue = refl
chosen_by s n a ds roles.Unary = refl
chosen_by s n a ds roles.Use = refl
chosen_by s n a ds roles.Binding = refl
chosen_by s n a ds roles.Head = refl
chosen_by s n a ds roles.Property = refl
chosen_by s n a ds roles.Member = refl
chosen_by s n a ds roles.Plain = refl

pub chosen_is : (s : Texts) (n : ℕ) (a : Around) (t : Tree) → filter_map (broken s n a t) (chosen (role (kind_of t))) ≡ filter_map (broken s n a t) early_rules
chosen_is s n a (branch k ds) = chosen_by s n a ds (role k)

chosen_at : (s : Texts) (n : ℕ) (a : Around) (t : Tree) (k : Kind) (r : Role) (order : List Rule) → k ≡ kind_of t → r ≡ role k → order ≡ chosen r
    → first (filter_map (broken s n a t) order) ≡ first (filter_map (broken s n a t) early_rules)
chosen_at s n a t k r order e f g = ap (λ q. first (filter_map (broken s n a t) q)) (g ∙ ap chosen (f ∙ ap role e)) ∙ ap first (chosen_is s n a t)

-- the first violation of the rules that are chosen is the first of all
pub chosen_first : (s : Texts) (n : ℕ) (a : Around) (t : Tree) (k : Kind) (r : Role) (order : List Rule) (res : Result (Option Violation) Memory) → k ≡ kind_of t → r ≡ role k → order ≡ chosen r
    → IfOk res (λ x. x ≡ first (filter_map (broken s n a t) order)) → IfOk res (λ x. x ≡ first (filter_map (broken s n a t) early_rules))
chosen_first s n a t k r order res e f g h = rw (sym (chosen_at s n a t k r order e f g)) h
