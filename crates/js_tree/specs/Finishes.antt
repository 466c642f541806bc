-- What a row's own part is of what its steps gathered.
use Rattle.std.specs.Prelude.{◌==◌, length, ℕ, Bool, false, List, [], ◌∷◌, Option, None, Result, Ok, if◌then◌else◌}
use Rattle.bast_base.specs.declared.errors.NameId.{NameId}
use Rattle.bast_schema.specs.declared.kind.Kind.{Kind}
use Rattle.bast_schema.specs.declared.kind.Kind.TheVariants as kinds
use Rattle.bast_schema.specs.Kinds.{same_kind}
use Rattle.bast_schema.specs.Choices.{lexical_let, lexical_const, for_var, for_let, for_const}
use Rattle.bast_schema.specs.Counts.{join}
use Rattle.bast_schema.specs.Tree.{Tree, Datum, child, listed, choice, Data, none, more, count, is_none}
use Rattle.js_tree.specs.Nodes.{Maker, one, two, kind_of, folded}
use Rattle.js_tree.specs.Parts.{last_value, one_node, one_value, first_value, one_ending}
use Rattle.js_tree.specs.Results.{◌>>=◌, broken}
use Rattle.js_tree.specs.declared.fault.Fault.{Fault}
use Rattle.js_tree.specs.declared.parts.Part.{Part}
use Rattle.js_tree.specs.declared.parts.Part.TheVariants as parts
use Rattle.js_tree.specs.declared.parts.Form.{Form}
use Rattle.js_tree.specs.declared.parts.Form.TheVariants as forms
use Rattle.js_tree.specs.declared.parts.Ending.{Ending}
use Rattle.js_tree.specs.declared.parts.Ending.TheVariants as endings
use Rattle.js_tree.specs.declared.recipe.Declared.{Declared}
use Rattle.js_tree.specs.declared.recipe.Declared.TheVariants as declared
use Rattle.js_tree.specs.declared.recipe.Finish.{Finish}
use Rattle.js_tree.specs.declared.recipe.Finish.TheVariants as finishes
use Rattle.js_tree.specs.declared.work.Work.{Work}

-- the parts that are left, with the row's own part on top
abbrev pub Finished : Type 0
Finished = Result (List Part) Fault

abbrev pub with_values : Data → Option NameId → List Part → Finished
with_values ds raw ps = Ok (parts.Values ds raw ∷ ps)

abbrev pub with_made : Result Tree Fault → List Part → Finished
with_made made ps = made >>= λ t. with_values (one (child t)) None ps

abbrev pub with_endings : List Ending → List Part → Finished
with_endings es ps = Ok (parts.Endings es ∷ ps)

-- a node of the kind, in which the operand stands in that form
abbrev pub ends : Kind → Form → Work → List Part → Finished
ends k form w ps = with_endings (endings.Around k form w.held w.values ∷ w.endings) ps

-- one string token stays one where nothing stands behind it
unfoldable pub folds : Maker → Work → List Part → Finished
folds m w ps =
    if length w.endings == 0 then with_values w.values w.raw ps
    else (one_node w.values >>= λ t. with_made (folded m w.endings t) ps)

-- an expression that ends there is a statement, which may be a directive (13.5, 14.1.1)
unfoldable pub statement : Maker → Work → List Part → Finished
statement m w ps =
    if length w.endings == 0 then (m kinds.ExpressionStatement w.values >>= λ t. with_values (one (child t)) w.raw ps)
    else folds m w ps

-- a name alone is a shorthand, and else the name of a property (12.2.6)
abbrev pub shorthand : Maker → Data → Result Tree Fault
shorthand m ds = m kinds.IdentifierExpression ds >>= λ t. m kinds.ShorthandProperty (one (child t))

unfoldable pub property : Maker → Work → List Part → Finished
property m w ps =
    if length w.endings == 0 then with_made (shorthand m w.values) ps
    else (m kinds.LiteralPropertyName w.values >>= λ t. with_made (folded m w.endings t) ps)

-- what the body of a `for` is still to be put behind
abbrev pub filled : Ending → Datum → List Part → Finished
filled (endings.Around k form before behind) d ps = with_endings (endings.Around k forms.Plain (join before (more d behind)) none ∷ []) ps
filled (endings.Instead t) d ps = broken

unfoldable pub fills : Work → List Part → Finished
fills w ps = one_value w.values >>= λ d. one_ending w.endings >>= λ e. filled e d ps

-- the choice that says how the head of a `for` declares
abbrev pub for_kind : Declared → ℕ
for_kind declared.Var = for_var
for_kind declared.Let = for_let
for_kind declared.Const = for_const

-- a declaration of these declarators (13.3)
abbrev pub declaration : Maker → Declared → Data → Result Tree Fault
declaration m declared.Var ds = m kinds.VarDeclaration (one (listed ds))
declaration m declared.Let ds = m kinds.LexicalDeclaration (two (choice lexical_let) (listed ds))
declaration m declared.Const ds = m kinds.LexicalDeclaration (two (choice lexical_const) (listed ds))

-- what the head of a `for` declares: one name (13.7.5), or the names of a declaration (13.7.4)
abbrev pub left_of : Maker → Declared → Datum → Form → Result Tree Fault
left_of m how binding forms.Plain = m kinds.ForInOfBinding (two (choice (for_kind how)) binding)
left_of m how binding (forms.Declared ds) =
    first_value ds >>= λ f.
    m kinds.VariableDeclarator (two binding f.0) >>= λ d.
    declaration m how (more (child d) f.1)
left_of m how binding forms.Parameters = broken
left_of m how binding (forms.Contents body) = broken
left_of m how binding forms.Label = broken

abbrev pub bound : Maker → Declared → Datum → Ending → List Part → Finished
bound m how binding (endings.Around k form before behind) ps = left_of m how binding form >>= λ t. filled (endings.Around k form before behind) (child t) ps
bound m how binding (endings.Instead t) ps = broken

unfoldable pub binds : Maker → Declared → Work → List Part → Finished
binds m how w ps = one_value w.values >>= λ d. one_ending w.endings >>= λ e. bound m how d e ps

abbrev pub declaring : Data → Ending → List Part → Finished
declaring ds (endings.Around k form before behind) ps = with_endings (endings.Around k (forms.Declared ds) before behind ∷ []) ps
declaring ds (endings.Instead t) ps = broken

unfoldable pub declares : Work → List Part → Finished
declares w ps = one_ending w.endings >>= λ e. declaring w.values e ps

unfoldable pub arrow_body : Work → List Part → Finished
arrow_body w ps = with_endings (endings.Around kinds.EagerArrowExpressionWithFunctionBody (forms.Contents w.values) (one (listed w.directives)) none ∷ []) ps

-- a `try` with `finally` is one of its own, with or without `catch` (13.15)
abbrev pub try_kind : Data → Kind
try_kind ds = if count ds == 1 then kinds.TryCatchStatement else kinds.TryFinallyStatement

unfoldable pub tries : Work → List Part → Finished
tries w ps = ends (try_kind w.values) forms.Plain w ps

-- expressions with commas between are one sequence (12.15)
unfoldable pub sequence : Maker → Work → List Part → Finished
sequence m w ps =
    if is_none w.values then with_values w.held w.raw ps
    else with_made (m kinds.SequenceExpression (join w.held (one (listed w.values)))) ps

unfoldable pub instead : Work → List Part → Finished
instead w ps = one_node w.values >>= λ t. with_endings (endings.Instead t ∷ []) ps

unfoldable pub add_item : Work → List Part → Finished
add_item w ps = one_node w.values >>= λ t. Ok (parts.Items (record { statement = t; raw = w.raw } ∷ w.items) ∷ ps)

-- the clauses of a `switch` up to its `default`, and those from there on (13.12)
abbrev pub is_default : Datum → Bool
is_default (child t) = same_kind (kind_of t) kinds.SwitchDefault
is_default _ = false

abbrev pub before_default : Data → Data
before_default none = none
before_default (more d ds) = if is_default d then none else more d (before_default ds)

abbrev pub from_default : Data → Data
from_default none = none
from_default (more d ds) = if is_default d then more d ds else from_default ds

abbrev pub at_default : Data → Data × Data
at_default ds = (before_default ds, from_default ds)

abbrev pub switch_of : Maker → Data → Data → Data → Result Tree Fault
switch_of m held before none = m kinds.SwitchStatement (join held (one (listed before)))
switch_of m held before (more d behind) = m kinds.SwitchStatementWithDefault (join held (more (listed before) (two d (listed behind))))

unfoldable pub switch : Maker → Work → List Part → Finished
switch m w ps = with_made (switch_of m w.held (before_default w.values) (from_default w.values)) ps

unfoldable pub parameters : Maker → Work → List Part → Finished
parameters m w ps = last_value w.values >>= λ l. with_made (m kinds.FormalParameters (two (listed l.0) l.1)) ps

abbrev pub finish_on : Maker → Finish → Work → List Part → Finished
finish_on m finishes.Same w ps = Ok ps
finish_on m finishes.Values w ps = with_values w.values None ps
finish_on m finishes.Folds w ps = folds m w ps
finish_on m (finishes.Ends k) w ps = ends k forms.Plain w ps
finish_on m (finishes.EndsParameters k) w ps = ends k forms.Parameters w ps
finish_on m (finishes.EndsLabel k) w ps = ends k forms.Label w ps
finish_on m finishes.Endings w ps = with_endings w.endings ps
finish_on m finishes.Fills w ps = fills w ps
finish_on m (finishes.Binds how) w ps = binds m how w ps
finish_on m finishes.Declares w ps = declares w ps
finish_on m finishes.ArrowBody w ps = arrow_body w ps
finish_on m finishes.Tries w ps = tries w ps
finish_on m finishes.Sequence w ps = sequence m w ps
finish_on m finishes.Statement w ps = statement m w ps
finish_on m finishes.Property w ps = property m w ps
finish_on m finishes.Instead w ps = instead w ps
finish_on m finishes.Items w ps = add_item w ps
finish_on m finishes.NoItems w ps = Ok (parts.Items [] ∷ ps)
finish_on m finishes.Switch w ps = switch m w ps
finish_on m finishes.Parameters w ps = parameters m w ps
