-- What the steps of a recipe gather of the parts of a row's symbols.
use Rattle.std.specs.Prelude.{ℕ, List, [], ◌∷◌, ◌++◌, None, Result, Ok}
use Rattle.bast_schema.specs.declared.kind.EnumId.{EnumId}
use Rattle.bast_schema.specs.declared.kind.Kind.{Kind}
use Rattle.bast_schema.specs.declared.kind.Kind.TheVariants as kinds
use Rattle.bast_schema.specs.Counts.{join}
use Rattle.bast_schema.specs.Tree.{Tree, Datum, child, absent, listed, flag, whole, name, no_name, choice, none, more}
use Rattle.js_tokens.specs.declared.kinds.TokenKind.{TokenKind}
use Rattle.js_tokens.specs.declared.kinds.TokenKind.TheVariants as tokens
use Rattle.js_tree.specs.Nodes.{Maker, one, two, no_names, no_parameter_names, statements, behind_directives, directives}
use Rattle.js_tree.specs.Operators.{operator}
use Rattle.js_tree.specs.Parts.{first_value, one_value, without_top, taken_leaf, taken_values, taken_endings, taken_items}
use Rattle.js_tree.specs.Results.{◌>>=◌, broken, there}
use Rattle.js_tree.specs.declared.fault.Fault.{Fault}
use Rattle.js_tree.specs.declared.parts.Part.{Part}
use Rattle.js_tree.specs.declared.recipe.Step.{Step}
use Rattle.js_tree.specs.declared.recipe.Step.TheVariants as steps
use Rattle.js_tree.specs.declared.work.Work.{Work}

-- nothing is gathered yet
abbrev pub no_work : Work
no_work = record { values = none; held = none; directives = none; raw = None; endings = []; items = [] }

-- what was gathered, and the parts that are left
abbrev pub Gathered : Type 0
Gathered = Result (Work × List Part) Fault

abbrev pub gather : Datum → Work → Work
gather d w = record w { values = join w.values (one d) }

abbrev pub with_value : Datum → Work → List Part → Gathered
with_value d w ps = Ok (gather d w, ps)

abbrev pub with_node : Result Tree Fault → Work → List Part → Gathered
with_node made w ps = made >>= λ t. with_value (child t) w ps

unfoldable pub skip : Work → List Part → Gathered
skip w ps = without_top ps >>= λ rest. Ok (w, rest)

unfoldable pub put : Work → List Part → Gathered
put w ps = taken_values ps >>= λ v. Ok (record w { values = join w.values v.0.0 }, v.1)

unfoldable pub operand : Work → List Part → Gathered
operand w ps = taken_values ps >>= λ v. Ok (record w { values = join w.values v.0.0; raw = v.0.1 }, v.1)

unfoldable pub wrap : Work → List Part → Gathered
wrap w ps = taken_values ps >>= λ v. with_value (listed v.0.0) w v.1

unfoldable pub text : Work → List Part → Gathered
text w ps = taken_leaf ps >>= λ l. there l.0.text >>= λ n. with_value (name n.0) w l.1

abbrev pub number : TokenKind → Result ℕ Fault
number (tokens.Number n) = Ok n
number _ = broken

unfoldable pub whole_number : Work → List Part → Gathered
whole_number w ps = taken_leaf ps >>= λ l. number l.0.kind >>= λ n. with_value (whole n) w l.1

unfoldable pub named : Maker → Kind → Work → List Part → Gathered
named m k w ps = taken_leaf ps >>= λ l. there l.0.text >>= λ n. with_node (m k (one (name n.0))) w l.1

unfoldable pub quoted : Maker → Work → List Part → Gathered
quoted m w ps = taken_leaf ps >>= λ l. there l.0.text >>= λ n. m kinds.LiteralStringExpression (one (name n.0)) >>= λ t. Ok (record w { values = join w.values (one (child t)); raw = l.0.raw }, l.1)

unfoldable pub with_operator : EnumId → Work → List Part → Gathered
with_operator e w ps = taken_leaf ps >>= λ l. there (operator e l.0.kind) >>= λ n. with_value (choice n) w l.1

-- a name that is bound, with its initializer (14.1, 13.3.3)
abbrev pub parameter_of : Maker → Tree → Datum → Result Tree Fault
parameter_of m binding absent = Ok binding
parameter_of m binding (child t) = m kinds.BindingWithInitializer (two (child binding) (child t))
parameter_of m binding _ = broken

unfoldable pub parameter : Maker → Work → List Part → Gathered
parameter m w ps =
    taken_leaf ps >>= λ l.
    there l.0.text >>= λ n.
    m kinds.BindingIdentifier (one (name n.0)) >>= λ b.
    taken_values l.1 >>= λ v.
    one_value v.0.0 >>= λ d.
    with_node (parameter_of m b d) w v.1

-- an expression with the piece of the template behind it; the further parts of the template stand behind that (12.2.9)
unfoldable pub template_part : Maker → Work → List Part → Gathered
template_part m w ps =
    taken_values ps >>= λ e.
    one_value e.0.0 >>= λ d.
    taken_values e.1 >>= λ v.
    first_value v.0.0 >>= λ f.
    m kinds.TemplatePart (two d f.0) >>= λ t.
    Ok (record w { values = join w.values (more (child t) f.1) }, v.1)

unfoldable pub tail : Work → List Part → Gathered
tail w ps = taken_endings ps >>= λ e. Ok (record w { endings = w.endings ++ e.0 }, e.1)

unfoldable pub rest : Work → List Part → Gathered
rest w ps = taken_items ps >>= λ i. Ok (record w { items = i.0 }, i.1)

unfoldable pub with_statements : Work → List Part → Gathered
with_statements w ps = taken_items ps >>= λ i. with_value (listed (statements i.0)) w i.1

unfoldable pub body : Maker → Work → List Part → Gathered
body m w ps =
    taken_items ps >>= λ i.
    directives m i.0 >>= λ ds.
    Ok (record w { values = join w.values (one (listed (statements (behind_directives i.0)))); directives = ds }, i.1)

unfoldable pub hold : Work → Work
hold w = record w { values = none; held = w.values }

unfoldable pub resume : Work → Work
resume w = record w { values = join w.held (more (listed w.directives) w.values); held = none; directives = none }

unfoldable pub closed : Maker → Kind → Work → Result Work Fault
closed m k w = m k w.values >>= λ t. Ok (record w { values = one (child t) })

abbrev pub step_on : Maker → Step → Work → List Part → Gathered
step_on m steps.Skip w ps = skip w ps
step_on m steps.Put w ps = put w ps
step_on m steps.Operand w ps = operand w ps
step_on m steps.Wrap w ps = wrap w ps
step_on m steps.Text w ps = text w ps
step_on m steps.Whole w ps = whole_number w ps
step_on m (steps.Named k) w ps = named m k w ps
step_on m steps.Quoted w ps = quoted m w ps
step_on m (steps.Operator e) w ps = with_operator e w ps
step_on m steps.Parameter w ps = parameter m w ps
step_on m steps.TemplatePart w ps = template_part m w ps
step_on m steps.Tail w ps = tail w ps
step_on m steps.Rest w ps = rest w ps
step_on m steps.Statements w ps = with_statements w ps
step_on m steps.Body w ps = body m w ps
step_on m steps.Absent w ps = with_value absent w ps
step_on m steps.NoLabel w ps = with_value no_name w ps
step_on m steps.NoItems w ps = with_value (listed none) w ps
step_on m (steps.Flag b) w ps = with_value (flag b) w ps
step_on m (steps.Choice n) w ps = with_value (choice n) w ps
step_on m (steps.Scope k) w ps = with_node (m k no_names) w ps
step_on m steps.ParameterScope w ps = with_node (m kinds.AssertedParameterScope no_parameter_names) w ps
step_on m steps.Hold w ps = Ok (hold w, ps)
step_on m steps.Resume w ps = Ok (resume w, ps)
step_on m (steps.Close k) w ps = closed m k w >>= λ x. Ok (x, ps)

-- all steps, one after the other
abbrev pub gathered : Maker → List Step → Work → List Part → Gathered
gathered m [] w ps = Ok (w, ps)
gathered m (s ∷ ss) w ps = step_on m s w ps >>= λ r. gathered m ss r.0 r.1
