-- The definitions at small scripts, as the parser makes them: with empty scopes.
use Rattle.std.proofs.Common.{ℕ, [], ◌∷◌, ◌≡◌, refl, Option, Some, None, false}
use Rattle.std.specs.Prelude.{codes}
use Rattle.std.specs.Str.{chars}
use Rattle.bast_schema.specs.declared.kind.Kind.{Kind}
use Rattle.bast_schema.specs.declared.kind.Kind.TheVariants as kind
use Rattle.bast_schema.specs.Choices.{lexical_let, lexical_const, unary_delete}
use Rattle.bast_schema.specs.Tree.{Tree, branch, Datum, child, absent, listed, flag, whole, name, no_name, choice, Data, none, more}
use Rattle.scope_facts.specs.declared.context.Ctx.{Ctx}
use Rattle.scope_facts.specs.declared.context.Rule.{Rule}
use Rattle.scope_facts.specs.declared.context.Rule.TheVariants.{E1, E2, E3, E4, E5, E6, E7, E8, E9, E10, E11, E12, E13, E14, E15, E16, E17, E18}
use Rattle.scope_facts.specs.declared.context.Violation.{Violation}
use Rattle.early_errors.specs.Strict.{Texts}
use Rattle.early_errors.specs.Early.{early, early_rules, first}

-- the texts of the rows; `_` is the name that they use
abbrev texts : Texts
texts = Some (codes "_") ∷ Some (codes "use strict") ∷ Some (codes "eval") ∷ Some (codes "static") ∷ Some (codes "if") ∷ Some (10 ∷ []) ∷ []

abbrev around_script : Ctx
around_script = record { strict = false; own_strict = false; unique = false; function = false; scopes = [] }

abbrev one : Datum → Data
one d = more d none

abbrev node : Kind → Data → Datum
node k ds = child (branch k ds)

abbrev scope : Kind → Datum
scope k = node k (more (listed none) (one (flag false)))

abbrev script : Data → Data → Tree
script directives statements = branch kind.Script (more (listed directives) (more (scope kind.AssertedScriptGlobalScope) (one (listed statements))))

abbrev block : Data → Datum
block statements = node kind.Block (more (scope kind.AssertedBlockScope) (one (listed statements)))

abbrev binding : ℕ → Datum
binding n = node kind.BindingIdentifier (one (name n))

abbrev reference : ℕ → Datum
reference n = node kind.IdentifierExpression (one (name n))

abbrev number : Datum
number = node kind.LiteralNumericExpression (one (whole 1))

abbrev statement : Datum → Datum
statement d = node kind.ExpressionStatement (one d)

abbrev directive : ℕ → Datum
directive n = node kind.Directive (one (name n))

abbrev declarator : ℕ → Datum
declarator n = node kind.VariableDeclarator (more (binding n) (one absent))

abbrev lets : Data → Datum
lets ds = node kind.LexicalDeclaration (more (choice lexical_let) (one (listed ds)))

abbrev consts : Data → Datum
consts ds = node kind.LexicalDeclaration (more (choice lexical_const) (one (listed ds)))

abbrev vars : Data → Datum
vars ds = node kind.VarDeclaration (one (listed ds))

abbrev contents : Data → Data → Datum
contents params body = node kind.FunctionContents (more (node kind.AssertedParameterScope (more (listed none) (more (flag false) (one (flag false))))) (more (node kind.FormalParameters (more (listed params) (one absent))) (more (scope kind.AssertedVarScope) (one (listed body)))))

abbrev function : Data → Data → Data → Datum
function params directives body = node kind.EagerFunctionExpression (more absent (more (scope kind.AssertedBoundNamesScope) (more (listed directives) (one (contents params body)))))

abbrev found : Tree → Option Violation
found t = first (early texts around_script t)

abbrev breaks : ℕ → Rule → Option Violation
breaks n r = Some (record { node = n; rule = r; name = None })

abbrev breaks_name : ℕ → Rule → ℕ → Option Violation
breaks_name n r x = Some (record { node = n; rule = r; name = Some (record { 0 = x }) })

-- let _, _;
declared_twice : found (script none (one (lets (more (declarator 0) (one (declarator 0)))))) ≡ breaks_name 0 E1 0
unfolding early_rules chars
declared_twice = refl

-- let _; var _;
declared_by_both : found (script none (more (lets (one (declarator 0))) (one (vars (one (declarator 0)))))) ≡ breaks_name 0 E2 0
unfolding early_rules chars
declared_by_both = refl

-- (function(_){ let _ })
parameter_in_body : found (script none (one (statement (function (one (binding 0)) none (one (lets (one (declarator 0)))))))) ≡ breaks_name 5 E3 0
unfolding early_rules chars
parameter_in_body = refl

-- (_, _) => 1
parameter_twice : found (script none (one (statement (node kind.EagerArrowExpressionWithExpression (more (node kind.AssertedParameterScope (more (listed none) (more (flag false) (one (flag false))))) (more (node kind.FormalParameters (more (listed (more (binding 0) (one (binding 0)))) (one absent))) (one number))))))) ≡ breaks_name 3 E4 0
unfolding early_rules chars
parameter_twice = refl

-- (function(_, _){})
two_parameters : found (script none (one (statement (function (more (binding 0) (one (binding 0))) none none)))) ≡ None
unfolding early_rules chars
two_parameters = refl

-- (function(_ = 1){ "use strict" })
strict_with_initializer : found (script none (one (statement (function (one (node kind.BindingWithInitializer (more (binding 0) (one number)))) (one (directive 1)) none)))) ≡ breaks 6 E5
unfolding early_rules chars
strict_with_initializer = refl

-- "use strict"; eval = 1;
eval_assigned : found (script (one (directive 1)) (one (statement (node kind.AssignmentExpression (more (reference 2) (one number)))))) ≡ breaks_name 5 E6 2
unfolding early_rules chars
eval_assigned = refl

-- "use strict"; delete _;
name_deleted : found (script (one (directive 1)) (one (statement (node kind.UnaryExpression (more (choice unary_delete) (one (reference 0))))))) ≡ breaks_name 4 E7 0
unfolding early_rules chars
name_deleted = refl

-- "use strict"; static;
strict_word : found (script (one (directive 1)) (one (statement (reference 3)))) ≡ breaks_name 4 E8 3
unfolding early_rules chars
strict_word = refl

-- (function eval(){ "use strict" })
strict_name : found (script none (one (statement (node kind.EagerFunctionExpression (more (binding 2) (more (scope kind.AssertedBoundNamesScope) (more (listed (one (directive 1))) (one (contents none none))))))))) ≡ breaks_name 4 E6 2
unfolding early_rules chars
strict_name = refl

-- ({ [delete _](){ "use strict" } })
computed_key : found (script none (one (statement (node kind.ObjectExpression (one (listed (one (node kind.EagerMethod (more (node kind.ComputedPropertyName (one (node kind.UnaryExpression (more (choice unary_delete) (one (reference 0)))))) (more (listed (one (directive 1))) (one (contents none none)))))))))))) ≡ None
unfolding early_rules chars
computed_key = refl

-- const _;
bare_constant : found (script none (one (consts (one (declarator 0))))) ≡ breaks_name 3 E9 0
unfolding early_rules chars
bare_constant = refl

-- return 1;
return_outside : found (script none (one (node kind.ReturnStatement (one number)))) ≡ breaks 2 E10
unfolding early_rules chars
return_outside = refl

-- break;
break_outside : found (script none (one (node kind.BreakStatement (one no_name)))) ≡ breaks 2 E11
unfolding early_rules chars
break_outside = refl

-- break _;
break_nowhere : found (script none (one (node kind.BreakStatement (one (name 0))))) ≡ breaks_name 2 E12 0
unfolding early_rules chars
break_nowhere = refl

-- _: while (1) continue _;
continued : found (script none (one (node kind.LabelledStatement (more (name 0) (one (node kind.WhileStatement (more number (one (node kind.ContinueStatement (one (name 0))))))))))) ≡ None
unfolding early_rules chars
continued = refl

-- _: _: ;
label_twice : found (script none (one (node kind.LabelledStatement (more (name 0) (one (node kind.LabelledStatement (more (name 0) (one (node kind.EmptyStatement none))))))))) ≡ breaks_name 3 E13 0
unfolding early_rules chars
label_twice = refl

-- try {} catch (_) { let _ }
caught_and_declared : found (script none (one (node kind.TryCatchStatement (more (block none) (one (node kind.CatchClause (more (scope kind.AssertedBoundNamesScope) (more (binding 0) (one (block (one (lets (one (declarator 0)))))))))))))) ≡ breaks_name 5 E14 0
unfolding early_rules chars
caught_and_declared = refl

-- for (let _;;) { var _ }
head_and_body : found (script none (one (node kind.ForStatement (more (scope kind.AssertedBlockScope) (more (lets (one (declarator 0))) (more absent (more absent (one (block (one (vars (one (declarator 0))))))))))))) ≡ breaks_name 2 E15 0
unfolding early_rules chars
head_and_body = refl

-- 1 = 1;
number_assigned : found (script none (one (statement (node kind.AssignmentExpression (more number (one number)))))) ≡ breaks 4 E16
unfolding early_rules chars
number_assigned = refl

-- if;
reserved : found (script none (one (statement (reference 4)))) ≡ breaks_name 3 E17 4
unfolding early_rules chars
reserved = refl

-- a directive whose text is a line feed
unquoted : found (script (one (directive 5)) none) ≡ breaks 1 E18
unfolding early_rules chars
unquoted = refl
