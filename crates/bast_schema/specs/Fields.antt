-- The fields of each kind: their types and their names.
use Rattle.std.specs.Prelude.{ℕ, Bool, true, false, List, [], ◌∷◌, codes}
use Rattle.std.specs.List.{list_any}
use Rattle.bast_schema.specs.declared.kind.Kind.{Kind}
use Rattle.bast_schema.specs.declared.kind.Kind.TheVariants.{Null, Script, AssertedScriptGlobalScope, AssertedVarScope, AssertedBlockScope, AssertedParameterScope, AssertedBoundNamesScope, AssertedDeclaredName, AssertedPositionalParameterName, AssertedRestParameterName, AssertedBoundName, Directive, BindingIdentifier, BindingWithInitializer, FormalParameters, FunctionContents, GetterContents, SetterContents, EagerFunctionDeclaration, LazyFunctionDeclaration, EagerMethod, LazyMethod, EagerGetter, LazyGetter, EagerSetter, LazySetter, LiteralPropertyName, ComputedPropertyName, DataProperty, ShorthandProperty, SpreadElement, TemplatePart, VariableDeclarator, ForInOfBinding, CatchClause, SwitchCase, SwitchDefault, Block, VarDeclaration, LexicalDeclaration, ExpressionStatement, EmptyStatement, DebuggerStatement, IfStatement, ForStatement, ForInStatement, ForOfStatement, WhileStatement, DoWhileStatement, ReturnStatement, BreakStatement, ContinueStatement, ThrowStatement, TryCatchStatement, TryFinallyStatement, SwitchStatement, SwitchStatementWithDefault, LabelledStatement, ThisExpression, LiteralNullExpression, LiteralBooleanExpression, LiteralNumericExpression, LiteralStringExpression, IdentifierExpression, TemplateExpression, ArrayExpression, ObjectExpression, EagerFunctionExpression, LazyFunctionExpression, EagerArrowExpressionWithFunctionBody, EagerArrowExpressionWithExpression, StaticMemberExpression, ComputedMemberExpression, CallExpression, NewExpression, UnaryExpression, UpdateExpression, BinaryExpression, AssignmentExpression, CompoundAssignmentExpression, ConditionalExpression, SequenceExpression}
use Rattle.bast_schema.specs.declared.kind.Union.{Union}
use Rattle.bast_schema.specs.declared.kind.Union.TheVariants.{Body, Statement, Expression, Parameter, ParameterName, PropertyName, ObjectProperty, Argument, ForInit, ForTarget, One}
use Rattle.bast_schema.specs.declared.kind.EnumId.{EnumId}
use Rattle.bast_schema.specs.declared.kind.EnumId.TheVariants.{DeclaredKind, LexicalKind, ForKind, UnaryOperator, UpdateOperator, BinaryOperator, CompoundOperator}
use Rattle.bast_schema.specs.declared.kind.FieldType.{FieldType}
use Rattle.bast_schema.specs.declared.kind.FieldType.TheVariants as field

abbrev pub node : Union → FieldType
node u = field.Node u

abbrev pub optional : Union → FieldType
optional u = field.Optional u

abbrev pub list : Union → FieldType
list u = field.List u false false

abbrev pub list_with_holes : Union → FieldType
list_with_holes u = field.List u true false

abbrev pub filled_list : Union → FieldType
filled_list u = field.List u false true

abbrev pub flag : FieldType
flag = field.Bool

abbrev pub index : FieldType
index = field.Index

abbrev pub whole : FieldType
whole = field.Whole

abbrev pub text : FieldType
text = field.Text

abbrev pub name : FieldType
name = field.Name

abbrev pub label : FieldType
label = field.Label

abbrev pub choice : EnumId → FieldType
choice e = field.Choice e

abbrev pub lazy : Union → FieldType
lazy u = field.Lazy u

-- the fields of a kind, in order
abbrev pub fields : Kind → List FieldType
fields Null = []
fields Script = list (One Directive) ∷ node (One AssertedScriptGlobalScope) ∷ list Statement ∷ []
fields AssertedScriptGlobalScope = list (One AssertedDeclaredName) ∷ flag ∷ []
fields AssertedVarScope = list (One AssertedDeclaredName) ∷ flag ∷ []
fields AssertedBlockScope = list (One AssertedDeclaredName) ∷ flag ∷ []
fields AssertedParameterScope = list ParameterName ∷ flag ∷ flag ∷ []
fields AssertedBoundNamesScope = list (One AssertedBoundName) ∷ flag ∷ []
fields AssertedDeclaredName = name ∷ choice DeclaredKind ∷ flag ∷ []
fields AssertedPositionalParameterName = index ∷ name ∷ flag ∷ []
fields AssertedRestParameterName = name ∷ flag ∷ []
fields AssertedBoundName = name ∷ flag ∷ []
fields Directive = text ∷ []
fields BindingIdentifier = name ∷ []
fields BindingWithInitializer = node (One BindingIdentifier) ∷ node Expression ∷ []
fields FormalParameters = list Parameter ∷ optional (One BindingIdentifier) ∷ []
fields FunctionContents = node (One AssertedParameterScope) ∷ node (One FormalParameters) ∷ node (One AssertedVarScope) ∷ list Statement ∷ []
fields GetterContents = node (One AssertedVarScope) ∷ list Statement ∷ []
fields SetterContents = node (One AssertedParameterScope) ∷ node Parameter ∷ node (One AssertedVarScope) ∷ list Statement ∷ []
fields EagerFunctionDeclaration = node (One BindingIdentifier) ∷ list (One Directive) ∷ node (One FunctionContents) ∷ []
fields LazyFunctionDeclaration = node (One BindingIdentifier) ∷ list (One Directive) ∷ lazy (One FunctionContents) ∷ []
fields EagerMethod = node PropertyName ∷ list (One Directive) ∷ node (One FunctionContents) ∷ []
fields LazyMethod = node PropertyName ∷ list (One Directive) ∷ lazy (One FunctionContents) ∷ []
fields EagerGetter = node PropertyName ∷ list (One Directive) ∷ node (One GetterContents) ∷ []
fields LazyGetter = node PropertyName ∷ list (One Directive) ∷ lazy (One GetterContents) ∷ []
fields EagerSetter = node PropertyName ∷ list (One Directive) ∷ node (One SetterContents) ∷ []
fields LazySetter = node PropertyName ∷ list (One Directive) ∷ lazy (One SetterContents) ∷ []
fields LiteralPropertyName = text ∷ []
fields ComputedPropertyName = node Expression ∷ []
fields DataProperty = node PropertyName ∷ node Expression ∷ []
fields ShorthandProperty = node (One IdentifierExpression) ∷ []
fields SpreadElement = node Expression ∷ []
fields TemplatePart = node Expression ∷ text ∷ []
fields VariableDeclarator = node (One BindingIdentifier) ∷ optional Expression ∷ []
fields ForInOfBinding = choice ForKind ∷ node (One BindingIdentifier) ∷ []
fields CatchClause = node (One AssertedBoundNamesScope) ∷ node (One BindingIdentifier) ∷ node (One Block) ∷ []
fields SwitchCase = node Expression ∷ list Statement ∷ []
fields SwitchDefault = list Statement ∷ []
fields Block = node (One AssertedBlockScope) ∷ list Statement ∷ []
fields VarDeclaration = filled_list (One VariableDeclarator) ∷ []
fields LexicalDeclaration = choice LexicalKind ∷ filled_list (One VariableDeclarator) ∷ []
fields ExpressionStatement = node Expression ∷ []
fields EmptyStatement = []
fields DebuggerStatement = []
fields IfStatement = node Expression ∷ node Body ∷ optional Body ∷ []
fields ForStatement = node (One AssertedBlockScope) ∷ optional ForInit ∷ optional Expression ∷ optional Expression ∷ node Body ∷ []
fields ForInStatement = node (One AssertedBlockScope) ∷ node ForTarget ∷ node Expression ∷ node Body ∷ []
fields ForOfStatement = node (One AssertedBlockScope) ∷ node ForTarget ∷ node Expression ∷ node Body ∷ []
fields WhileStatement = node Expression ∷ node Body ∷ []
fields DoWhileStatement = node Body ∷ node Expression ∷ []
fields ReturnStatement = optional Expression ∷ []
fields BreakStatement = label ∷ []
fields ContinueStatement = label ∷ []
fields ThrowStatement = node Expression ∷ []
fields TryCatchStatement = node (One Block) ∷ node (One CatchClause) ∷ []
fields TryFinallyStatement = node (One Block) ∷ optional (One CatchClause) ∷ node (One Block) ∷ []
fields SwitchStatement = node Expression ∷ node (One AssertedBlockScope) ∷ list (One SwitchCase) ∷ []
fields SwitchStatementWithDefault = node Expression ∷ node (One AssertedBlockScope) ∷ list (One SwitchCase) ∷ node (One SwitchDefault) ∷ list (One SwitchCase) ∷ []
fields LabelledStatement = name ∷ node Body ∷ []
fields ThisExpression = []
fields LiteralNullExpression = []
fields LiteralBooleanExpression = flag ∷ []
fields LiteralNumericExpression = whole ∷ []
fields LiteralStringExpression = text ∷ []
fields IdentifierExpression = name ∷ []
fields TemplateExpression = text ∷ list (One TemplatePart) ∷ []
fields ArrayExpression = list_with_holes Argument ∷ []
fields ObjectExpression = list ObjectProperty ∷ []
fields EagerFunctionExpression = optional (One BindingIdentifier) ∷ node (One AssertedBoundNamesScope) ∷ list (One Directive) ∷ node (One FunctionContents) ∷ []
fields LazyFunctionExpression = optional (One BindingIdentifier) ∷ node (One AssertedBoundNamesScope) ∷ list (One Directive) ∷ lazy (One FunctionContents) ∷ []
fields EagerArrowExpressionWithFunctionBody = list (One Directive) ∷ node (One FunctionContents) ∷ []
fields EagerArrowExpressionWithExpression = node (One AssertedParameterScope) ∷ node (One FormalParameters) ∷ node Expression ∷ []
fields StaticMemberExpression = node Expression ∷ name ∷ []
fields ComputedMemberExpression = node Expression ∷ node Expression ∷ []
fields CallExpression = node Expression ∷ list Argument ∷ []
fields NewExpression = node Expression ∷ list Argument ∷ []
fields UnaryExpression = choice UnaryOperator ∷ node Expression ∷ []
fields UpdateExpression = flag ∷ choice UpdateOperator ∷ node Expression ∷ []
fields BinaryExpression = choice BinaryOperator ∷ node Expression ∷ node Expression ∷ []
fields AssignmentExpression = node Expression ∷ node Expression ∷ []
fields CompoundAssignmentExpression = choice CompoundOperator ∷ node Expression ∷ node Expression ∷ []
fields ConditionalExpression = node Expression ∷ node Expression ∷ node Expression ∷ []
fields SequenceExpression = node Expression ∷ filled_list Expression ∷ []

-- their names
abbrev pub field_names : Kind → List (List ℕ)
field_names Null = []
field_names Script = codes "directives" ∷ codes "scope" ∷ codes "statements" ∷ []
field_names AssertedScriptGlobalScope = codes "declaredNames" ∷ codes "hasDirectEval" ∷ []
field_names AssertedVarScope = codes "declaredNames" ∷ codes "hasDirectEval" ∷ []
field_names AssertedBlockScope = codes "declaredNames" ∷ codes "hasDirectEval" ∷ []
field_names AssertedParameterScope = codes "paramNames" ∷ codes "hasDirectEval" ∷ codes "isSimpleParameterList" ∷ []
field_names AssertedBoundNamesScope = codes "boundNames" ∷ codes "hasDirectEval" ∷ []
field_names AssertedDeclaredName = codes "name" ∷ codes "kind" ∷ codes "isCaptured" ∷ []
field_names AssertedPositionalParameterName = codes "index" ∷ codes "name" ∷ codes "isCaptured" ∷ []
field_names AssertedRestParameterName = codes "name" ∷ codes "isCaptured" ∷ []
field_names AssertedBoundName = codes "name" ∷ codes "isCaptured" ∷ []
field_names Directive = codes "rawValue" ∷ []
field_names BindingIdentifier = codes "name" ∷ []
field_names BindingWithInitializer = codes "binding" ∷ codes "initializer" ∷ []
field_names FormalParameters = codes "items" ∷ codes "rest" ∷ []
field_names FunctionContents = codes "parameterScope" ∷ codes "params" ∷ codes "bodyScope" ∷ codes "body" ∷ []
field_names GetterContents = codes "bodyScope" ∷ codes "body" ∷ []
field_names SetterContents = codes "parameterScope" ∷ codes "param" ∷ codes "bodyScope" ∷ codes "body" ∷ []
field_names EagerFunctionDeclaration = codes "name" ∷ codes "directives" ∷ codes "contents" ∷ []
field_names LazyFunctionDeclaration = codes "name" ∷ codes "directives" ∷ codes "contents" ∷ []
field_names EagerMethod = codes "name" ∷ codes "directives" ∷ codes "contents" ∷ []
field_names LazyMethod = codes "name" ∷ codes "directives" ∷ codes "contents" ∷ []
field_names EagerGetter = codes "name" ∷ codes "directives" ∷ codes "contents" ∷ []
field_names LazyGetter = codes "name" ∷ codes "directives" ∷ codes "contents" ∷ []
field_names EagerSetter = codes "name" ∷ codes "directives" ∷ codes "contents" ∷ []
field_names LazySetter = codes "name" ∷ codes "directives" ∷ codes "contents" ∷ []
field_names LiteralPropertyName = codes "value" ∷ []
field_names ComputedPropertyName = codes "expression" ∷ []
field_names DataProperty = codes "name" ∷ codes "expression" ∷ []
field_names ShorthandProperty = codes "name" ∷ []
field_names SpreadElement = codes "expression" ∷ []
field_names TemplatePart = codes "expression" ∷ codes "tail" ∷ []
field_names VariableDeclarator = codes "binding" ∷ codes "init" ∷ []
field_names ForInOfBinding = codes "kind" ∷ codes "binding" ∷ []
field_names CatchClause = codes "bindingScope" ∷ codes "binding" ∷ codes "body" ∷ []
field_names SwitchCase = codes "test" ∷ codes "consequent" ∷ []
field_names SwitchDefault = codes "consequent" ∷ []
field_names Block = codes "scope" ∷ codes "statements" ∷ []
field_names VarDeclaration = codes "declarators" ∷ []
field_names LexicalDeclaration = codes "kind" ∷ codes "declarators" ∷ []
field_names ExpressionStatement = codes "expression" ∷ []
field_names EmptyStatement = []
field_names DebuggerStatement = []
field_names IfStatement = codes "test" ∷ codes "consequent" ∷ codes "alternate" ∷ []
field_names ForStatement = codes "scope" ∷ codes "init" ∷ codes "test" ∷ codes "update" ∷ codes "body" ∷ []
field_names ForInStatement = codes "scope" ∷ codes "left" ∷ codes "right" ∷ codes "body" ∷ []
field_names ForOfStatement = codes "scope" ∷ codes "left" ∷ codes "right" ∷ codes "body" ∷ []
field_names WhileStatement = codes "test" ∷ codes "body" ∷ []
field_names DoWhileStatement = codes "body" ∷ codes "test" ∷ []
field_names ReturnStatement = codes "expression" ∷ []
field_names BreakStatement = codes "label" ∷ []
field_names ContinueStatement = codes "label" ∷ []
field_names ThrowStatement = codes "expression" ∷ []
field_names TryCatchStatement = codes "body" ∷ codes "catchClause" ∷ []
field_names TryFinallyStatement = codes "body" ∷ codes "catchClause" ∷ codes "finalizer" ∷ []
field_names SwitchStatement = codes "discriminant" ∷ codes "scope" ∷ codes "cases" ∷ []
field_names SwitchStatementWithDefault = codes "discriminant" ∷ codes "scope" ∷ codes "preDefaultCases" ∷ codes "defaultCase" ∷ codes "postDefaultCases" ∷ []
field_names LabelledStatement = codes "label" ∷ codes "body" ∷ []
field_names ThisExpression = []
field_names LiteralNullExpression = []
field_names LiteralBooleanExpression = codes "value" ∷ []
field_names LiteralNumericExpression = codes "value" ∷ []
field_names LiteralStringExpression = codes "value" ∷ []
field_names IdentifierExpression = codes "name" ∷ []
field_names TemplateExpression = codes "head" ∷ codes "parts" ∷ []
field_names ArrayExpression = codes "elements" ∷ []
field_names ObjectExpression = codes "properties" ∷ []
field_names EagerFunctionExpression = codes "name" ∷ codes "selfScope" ∷ codes "directives" ∷ codes "contents" ∷ []
field_names LazyFunctionExpression = codes "name" ∷ codes "selfScope" ∷ codes "directives" ∷ codes "contents" ∷ []
field_names EagerArrowExpressionWithFunctionBody = codes "directives" ∷ codes "contents" ∷ []
field_names EagerArrowExpressionWithExpression = codes "parameterScope" ∷ codes "params" ∷ codes "expression" ∷ []
field_names StaticMemberExpression = codes "object" ∷ codes "property" ∷ []
field_names ComputedMemberExpression = codes "object" ∷ codes "expression" ∷ []
field_names CallExpression = codes "callee" ∷ codes "arguments" ∷ []
field_names NewExpression = codes "callee" ∷ codes "arguments" ∷ []
field_names UnaryExpression = codes "operator" ∷ codes "operand" ∷ []
field_names UpdateExpression = codes "isPrefix" ∷ codes "operator" ∷ codes "operand" ∷ []
field_names BinaryExpression = codes "operator" ∷ codes "left" ∷ codes "right" ∷ []
field_names AssignmentExpression = codes "binding" ∷ codes "expression" ∷ []
field_names CompoundAssignmentExpression = codes "operator" ∷ codes "binding" ∷ codes "expression" ∷ []
field_names ConditionalExpression = codes "test" ∷ codes "consequent" ∷ codes "alternate" ∷ []
field_names SequenceExpression = codes "first" ∷ codes "rest" ∷ []

abbrev pub is_lazy_type : FieldType → Bool
is_lazy_type (field.Lazy u) = true
is_lazy_type _ = false

-- whether a kind has a lazy field
abbrev pub has_lazy : Kind → Bool
has_lazy k = list_any is_lazy_type (fields k)
