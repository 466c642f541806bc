-- The unions with their kinds.
use Rattle.std.specs.Prelude.{Bool, List, [], ◌∷◌, ◌++◌}
use Rattle.std.specs.List.{list_any}
use Rattle.bast_schema.specs.declared.kind.Kind.{Kind}
use Rattle.bast_schema.specs.declared.kind.Kind.TheVariants.{AssertedPositionalParameterName, AssertedRestParameterName, BindingIdentifier, BindingWithInitializer, EagerFunctionDeclaration, LazyFunctionDeclaration, EagerMethod, LazyMethod, EagerGetter, LazyGetter, EagerSetter, LazySetter, LiteralPropertyName, ComputedPropertyName, DataProperty, ShorthandProperty, SpreadElement, ForInOfBinding, Block, VarDeclaration, LexicalDeclaration, ExpressionStatement, EmptyStatement, DebuggerStatement, IfStatement, ForStatement, ForInStatement, ForOfStatement, WhileStatement, DoWhileStatement, ReturnStatement, BreakStatement, ContinueStatement, ThrowStatement, TryCatchStatement, TryFinallyStatement, SwitchStatement, SwitchStatementWithDefault, LabelledStatement, ThisExpression, LiteralNullExpression, LiteralBooleanExpression, LiteralNumericExpression, LiteralStringExpression, IdentifierExpression, TemplateExpression, ArrayExpression, ObjectExpression, EagerFunctionExpression, LazyFunctionExpression, EagerArrowExpressionWithFunctionBody, EagerArrowExpressionWithExpression, StaticMemberExpression, ComputedMemberExpression, CallExpression, NewExpression, UnaryExpression, UpdateExpression, BinaryExpression, AssignmentExpression, CompoundAssignmentExpression, ConditionalExpression, SequenceExpression}
use Rattle.bast_schema.specs.declared.kind.Union.{Union}
use Rattle.bast_schema.specs.declared.kind.Union.TheVariants.{Body, Statement, Expression, Parameter, ParameterName, PropertyName, ObjectProperty, Argument, ForInit, ForTarget, One}
use Rattle.bast_schema.specs.Kinds.{same_kind}

-- the statements that may stand under another
abbrev pub bodies : List Kind
bodies = Block ∷ VarDeclaration ∷ ExpressionStatement ∷ EmptyStatement ∷ DebuggerStatement ∷ IfStatement ∷ ForStatement ∷ ForInStatement ∷ ForOfStatement ∷ WhileStatement ∷ DoWhileStatement ∷ ReturnStatement ∷ BreakStatement ∷ ContinueStatement ∷ ThrowStatement ∷ TryCatchStatement ∷ TryFinallyStatement ∷ SwitchStatement ∷ SwitchStatementWithDefault ∷ LabelledStatement ∷ []

abbrev pub expressions : List Kind
expressions = ThisExpression ∷ LiteralNullExpression ∷ LiteralBooleanExpression ∷ LiteralNumericExpression ∷ LiteralStringExpression ∷ IdentifierExpression ∷ TemplateExpression ∷ ArrayExpression ∷ ObjectExpression ∷ EagerFunctionExpression ∷ LazyFunctionExpression ∷ EagerArrowExpressionWithFunctionBody ∷ EagerArrowExpressionWithExpression ∷ StaticMemberExpression ∷ ComputedMemberExpression ∷ CallExpression ∷ NewExpression ∷ UnaryExpression ∷ UpdateExpression ∷ BinaryExpression ∷ AssignmentExpression ∷ CompoundAssignmentExpression ∷ ConditionalExpression ∷ SequenceExpression ∷ []

-- the kinds of a union
abbrev pub kinds_in : Union → List Kind
kinds_in Body = bodies
kinds_in Statement = bodies ++ LexicalDeclaration ∷ EagerFunctionDeclaration ∷ LazyFunctionDeclaration ∷ []
kinds_in Expression = expressions
kinds_in Parameter = BindingIdentifier ∷ BindingWithInitializer ∷ []
kinds_in ParameterName = AssertedPositionalParameterName ∷ AssertedRestParameterName ∷ []
kinds_in PropertyName = LiteralPropertyName ∷ ComputedPropertyName ∷ []
kinds_in ObjectProperty = DataProperty ∷ ShorthandProperty ∷ EagerMethod ∷ LazyMethod ∷ EagerGetter ∷ LazyGetter ∷ EagerSetter ∷ LazySetter ∷ []
kinds_in Argument = expressions ++ SpreadElement ∷ []
kinds_in ForInit = VarDeclaration ∷ LexicalDeclaration ∷ expressions
kinds_in ForTarget = ForInOfBinding ∷ expressions
kinds_in (One k) = k ∷ []

-- whether a kind is in a union
abbrev pub allowed : Union → Kind → Bool
allowed u k = list_any (λ j. same_kind j k) (kinds_in u)
