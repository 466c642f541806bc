-- The kinds of node, with their names and numbers.
use Rattle.std.specs.Prelude.{ℕ, Bool, true, false, List, [], ◌∷◌, codes, Option}
use Rattle.std.specs.List.{find}
use Rattle.std.specs.Str.{bytes_eq}
use lib.Dec.{eqb}
use Rattle.bast_schema.specs.declared.kind.Kind.{Kind}
use Rattle.bast_schema.specs.declared.kind.Kind.TheVariants.{Null, Script, AssertedScriptGlobalScope, AssertedVarScope, AssertedBlockScope, AssertedParameterScope, AssertedBoundNamesScope, AssertedDeclaredName, AssertedPositionalParameterName, AssertedRestParameterName, AssertedBoundName, Directive, BindingIdentifier, BindingWithInitializer, FormalParameters, FunctionContents, GetterContents, SetterContents, EagerFunctionDeclaration, LazyFunctionDeclaration, EagerMethod, LazyMethod, EagerGetter, LazyGetter, EagerSetter, LazySetter, LiteralPropertyName, ComputedPropertyName, DataProperty, ShorthandProperty, SpreadElement, TemplatePart, VariableDeclarator, ForInOfBinding, CatchClause, SwitchCase, SwitchDefault, Block, VarDeclaration, LexicalDeclaration, ExpressionStatement, EmptyStatement, DebuggerStatement, IfStatement, ForStatement, ForInStatement, ForOfStatement, WhileStatement, DoWhileStatement, ReturnStatement, BreakStatement, ContinueStatement, ThrowStatement, TryCatchStatement, TryFinallyStatement, SwitchStatement, SwitchStatementWithDefault, LabelledStatement, ThisExpression, LiteralNullExpression, LiteralBooleanExpression, LiteralNumericExpression, LiteralStringExpression, IdentifierExpression, TemplateExpression, ArrayExpression, ObjectExpression, EagerFunctionExpression, LazyFunctionExpression, EagerArrowExpressionWithFunctionBody, EagerArrowExpressionWithExpression, StaticMemberExpression, ComputedMemberExpression, CallExpression, NewExpression, UnaryExpression, UpdateExpression, BinaryExpression, AssignmentExpression, CompoundAssignmentExpression, ConditionalExpression, SequenceExpression}

-- the name of a kind
abbrev pub kind_name : Kind → List ℕ
kind_name Null = codes "_Null"
kind_name Script = codes "Script"
kind_name AssertedScriptGlobalScope = codes "AssertedScriptGlobalScope"
kind_name AssertedVarScope = codes "AssertedVarScope"
kind_name AssertedBlockScope = codes "AssertedBlockScope"
kind_name AssertedParameterScope = codes "AssertedParameterScope"
kind_name AssertedBoundNamesScope = codes "AssertedBoundNamesScope"
kind_name AssertedDeclaredName = codes "AssertedDeclaredName"
kind_name AssertedPositionalParameterName = codes "AssertedPositionalParameterName"
kind_name AssertedRestParameterName = codes "AssertedRestParameterName"
kind_name AssertedBoundName = codes "AssertedBoundName"
kind_name Directive = codes "Directive"
kind_name BindingIdentifier = codes "BindingIdentifier"
kind_name BindingWithInitializer = codes "BindingWithInitializer"
kind_name FormalParameters = codes "FormalParameters"
kind_name FunctionContents = codes "FunctionContents"
kind_name GetterContents = codes "GetterContents"
kind_name SetterContents = codes "SetterContents"
kind_name EagerFunctionDeclaration = codes "EagerFunctionDeclaration"
kind_name LazyFunctionDeclaration = codes "LazyFunctionDeclaration"
kind_name EagerMethod = codes "EagerMethod"
kind_name LazyMethod = codes "LazyMethod"
kind_name EagerGetter = codes "EagerGetter"
kind_name LazyGetter = codes "LazyGetter"
kind_name EagerSetter = codes "EagerSetter"
kind_name LazySetter = codes "LazySetter"
kind_name LiteralPropertyName = codes "LiteralPropertyName"
kind_name ComputedPropertyName = codes "ComputedPropertyName"
kind_name DataProperty = codes "DataProperty"
kind_name ShorthandProperty = codes "ShorthandProperty"
kind_name SpreadElement = codes "SpreadElement"
kind_name TemplatePart = codes "TemplatePart"
kind_name VariableDeclarator = codes "VariableDeclarator"
kind_name ForInOfBinding = codes "ForInOfBinding"
kind_name CatchClause = codes "CatchClause"
kind_name SwitchCase = codes "SwitchCase"
kind_name SwitchDefault = codes "SwitchDefault"
kind_name Block = codes "Block"
kind_name VarDeclaration = codes "VarDeclaration"
kind_name LexicalDeclaration = codes "LexicalDeclaration"
kind_name ExpressionStatement = codes "ExpressionStatement"
kind_name EmptyStatement = codes "EmptyStatement"
kind_name DebuggerStatement = codes "DebuggerStatement"
kind_name IfStatement = codes "IfStatement"
kind_name ForStatement = codes "ForStatement"
kind_name ForInStatement = codes "ForInStatement"
kind_name ForOfStatement = codes "ForOfStatement"
kind_name WhileStatement = codes "WhileStatement"
kind_name DoWhileStatement = codes "DoWhileStatement"
kind_name ReturnStatement = codes "ReturnStatement"
kind_name BreakStatement = codes "BreakStatement"
kind_name ContinueStatement = codes "ContinueStatement"
kind_name ThrowStatement = codes "ThrowStatement"
kind_name TryCatchStatement = codes "TryCatchStatement"
kind_name TryFinallyStatement = codes "TryFinallyStatement"
kind_name SwitchStatement = codes "SwitchStatement"
kind_name SwitchStatementWithDefault = codes "SwitchStatementWithDefault"
kind_name LabelledStatement = codes "LabelledStatement"
kind_name ThisExpression = codes "ThisExpression"
kind_name LiteralNullExpression = codes "LiteralNullExpression"
kind_name LiteralBooleanExpression = codes "LiteralBooleanExpression"
kind_name LiteralNumericExpression = codes "LiteralNumericExpression"
kind_name LiteralStringExpression = codes "LiteralStringExpression"
kind_name IdentifierExpression = codes "IdentifierExpression"
kind_name TemplateExpression = codes "TemplateExpression"
kind_name ArrayExpression = codes "ArrayExpression"
kind_name ObjectExpression = codes "ObjectExpression"
kind_name EagerFunctionExpression = codes "EagerFunctionExpression"
kind_name LazyFunctionExpression = codes "LazyFunctionExpression"
kind_name EagerArrowExpressionWithFunctionBody = codes "EagerArrowExpressionWithFunctionBody"
kind_name EagerArrowExpressionWithExpression = codes "EagerArrowExpressionWithExpression"
kind_name StaticMemberExpression = codes "StaticMemberExpression"
kind_name ComputedMemberExpression = codes "ComputedMemberExpression"
kind_name CallExpression = codes "CallExpression"
kind_name NewExpression = codes "NewExpression"
kind_name UnaryExpression = codes "UnaryExpression"
kind_name UpdateExpression = codes "UpdateExpression"
kind_name BinaryExpression = codes "BinaryExpression"
kind_name AssignmentExpression = codes "AssignmentExpression"
kind_name CompoundAssignmentExpression = codes "CompoundAssignmentExpression"
kind_name ConditionalExpression = codes "ConditionalExpression"
kind_name SequenceExpression = codes "SequenceExpression"

-- every kind, in order
abbrev pub kinds : List Kind
kinds = Null ∷ Script ∷ AssertedScriptGlobalScope ∷ AssertedVarScope ∷ AssertedBlockScope ∷ AssertedParameterScope ∷ AssertedBoundNamesScope ∷ AssertedDeclaredName ∷ AssertedPositionalParameterName ∷ AssertedRestParameterName ∷ AssertedBoundName ∷ Directive ∷ BindingIdentifier ∷ BindingWithInitializer ∷ FormalParameters ∷ FunctionContents ∷ GetterContents ∷ SetterContents ∷ EagerFunctionDeclaration ∷ LazyFunctionDeclaration ∷ EagerMethod ∷ LazyMethod ∷ EagerGetter ∷ LazyGetter ∷ EagerSetter ∷ LazySetter ∷ LiteralPropertyName ∷ ComputedPropertyName ∷ DataProperty ∷ ShorthandProperty ∷ SpreadElement ∷ TemplatePart ∷ VariableDeclarator ∷ ForInOfBinding ∷ CatchClause ∷ SwitchCase ∷ SwitchDefault ∷ Block ∷ VarDeclaration ∷ LexicalDeclaration ∷ ExpressionStatement ∷ EmptyStatement ∷ DebuggerStatement ∷ IfStatement ∷ ForStatement ∷ ForInStatement ∷ ForOfStatement ∷ WhileStatement ∷ DoWhileStatement ∷ ReturnStatement ∷ BreakStatement ∷ ContinueStatement ∷ ThrowStatement ∷ TryCatchStatement ∷ TryFinallyStatement ∷ SwitchStatement ∷ SwitchStatementWithDefault ∷ LabelledStatement ∷ ThisExpression ∷ LiteralNullExpression ∷ LiteralBooleanExpression ∷ LiteralNumericExpression ∷ LiteralStringExpression ∷ IdentifierExpression ∷ TemplateExpression ∷ ArrayExpression ∷ ObjectExpression ∷ EagerFunctionExpression ∷ LazyFunctionExpression ∷ EagerArrowExpressionWithFunctionBody ∷ EagerArrowExpressionWithExpression ∷ StaticMemberExpression ∷ ComputedMemberExpression ∷ CallExpression ∷ NewExpression ∷ UnaryExpression ∷ UpdateExpression ∷ BinaryExpression ∷ AssignmentExpression ∷ CompoundAssignmentExpression ∷ ConditionalExpression ∷ SequenceExpression ∷ []

-- the place of a kind among them
abbrev pub number : Kind → ℕ
number Null = 0
number Script = 1
number AssertedScriptGlobalScope = 2
number AssertedVarScope = 3
number AssertedBlockScope = 4
number AssertedParameterScope = 5
number AssertedBoundNamesScope = 6
number AssertedDeclaredName = 7
number AssertedPositionalParameterName = 8
number AssertedRestParameterName = 9
number AssertedBoundName = 10
number Directive = 11
number BindingIdentifier = 12
number BindingWithInitializer = 13
number FormalParameters = 14
number FunctionContents = 15
number GetterContents = 16
number SetterContents = 17
number EagerFunctionDeclaration = 18
number LazyFunctionDeclaration = 19
number EagerMethod = 20
number LazyMethod = 21
number EagerGetter = 22
number LazyGetter = 23
number EagerSetter = 24
number LazySetter = 25
number LiteralPropertyName = 26
number ComputedPropertyName = 27
number DataProperty = 28
number ShorthandProperty = 29
number SpreadElement = 30
number TemplatePart = 31
number VariableDeclarator = 32
number ForInOfBinding = 33
number CatchClause = 34
number SwitchCase = 35
number SwitchDefault = 36
number Block = 37
number VarDeclaration = 38
number LexicalDeclaration = 39
number ExpressionStatement = 40
number EmptyStatement = 41
number DebuggerStatement = 42
number IfStatement = 43
number ForStatement = 44
number ForInStatement = 45
number ForOfStatement = 46
number WhileStatement = 47
number DoWhileStatement = 48
number ReturnStatement = 49
number BreakStatement = 50
number ContinueStatement = 51
number ThrowStatement = 52
number TryCatchStatement = 53
number TryFinallyStatement = 54
number SwitchStatement = 55
number SwitchStatementWithDefault = 56
number LabelledStatement = 57
number ThisExpression = 58
number LiteralNullExpression = 59
number LiteralBooleanExpression = 60
number LiteralNumericExpression = 61
number LiteralStringExpression = 62
number IdentifierExpression = 63
number TemplateExpression = 64
number ArrayExpression = 65
number ObjectExpression = 66
number EagerFunctionExpression = 67
number LazyFunctionExpression = 68
number EagerArrowExpressionWithFunctionBody = 69
number EagerArrowExpressionWithExpression = 70
number StaticMemberExpression = 71
number ComputedMemberExpression = 72
number CallExpression = 73
number NewExpression = 74
number UnaryExpression = 75
number UpdateExpression = 76
number BinaryExpression = 77
number AssignmentExpression = 78
number CompoundAssignmentExpression = 79
number ConditionalExpression = 80
number SequenceExpression = 81

abbrev pub same_kind : Kind → Kind → Bool
same_kind j k = eqb (number j) (number k)

-- the kind of a name
abbrev pub kind_of_name : List ℕ → Option Kind
kind_of_name n = find (λ k. bytes_eq (kind_name k) n) kinds

-- whether a kind counts for the depth of a tree
abbrev pub counted : Kind → Bool
counted Null = false
counted AssertedScriptGlobalScope = false
counted AssertedVarScope = false
counted AssertedBlockScope = false
counted AssertedParameterScope = false
counted AssertedBoundNamesScope = false
counted AssertedDeclaredName = false
counted AssertedPositionalParameterName = false
counted AssertedRestParameterName = false
counted AssertedBoundName = false
counted _ = true
