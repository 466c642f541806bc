-- What each kind of node is for names: where they are used, and how they are declared.
use Rattle.std.specs.Prelude.{Bool, true, false}
use Rattle.bast_schema.specs.declared.kind.Kind.{Kind}
use Rattle.bast_schema.specs.declared.kind.Kind.TheVariants.{FunctionContents, GetterContents, SetterContents, EagerArrowExpressionWithExpression, AssertedScriptGlobalScope, AssertedVarScope, AssertedBlockScope, AssertedParameterScope, AssertedBoundNamesScope, IdentifierExpression, CallExpression, EagerFunctionDeclaration, LazyFunctionDeclaration, VarDeclaration, LexicalDeclaration, ForInOfBinding, SwitchCase, SwitchDefault, BindingIdentifier, FormalParameters}
use Rattle.scope_facts.specs.declared.roles.Part.{Part}
use Rattle.scope_facts.specs.declared.roles.Part.TheVariants.{Scope, Use, Call, Function, Other}
use Rattle.scope_facts.specs.declared.roles.Shape.{Shape}
use Rattle.scope_facts.specs.declared.roles.Shape.TheVariants as shape
use Rattle.scope_facts.specs.declared.roles.Form.{Form}
use Rattle.scope_facts.specs.declared.roles.Form.TheVariants.{Binding, VarStatement, LexicalStatement, FunctionStatement, Head, Case, Parameters, Inside, Plain}

-- what a kind is for the uses of names: the scopes, the references to identifiers (section 12.1 of ECMA-262),
-- the calls (12.3.4), and the nodes with which the inside of a function begins (14)
abbrev pub part : Kind → Part
part AssertedScriptGlobalScope = Scope
part AssertedVarScope = Scope
part AssertedBlockScope = Scope
part AssertedParameterScope = Scope
part AssertedBoundNamesScope = Scope
part IdentifierExpression = Use
part CallExpression = Call
part FunctionContents = Function
part GetterContents = Function
part SetterContents = Function
part EagerArrowExpressionWithExpression = Function
part _ = Other

-- what a kind is for the declarations of names (BoundNames, VarDeclaredNames and LexicallyDeclaredNames
-- of sections 12.1, 13 and 14 of ECMA-262)
abbrev pub form : Kind → Form
form BindingIdentifier = Binding
form VarDeclaration = VarStatement
form LexicalDeclaration = LexicalStatement
form EagerFunctionDeclaration = FunctionStatement
form LazyFunctionDeclaration = FunctionStatement
form ForInOfBinding = Head
form SwitchCase = Case
form SwitchDefault = Case
form FormalParameters = Parameters
form FunctionContents = Inside
form GetterContents = Inside
form SetterContents = Inside
form EagerArrowExpressionWithExpression = Inside
form _ = Plain

-- what a scope declares
abbrev pub shape_of : Kind → Shape
shape_of AssertedScriptGlobalScope = shape.Statements
shape_of AssertedVarScope = shape.Statements
shape_of AssertedBlockScope = shape.Lexical
shape_of AssertedParameterScope = shape.Parameters
shape_of AssertedBoundNamesScope = shape.BoundName
shape_of _ = shape.Nothing

abbrev pub is_scope_part : Part → Bool
is_scope_part Scope = true
is_scope_part _ = false

abbrev pub is_function : Part → Bool
is_function Function = true
is_function _ = false
