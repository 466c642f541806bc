-- How each row puts the parts of its symbols together. Sections are those of ECMA-262, 6th edition.
use Rattle.std.specs.Prelude.{true, false, List, [], ◌∷◌}
use Rattle.bast_schema.specs.declared.kind.EnumId.TheVariants as sets
use Rattle.bast_schema.specs.declared.kind.Kind.TheVariants as kinds
use Rattle.bast_schema.specs.Choices.{lexical_let, lexical_const}
use Rattle.js_grammar.specs.declared.symbols.RowId.{RowId}
use Rattle.js_grammar.specs.declared.symbols.RowId.TheVariants as rows
use Rattle.js_tree.specs.declared.recipe.Declared.TheVariants as declared
use Rattle.js_tree.specs.declared.recipe.Finish.{Finish}
use Rattle.js_tree.specs.declared.recipe.Finish.TheVariants as finishes
use Rattle.js_tree.specs.declared.recipe.Step.{Step}
use Rattle.js_tree.specs.declared.recipe.Step.TheVariants as steps

-- an operand with what is put around it
abbrev pub operand_with_tail : List Step × Finish
operand_with_tail = (steps.Operand ∷ steps.Tail ∷ [], finishes.Folds)

-- nothing is put around an operand
abbrev pub no_endings : List Step × Finish
no_endings = ([], finishes.Endings)

-- one symbol, which stands for the row as it is
abbrev pub one_symbol : List Step × Finish
one_symbol = ([], finishes.Same)

-- the steps that gather, and what is made of what was gathered
abbrev pub recipe : RowId → List Step × Finish
-- Scripts and lists of statements and declarations (15.1, 13.2)
recipe rows.Script = (steps.Hold ∷ (steps.Scope kinds.AssertedScriptGlobalScope) ∷ steps.Body ∷ steps.Skip ∷ steps.Resume ∷ (steps.Close kinds.Script) ∷ [], finishes.Values)
recipe rows.Items = (steps.Operand ∷ steps.Rest ∷ [], finishes.Items)
recipe rows.ItemsEmpty = ([], finishes.NoItems)
recipe rows.ItemFunction = one_symbol
recipe rows.ItemLexical = one_symbol
recipe rows.ItemStat = one_symbol
-- Declarations of variables (13.3)
recipe rows.LexicalLet = (steps.Skip ∷ (steps.Choice lexical_let) ∷ steps.Wrap ∷ steps.Skip ∷ (steps.Close kinds.LexicalDeclaration) ∷ [], finishes.Values)
recipe rows.LexicalConst = (steps.Skip ∷ (steps.Choice lexical_const) ∷ steps.Wrap ∷ steps.Skip ∷ (steps.Close kinds.LexicalDeclaration) ∷ [], finishes.Values)
recipe (rows.Decls m) = (steps.Put ∷ steps.Put ∷ [], finishes.Values)
recipe (rows.DeclTail m) = (steps.Skip ∷ steps.Put ∷ steps.Put ∷ [], finishes.Values)
recipe (rows.DeclTailEmpty m) = ([], finishes.Values)
recipe (rows.Decl m) = ((steps.Named kinds.BindingIdentifier) ∷ steps.Put ∷ (steps.Close kinds.VariableDeclarator) ∷ [], finishes.Values)
recipe (rows.Init m) = (steps.Skip ∷ steps.Put ∷ [], finishes.Values)
recipe (rows.InitEmpty m) = (steps.Absent ∷ [], finishes.Values)
-- Functions and their parameters (14.1)
recipe rows.Function = (steps.Skip ∷ (steps.Named kinds.BindingIdentifier) ∷ steps.Hold ∷ steps.Skip ∷ steps.ParameterScope ∷ steps.Put ∷ steps.Skip ∷ steps.Skip ∷ (steps.Scope kinds.AssertedVarScope) ∷ steps.Body ∷ steps.Skip ∷ (steps.Close kinds.FunctionContents) ∷ steps.Resume ∷ (steps.Close kinds.EagerFunctionDeclaration) ∷ [], finishes.Values)
recipe rows.Params = (steps.Parameter ∷ steps.Put ∷ [], finishes.Parameters)
recipe rows.ParamsRest = (steps.Skip ∷ steps.NoItems ∷ (steps.Named kinds.BindingIdentifier) ∷ (steps.Close kinds.FormalParameters) ∷ [], finishes.Values)
recipe rows.ParamsEmpty = (steps.NoItems ∷ steps.Absent ∷ (steps.Close kinds.FormalParameters) ∷ [], finishes.Values)
recipe rows.ParamTail = (steps.Skip ∷ steps.Put ∷ [], finishes.Values)
recipe rows.ParamTailEmpty = (steps.Absent ∷ [], finishes.Values)
recipe rows.ParamNext = (steps.Parameter ∷ steps.Put ∷ [], finishes.Values)
recipe rows.ParamNextRest = (steps.Skip ∷ (steps.Named kinds.BindingIdentifier) ∷ [], finishes.Values)
-- Statements (13)
recipe rows.Body = one_symbol
recipe rows.StatBlock = one_symbol
recipe rows.StatVar = (steps.Skip ∷ steps.Wrap ∷ steps.Skip ∷ (steps.Close kinds.VarDeclaration) ∷ [], finishes.Values)
recipe rows.StatEmpty = (steps.Skip ∷ (steps.Close kinds.EmptyStatement) ∷ [], finishes.Values)
recipe rows.StatDebugger = (steps.Skip ∷ steps.Skip ∷ (steps.Close kinds.DebuggerStatement) ∷ [], finishes.Values)
recipe rows.StatIf = (steps.Skip ∷ steps.Skip ∷ steps.Put ∷ steps.Skip ∷ steps.Put ∷ steps.Put ∷ (steps.Close kinds.IfStatement) ∷ [], finishes.Values)
recipe rows.StatFor = (steps.Skip ∷ steps.Skip ∷ steps.Tail ∷ steps.Skip ∷ steps.Put ∷ [], finishes.Folds)
recipe rows.StatWhile = (steps.Skip ∷ steps.Skip ∷ steps.Put ∷ steps.Skip ∷ steps.Put ∷ (steps.Close kinds.WhileStatement) ∷ [], finishes.Values)
recipe rows.StatDo = (steps.Skip ∷ steps.Put ∷ steps.Skip ∷ steps.Skip ∷ steps.Put ∷ steps.Skip ∷ steps.Put ∷ (steps.Close kinds.DoWhileStatement) ∷ [], finishes.Values)
recipe rows.StatContinue = (steps.Skip ∷ steps.Put ∷ (steps.Close kinds.ContinueStatement) ∷ [], finishes.Values)
recipe rows.StatBreak = (steps.Skip ∷ steps.Put ∷ (steps.Close kinds.BreakStatement) ∷ [], finishes.Values)
recipe rows.StatReturn = (steps.Skip ∷ steps.Put ∷ (steps.Close kinds.ReturnStatement) ∷ [], finishes.Values)
recipe rows.StatThrow = (steps.Skip ∷ steps.Put ∷ (steps.Close kinds.ThrowStatement) ∷ [], finishes.Values)
recipe rows.StatSwitch = (steps.Skip ∷ steps.Skip ∷ steps.Put ∷ steps.Skip ∷ steps.Skip ∷ (steps.Scope kinds.AssertedBlockScope) ∷ steps.Hold ∷ steps.Put ∷ steps.Skip ∷ [], finishes.Switch)
recipe rows.StatTry = (steps.Skip ∷ steps.Put ∷ steps.Tail ∷ [], finishes.Folds)
recipe rows.StatExpr = (steps.Operand ∷ steps.Tail ∷ [], finishes.Statement)
-- Blocks, and what ends statements (13.2, 13.6, 13.7, 13.8 to 13.10, 13.13, 13.14)
recipe rows.Block = (steps.Skip ∷ (steps.Scope kinds.AssertedBlockScope) ∷ steps.Statements ∷ steps.Skip ∷ (steps.Close kinds.Block) ∷ [], finishes.Values)
recipe rows.Else = (steps.Skip ∷ steps.Put ∷ [], finishes.Values)
recipe rows.ElseEmpty = (steps.Absent ∷ [], finishes.Values)
recipe rows.DoEnd = (steps.Skip ∷ [], finishes.Values)
recipe rows.DoEndEmpty = ([], finishes.Values)
recipe rows.JumpLabel = (steps.Text ∷ steps.Skip ∷ [], finishes.Values)
recipe rows.JumpPlain = (steps.NoLabel ∷ steps.Skip ∷ [], finishes.Values)
recipe rows.RetExpr = (steps.Put ∷ steps.Skip ∷ [], finishes.Values)
recipe rows.RetPlain = (steps.Absent ∷ steps.Skip ∷ [], finishes.Values)
recipe rows.Throw = (steps.Put ∷ steps.Skip ∷ [], finishes.Values)
recipe rows.LabelBody = (steps.Skip ∷ steps.Put ∷ [], finishes.EndsLabel kinds.LabelledStatement)
recipe rows.LabelSemi = (steps.Skip ∷ [], finishes.Endings)
-- The heads of for loops (13.7)
recipe rows.ForHeadVar = (steps.Skip ∷ (steps.Named kinds.BindingIdentifier) ∷ steps.Tail ∷ [], finishes.Binds declared.Var)
recipe rows.ForHeadLet = (steps.Skip ∷ (steps.Named kinds.BindingIdentifier) ∷ steps.Tail ∷ [], finishes.Binds declared.Let)
recipe rows.ForHeadConst = (steps.Skip ∷ (steps.Named kinds.BindingIdentifier) ∷ steps.Tail ∷ [], finishes.Binds declared.Const)
recipe rows.ForHeadEmpty = (steps.Skip ∷ steps.Absent ∷ steps.Tail ∷ [], finishes.Fills)
recipe rows.ForHeadExpr = (steps.Put ∷ steps.Tail ∷ [], finishes.Fills)
recipe rows.ForBindIn = ((steps.Scope kinds.AssertedBlockScope) ∷ steps.Hold ∷ steps.Skip ∷ steps.Put ∷ [], finishes.Ends kinds.ForInStatement)
recipe rows.ForBindOf = ((steps.Scope kinds.AssertedBlockScope) ∷ steps.Hold ∷ steps.Skip ∷ steps.Put ∷ [], finishes.Ends kinds.ForOfStatement)
recipe rows.ForBindInit = (steps.Put ∷ steps.Put ∷ steps.Skip ∷ steps.Tail ∷ [], finishes.Declares)
recipe rows.ForExprIn = ((steps.Scope kinds.AssertedBlockScope) ∷ steps.Hold ∷ steps.Skip ∷ steps.Put ∷ [], finishes.Ends kinds.ForInStatement)
recipe rows.ForExprOf = ((steps.Scope kinds.AssertedBlockScope) ∷ steps.Hold ∷ steps.Skip ∷ steps.Put ∷ [], finishes.Ends kinds.ForOfStatement)
recipe rows.ForExprRest = (steps.Skip ∷ steps.Tail ∷ [], finishes.Endings)
recipe rows.ForRest = ((steps.Scope kinds.AssertedBlockScope) ∷ steps.Hold ∷ steps.Put ∷ steps.Skip ∷ steps.Put ∷ [], finishes.Ends kinds.ForStatement)
recipe rows.ExprOpt = (steps.Put ∷ [], finishes.Values)
recipe rows.ExprOptEmpty = (steps.Absent ∷ [], finishes.Values)
-- The clauses of switch and try (13.12, 13.15)
recipe rows.CasesCase = (steps.Skip ∷ steps.Put ∷ steps.Skip ∷ steps.Statements ∷ (steps.Close kinds.SwitchCase) ∷ steps.Put ∷ [], finishes.Values)
recipe rows.CasesDefault = (steps.Skip ∷ steps.Skip ∷ steps.Statements ∷ (steps.Close kinds.SwitchDefault) ∷ steps.Put ∷ [], finishes.Values)
recipe rows.CasesEmpty = ([], finishes.Values)
recipe rows.CasesDCase = (steps.Skip ∷ steps.Put ∷ steps.Skip ∷ steps.Statements ∷ (steps.Close kinds.SwitchCase) ∷ steps.Put ∷ [], finishes.Values)
recipe rows.CasesDEmpty = ([], finishes.Values)
recipe rows.TryRestCatch = (steps.Skip ∷ steps.Skip ∷ (steps.Scope kinds.AssertedBoundNamesScope) ∷ (steps.Named kinds.BindingIdentifier) ∷ steps.Skip ∷ steps.Put ∷ (steps.Close kinds.CatchClause) ∷ steps.Put ∷ [], finishes.Tries)
recipe rows.TryRestFinally = (steps.Absent ∷ steps.Skip ∷ steps.Put ∷ [], finishes.Ends kinds.TryFinallyStatement)
recipe rows.Fin = (steps.Skip ∷ steps.Put ∷ [], finishes.Values)
recipe rows.FinEmpty = ([], finishes.Values)
-- Expressions, assignments, arrow functions, conditionals (12.13 to 12.15, 14.2)
recipe (rows.Expr m) = (steps.Operand ∷ steps.Hold ∷ steps.Put ∷ [], finishes.Sequence)
recipe (rows.Comma m) = (steps.Skip ∷ steps.Put ∷ steps.Put ∷ [], finishes.Values)
recipe (rows.CommaEmpty m) = ([], finishes.Values)
recipe (rows.Assign m) = operand_with_tail
recipe (rows.AssignTailEquals m) = (steps.Skip ∷ steps.Put ∷ [], finishes.Ends kinds.AssignmentExpression)
recipe (rows.AssignTailCompound m) = ((steps.Operator sets.CompoundOperator) ∷ steps.Hold ∷ steps.Put ∷ [], finishes.Ends kinds.CompoundAssignmentExpression)
recipe (rows.AssignTailArrow m) = (steps.Skip ∷ steps.Tail ∷ [], finishes.Endings)
recipe (rows.AssignTailEmpty m) = no_endings
recipe (rows.ArrowBody m) = (steps.Skip ∷ steps.Body ∷ steps.Skip ∷ [], finishes.ArrowBody)
recipe (rows.ArrowExpr m) = (steps.ParameterScope ∷ steps.Hold ∷ steps.Put ∷ [], finishes.EndsParameters kinds.EagerArrowExpressionWithExpression)
recipe (rows.Cond m) = operand_with_tail
recipe (rows.CondTail m) = (steps.Skip ∷ steps.Put ∷ steps.Skip ∷ steps.Put ∷ [], finishes.Ends kinds.ConditionalExpression)
recipe (rows.CondTailEmpty m) = no_endings
-- Binary operators (12.6 to 12.12)
recipe (rows.Level n m) = operand_with_tail
recipe (rows.LevelTail n m) = ((steps.Operator sets.BinaryOperator) ∷ steps.Hold ∷ steps.Put ∷ steps.Tail ∷ [], finishes.Ends kinds.BinaryExpression)
recipe (rows.LevelTailEmpty n m) = no_endings
-- Unary operators and updates (12.4, 12.5)
recipe rows.UnaryOperator = ((steps.Operator sets.UnaryOperator) ∷ steps.Put ∷ (steps.Close kinds.UnaryExpression) ∷ [], finishes.Values)
recipe rows.UnaryIncrement = ((steps.Flag true) ∷ (steps.Operator sets.UpdateOperator) ∷ steps.Put ∷ (steps.Close kinds.UpdateExpression) ∷ [], finishes.Values)
recipe rows.UnaryDecrement = ((steps.Flag true) ∷ (steps.Operator sets.UpdateOperator) ∷ steps.Put ∷ (steps.Close kinds.UpdateExpression) ∷ [], finishes.Values)
recipe rows.UnaryLhs = operand_with_tail
recipe rows.PostIncrement = ((steps.Flag false) ∷ (steps.Operator sets.UpdateOperator) ∷ steps.Hold ∷ [], finishes.Ends kinds.UpdateExpression)
recipe rows.PostDecrement = ((steps.Flag false) ∷ (steps.Operator sets.UpdateOperator) ∷ steps.Hold ∷ [], finishes.Ends kinds.UpdateExpression)
recipe rows.PostEmpty = no_endings
-- Members, calls and new (12.3)
recipe rows.LhsNew = operand_with_tail
recipe rows.LhsPrimary = operand_with_tail
recipe rows.LhsTailAccess = (steps.Tail ∷ steps.Tail ∷ [], finishes.Endings)
recipe rows.LhsTailCall = (steps.Skip ∷ steps.Wrap ∷ steps.Skip ∷ steps.Tail ∷ [], finishes.Ends kinds.CallExpression)
recipe rows.LhsTailEmpty = no_endings
recipe rows.Again = one_symbol
recipe rows.AccessName = (steps.Skip ∷ steps.Text ∷ [], finishes.Ends kinds.StaticMemberExpression)
recipe rows.AccessIndex = (steps.Skip ∷ steps.Put ∷ steps.Skip ∷ [], finishes.Ends kinds.ComputedMemberExpression)
recipe rows.New = (steps.Skip ∷ steps.Put ∷ steps.Tail ∷ [], finishes.Folds)
recipe rows.CalleeNew = (steps.Put ∷ steps.Tail ∷ [], finishes.Folds)
recipe rows.CalleePrimary = (steps.Put ∷ steps.Tail ∷ [], finishes.Folds)
recipe rows.MemberTail = (steps.Tail ∷ steps.Tail ∷ [], finishes.Endings)
recipe rows.MemberTailEmpty = no_endings
recipe rows.NewArgs = (steps.Skip ∷ steps.Wrap ∷ steps.Skip ∷ [], finishes.Ends kinds.NewExpression)
recipe rows.NewArgsEmpty = (steps.NoItems ∷ [], finishes.Ends kinds.NewExpression)
recipe rows.Args = (steps.Put ∷ steps.Put ∷ [], finishes.Values)
recipe rows.ArgsEmpty = ([], finishes.Values)
recipe rows.ArgMore = (steps.Skip ∷ steps.Put ∷ steps.Put ∷ [], finishes.Values)
recipe rows.ArgMoreEmpty = ([], finishes.Values)
recipe rows.ArgSpread = (steps.Skip ∷ steps.Put ∷ (steps.Close kinds.SpreadElement) ∷ [], finishes.Values)
recipe rows.ArgPlain = (steps.Put ∷ [], finishes.Values)
-- Primary expressions (12.2)
recipe rows.PrimaryThis = (steps.Skip ∷ (steps.Close kinds.ThisExpression) ∷ [], finishes.Values)
recipe rows.PrimaryNull = (steps.Skip ∷ (steps.Close kinds.LiteralNullExpression) ∷ [], finishes.Values)
recipe rows.PrimaryTrue = (steps.Skip ∷ (steps.Flag true) ∷ (steps.Close kinds.LiteralBooleanExpression) ∷ [], finishes.Values)
recipe rows.PrimaryFalse = (steps.Skip ∷ (steps.Flag false) ∷ (steps.Close kinds.LiteralBooleanExpression) ∷ [], finishes.Values)
recipe rows.PrimaryNumber = (steps.Whole ∷ (steps.Close kinds.LiteralNumericExpression) ∷ [], finishes.Values)
recipe rows.PrimaryText = (steps.Quoted ∷ [], finishes.Folds)
recipe rows.PrimaryIdent = ((steps.Named kinds.IdentifierExpression) ∷ [], finishes.Values)
recipe rows.PrimaryHead = (steps.Skip ∷ steps.Put ∷ steps.Skip ∷ [], finishes.Values)
recipe rows.PrimaryParens = (steps.Skip ∷ steps.Put ∷ steps.Skip ∷ [], finishes.Values)
recipe rows.PrimaryArray = (steps.Skip ∷ steps.Wrap ∷ steps.Skip ∷ (steps.Close kinds.ArrayExpression) ∷ [], finishes.Values)
recipe rows.PrimaryObject = (steps.Skip ∷ steps.Wrap ∷ steps.Skip ∷ (steps.Close kinds.ObjectExpression) ∷ [], finishes.Values)
recipe rows.PrimaryWhole = (steps.Text ∷ steps.NoItems ∷ (steps.Close kinds.TemplateExpression) ∷ [], finishes.Values)
recipe rows.PrimaryTemplate = (steps.Text ∷ steps.Wrap ∷ (steps.Close kinds.TemplateExpression) ∷ [], finishes.Values)
recipe rows.PrimaryFunction = (steps.Skip ∷ steps.Put ∷ (steps.Scope kinds.AssertedBoundNamesScope) ∷ steps.Hold ∷ steps.Skip ∷ steps.ParameterScope ∷ steps.Put ∷ steps.Skip ∷ steps.Skip ∷ (steps.Scope kinds.AssertedVarScope) ∷ steps.Body ∷ steps.Skip ∷ (steps.Close kinds.FunctionContents) ∷ steps.Resume ∷ (steps.Close kinds.EagerFunctionExpression) ∷ [], finishes.Values)
recipe rows.FuncName = ((steps.Named kinds.BindingIdentifier) ∷ [], finishes.Values)
recipe rows.FuncNameEmpty = (steps.Absent ∷ [], finishes.Values)
-- The elements of an array: a comma that follows no element is a hole (12.2.5)
recipe rows.ElemsHole = (steps.Skip ∷ steps.Absent ∷ steps.Put ∷ [], finishes.Values)
recipe rows.ElemsArg = (steps.Put ∷ steps.Put ∷ [], finishes.Values)
recipe rows.ElemsEmpty = ([], finishes.Values)
recipe rows.ElemMore = (steps.Skip ∷ steps.Put ∷ [], finishes.Values)
recipe rows.ElemMoreEmpty = ([], finishes.Values)
-- The properties of an object, and methods (12.2.6, 14.3)
recipe rows.Props = (steps.Put ∷ steps.Put ∷ [], finishes.Values)
recipe rows.PropsEmpty = ([], finishes.Values)
recipe rows.PropMore = (steps.Skip ∷ steps.Put ∷ [], finishes.Values)
recipe rows.PropMoreEmpty = ([], finishes.Values)
recipe rows.PropGet = (steps.Text ∷ steps.Tail ∷ [], finishes.Property)
recipe rows.PropSet = (steps.Text ∷ steps.Tail ∷ [], finishes.Property)
recipe rows.PropIdent = (steps.Text ∷ steps.Tail ∷ [], finishes.Property)
recipe rows.PropReserved = ((steps.Named kinds.LiteralPropertyName) ∷ steps.Tail ∷ [], finishes.Folds)
recipe rows.PropText = ((steps.Named kinds.LiteralPropertyName) ∷ steps.Tail ∷ [], finishes.Folds)
recipe rows.PropNumber = ((steps.Named kinds.LiteralPropertyName) ∷ steps.Tail ∷ [], finishes.Folds)
recipe rows.PropComputed = (steps.Skip ∷ steps.Put ∷ (steps.Close kinds.ComputedPropertyName) ∷ steps.Skip ∷ steps.Tail ∷ [], finishes.Folds)
recipe rows.LongValue = (steps.Skip ∷ steps.Put ∷ [], finishes.Ends kinds.DataProperty)
recipe rows.LongMethod = one_symbol
recipe rows.ShortValue = (steps.Skip ∷ steps.Put ∷ [], finishes.Ends kinds.DataProperty)
recipe rows.ShortMethod = one_symbol
recipe rows.ShortEmpty = no_endings
recipe rows.GetRestValue = (steps.Skip ∷ steps.Put ∷ [], finishes.Ends kinds.DataProperty)
recipe rows.GetRestMethod = one_symbol
recipe rows.GetRestGetter = (steps.Put ∷ steps.Hold ∷ steps.Skip ∷ steps.Skip ∷ steps.Skip ∷ (steps.Scope kinds.AssertedVarScope) ∷ steps.Body ∷ steps.Skip ∷ (steps.Close kinds.GetterContents) ∷ steps.Resume ∷ (steps.Close kinds.EagerGetter) ∷ [], finishes.Instead)
recipe rows.GetRestEmpty = no_endings
recipe rows.SetRestValue = (steps.Skip ∷ steps.Put ∷ [], finishes.Ends kinds.DataProperty)
recipe rows.SetRestMethod = one_symbol
recipe rows.SetRestSetter = (steps.Put ∷ steps.Hold ∷ steps.Skip ∷ steps.ParameterScope ∷ steps.Parameter ∷ steps.Skip ∷ steps.Skip ∷ (steps.Scope kinds.AssertedVarScope) ∷ steps.Body ∷ steps.Skip ∷ (steps.Close kinds.SetterContents) ∷ steps.Resume ∷ (steps.Close kinds.EagerSetter) ∷ [], finishes.Instead)
recipe rows.SetRestEmpty = no_endings
recipe rows.Method = (steps.Hold ∷ steps.Skip ∷ steps.ParameterScope ∷ steps.Put ∷ steps.Skip ∷ steps.Skip ∷ (steps.Scope kinds.AssertedVarScope) ∷ steps.Body ∷ steps.Skip ∷ (steps.Close kinds.FunctionContents) ∷ steps.Resume ∷ [], finishes.Ends kinds.EagerMethod)
recipe rows.PropNameName = ((steps.Named kinds.LiteralPropertyName) ∷ [], finishes.Values)
recipe rows.PropNameText = ((steps.Named kinds.LiteralPropertyName) ∷ [], finishes.Values)
recipe rows.PropNameNumber = ((steps.Named kinds.LiteralPropertyName) ∷ [], finishes.Values)
recipe rows.PropNameComputed = (steps.Skip ∷ steps.Put ∷ steps.Skip ∷ (steps.Close kinds.ComputedPropertyName) ∷ [], finishes.Values)
-- The parts of a template (12.2.9)
recipe rows.TplRest = (steps.TemplatePart ∷ [], finishes.Values)
recipe rows.TplMoreMiddle = (steps.Text ∷ steps.TemplatePart ∷ [], finishes.Values)
recipe rows.TplMoreTail = (steps.Text ∷ [], finishes.Values)
