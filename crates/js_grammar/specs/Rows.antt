-- The rows of the grammar: the alternatives of each symbol and the symbols of each row. Sections are those of ECMA-262,
-- 6th edition; what the rows leave out of them stands in docs/grammar.md.
use Rattle.std.specs.Prelude.{Bool, true, false, List, [], ◌∷◌}
use Rattle.js_grammar.specs.declared.class.Class.{Class}
use Rattle.js_grammar.specs.declared.symbols.Mode.{Mode}
use Rattle.js_grammar.specs.declared.symbols.Level.{Level}
use Rattle.js_grammar.specs.declared.symbols.Symbol.{Symbol}
use Rattle.js_grammar.specs.declared.symbols.RowId.{RowId}
use Rattle.js_grammar.specs.declared.class.Class.TheVariants as classes
use Rattle.js_grammar.specs.declared.symbols.Mode.TheVariants as modes
use Rattle.js_grammar.specs.declared.symbols.Level.TheVariants as levels
use Rattle.js_grammar.specs.declared.symbols.Terminal.TheVariants as terminals
use Rattle.js_grammar.specs.declared.symbols.Symbol.TheVariants as symbols
use Rattle.js_grammar.specs.declared.symbols.RowId.TheVariants as rows

-- a token of the class, and the terminals that take tokens of several classes
abbrev pub one : Class → Symbol
one class = symbols.Take (terminals.One class)

abbrev pub paren : Symbol
paren = symbols.Take terminals.OpenParen

abbrev pub bind : Symbol
bind = symbols.Take terminals.Bind

-- the operands of a binary operator: the next level, and above the last one a unary expression
abbrev pub next_level : Level → Mode → Symbol
next_level levels.LogicalOr m = symbols.Level levels.LogicalAnd m
next_level levels.LogicalAnd m = symbols.Level levels.BitwiseOr m
next_level levels.BitwiseOr m = symbols.Level levels.BitwiseXor m
next_level levels.BitwiseXor m = symbols.Level levels.BitwiseAnd m
next_level levels.BitwiseAnd m = symbols.Level levels.Equality m
next_level levels.Equality m = symbols.Level levels.Relational m
next_level levels.Relational m = symbols.Level levels.Shift m
next_level levels.Shift m = symbols.Level levels.Additive m
next_level levels.Additive m = symbols.Level levels.Multiplicative m
next_level levels.Multiplicative m = symbols.Unary

-- the alternatives of a symbol, in their order
abbrev pub alternatives : Symbol → List RowId
alternatives symbols.Script = rows.Script ∷ []
alternatives symbols.Items = rows.Items ∷ rows.ItemsEmpty ∷ []
alternatives symbols.Item = rows.ItemFunction ∷ rows.ItemLexical ∷ rows.ItemStat ∷ []
alternatives symbols.Lexical = rows.LexicalLet ∷ rows.LexicalConst ∷ []
alternatives (symbols.Decls m) = rows.Decls m ∷ []
alternatives (symbols.DeclTail m) = rows.DeclTail m ∷ rows.DeclTailEmpty m ∷ []
alternatives (symbols.Decl m) = rows.Decl m ∷ []
alternatives (symbols.Init m) = rows.Init m ∷ rows.InitEmpty m ∷ []
alternatives symbols.Function = rows.Function ∷ []
alternatives symbols.Params = rows.Params ∷ rows.ParamsRest ∷ rows.ParamsEmpty ∷ []
alternatives symbols.ParamTail = rows.ParamTail ∷ rows.ParamTailEmpty ∷ []
alternatives symbols.ParamNext = rows.ParamNext ∷ rows.ParamNextRest ∷ []
alternatives symbols.Body = rows.Body ∷ []
alternatives symbols.Stat = rows.StatBlock ∷ rows.StatVar ∷ rows.StatEmpty ∷ rows.StatDebugger ∷ rows.StatIf ∷ rows.StatFor ∷ rows.StatWhile ∷ rows.StatDo ∷ rows.StatContinue ∷ rows.StatBreak ∷ rows.StatReturn ∷ rows.StatThrow ∷ rows.StatSwitch ∷ rows.StatTry ∷ rows.StatExpr ∷ []
alternatives symbols.Block = rows.Block ∷ []
alternatives symbols.Else = rows.Else ∷ rows.ElseEmpty ∷ []
alternatives symbols.DoEnd = rows.DoEnd ∷ rows.DoEndEmpty ∷ []
alternatives symbols.Jump = rows.JumpLabel ∷ rows.JumpPlain ∷ []
alternatives symbols.Ret = rows.RetExpr ∷ rows.RetPlain ∷ []
alternatives symbols.Throw = rows.Throw ∷ []
alternatives symbols.Label = rows.LabelBody ∷ rows.LabelSemi ∷ []
alternatives symbols.ForHead = rows.ForHeadVar ∷ rows.ForHeadLet ∷ rows.ForHeadConst ∷ rows.ForHeadEmpty ∷ rows.ForHeadExpr ∷ []
alternatives symbols.ForBind = rows.ForBindIn ∷ rows.ForBindOf ∷ rows.ForBindInit ∷ []
alternatives symbols.ForExpr = rows.ForExprIn ∷ rows.ForExprOf ∷ rows.ForExprRest ∷ []
alternatives symbols.ForRest = rows.ForRest ∷ []
alternatives symbols.ExprOpt = rows.ExprOpt ∷ rows.ExprOptEmpty ∷ []
alternatives symbols.Cases = rows.CasesCase ∷ rows.CasesDefault ∷ rows.CasesEmpty ∷ []
alternatives symbols.CasesD = rows.CasesDCase ∷ rows.CasesDEmpty ∷ []
alternatives symbols.TryRest = rows.TryRestCatch ∷ rows.TryRestFinally ∷ []
alternatives symbols.Fin = rows.Fin ∷ rows.FinEmpty ∷ []
alternatives (symbols.Expr m) = rows.Expr m ∷ []
alternatives (symbols.Comma m) = rows.Comma m ∷ rows.CommaEmpty m ∷ []
alternatives (symbols.Assign m) = rows.Assign m ∷ []
alternatives (symbols.AssignTail m) = rows.AssignTailEquals m ∷ rows.AssignTailCompound m ∷ rows.AssignTailArrow m ∷ rows.AssignTailEmpty m ∷ []
alternatives (symbols.Arrow m) = rows.ArrowBody m ∷ rows.ArrowExpr m ∷ []
alternatives (symbols.Cond m) = rows.Cond m ∷ []
alternatives (symbols.CondTail m) = rows.CondTail m ∷ rows.CondTailEmpty m ∷ []
alternatives (symbols.Level n m) = rows.Level n m ∷ []
alternatives (symbols.LevelTail n m) = rows.LevelTail n m ∷ rows.LevelTailEmpty n m ∷ []
alternatives symbols.Unary = rows.UnaryOperator ∷ rows.UnaryIncrement ∷ rows.UnaryDecrement ∷ rows.UnaryLhs ∷ []
alternatives symbols.Post = rows.PostIncrement ∷ rows.PostDecrement ∷ rows.PostEmpty ∷ []
alternatives symbols.Lhs = rows.LhsNew ∷ rows.LhsPrimary ∷ []
alternatives symbols.LhsTail = rows.LhsTailAccess ∷ rows.LhsTailCall ∷ rows.LhsTailEmpty ∷ []
alternatives symbols.Again = rows.Again ∷ []
alternatives symbols.Access = rows.AccessName ∷ rows.AccessIndex ∷ []
alternatives symbols.New = rows.New ∷ []
alternatives symbols.Callee = rows.CalleeNew ∷ rows.CalleePrimary ∷ []
alternatives symbols.MemberTail = rows.MemberTail ∷ rows.MemberTailEmpty ∷ []
alternatives symbols.NewArgs = rows.NewArgs ∷ rows.NewArgsEmpty ∷ []
alternatives symbols.Args = rows.Args ∷ rows.ArgsEmpty ∷ []
alternatives symbols.ArgMore = rows.ArgMore ∷ rows.ArgMoreEmpty ∷ []
alternatives symbols.Arg = rows.ArgSpread ∷ rows.ArgPlain ∷ []
alternatives symbols.Primary = rows.PrimaryThis ∷ rows.PrimaryNull ∷ rows.PrimaryTrue ∷ rows.PrimaryFalse ∷ rows.PrimaryNumber ∷ rows.PrimaryText ∷ rows.PrimaryIdent ∷ rows.PrimaryHead ∷ rows.PrimaryParens ∷ rows.PrimaryArray ∷ rows.PrimaryObject ∷ rows.PrimaryWhole ∷ rows.PrimaryTemplate ∷ rows.PrimaryFunction ∷ []
alternatives symbols.FuncName = rows.FuncName ∷ rows.FuncNameEmpty ∷ []
alternatives symbols.Elems = rows.ElemsHole ∷ rows.ElemsArg ∷ rows.ElemsEmpty ∷ []
alternatives symbols.ElemMore = rows.ElemMore ∷ rows.ElemMoreEmpty ∷ []
alternatives symbols.Props = rows.Props ∷ rows.PropsEmpty ∷ []
alternatives symbols.PropMore = rows.PropMore ∷ rows.PropMoreEmpty ∷ []
alternatives symbols.Prop = rows.PropGet ∷ rows.PropSet ∷ rows.PropIdent ∷ rows.PropReserved ∷ rows.PropText ∷ rows.PropNumber ∷ rows.PropComputed ∷ []
alternatives symbols.Long = rows.LongValue ∷ rows.LongMethod ∷ []
alternatives symbols.Short = rows.ShortValue ∷ rows.ShortMethod ∷ rows.ShortEmpty ∷ []
alternatives symbols.GetRest = rows.GetRestValue ∷ rows.GetRestMethod ∷ rows.GetRestGetter ∷ rows.GetRestEmpty ∷ []
alternatives symbols.SetRest = rows.SetRestValue ∷ rows.SetRestMethod ∷ rows.SetRestSetter ∷ rows.SetRestEmpty ∷ []
alternatives symbols.Method = rows.Method ∷ []
alternatives symbols.PropName = rows.PropNameName ∷ rows.PropNameText ∷ rows.PropNameNumber ∷ rows.PropNameComputed ∷ []
alternatives symbols.TplRest = rows.TplRest ∷ []
alternatives symbols.TplMore = rows.TplMoreMiddle ∷ rows.TplMoreTail ∷ []
alternatives symbols.Semi = []
alternatives (symbols.Take terminal) = []

-- the symbols of a row, in their order
abbrev pub row_symbols : RowId → List Symbol
-- Scripts and lists of statements and declarations (15.1, 13.2)
row_symbols rows.Script = symbols.Items ∷ one classes.End ∷ []
row_symbols rows.Items = symbols.Item ∷ symbols.Items ∷ []
row_symbols rows.ItemsEmpty = []
row_symbols rows.ItemFunction = symbols.Function ∷ []
row_symbols rows.ItemLexical = symbols.Lexical ∷ []
row_symbols rows.ItemStat = symbols.Stat ∷ []
-- Declarations of variables (13.3)
row_symbols rows.LexicalLet = one classes.Let ∷ symbols.Decls modes.WithIn ∷ symbols.Semi ∷ []
row_symbols rows.LexicalConst = one classes.Const ∷ symbols.Decls modes.WithIn ∷ symbols.Semi ∷ []
row_symbols (rows.Decls m) = symbols.Decl m ∷ symbols.DeclTail m ∷ []
row_symbols (rows.DeclTail m) = one classes.Comma ∷ symbols.Decl m ∷ symbols.DeclTail m ∷ []
row_symbols (rows.DeclTailEmpty m) = []
row_symbols (rows.Decl m) = bind ∷ symbols.Init m ∷ []
row_symbols (rows.Init m) = one classes.Equals ∷ symbols.Assign m ∷ []
row_symbols (rows.InitEmpty m) = []
-- Functions and their parameters (14.1)
row_symbols rows.Function = one classes.Function ∷ bind ∷ paren ∷ symbols.Params ∷ one classes.CloseParen ∷ one classes.OpenBrace ∷ symbols.Items ∷ one classes.CloseBrace ∷ []
row_symbols rows.Params = bind ∷ symbols.Init modes.WithIn ∷ symbols.ParamTail ∷ []
row_symbols rows.ParamsRest = one classes.Ellipsis ∷ bind ∷ []
row_symbols rows.ParamsEmpty = []
row_symbols rows.ParamTail = one classes.Comma ∷ symbols.ParamNext ∷ []
row_symbols rows.ParamTailEmpty = []
row_symbols rows.ParamNext = bind ∷ symbols.Init modes.WithIn ∷ symbols.ParamTail ∷ []
row_symbols rows.ParamNextRest = one classes.Ellipsis ∷ bind ∷ []
-- Statements (13)
row_symbols rows.Body = symbols.Stat ∷ []
row_symbols rows.StatBlock = symbols.Block ∷ []
row_symbols rows.StatVar = one classes.Var ∷ symbols.Decls modes.WithIn ∷ symbols.Semi ∷ []
row_symbols rows.StatEmpty = one classes.Semicolon ∷ []
row_symbols rows.StatDebugger = one classes.Debugger ∷ symbols.Semi ∷ []
row_symbols rows.StatIf = one classes.If ∷ paren ∷ symbols.Expr modes.WithIn ∷ one classes.CloseParen ∷ symbols.Body ∷ symbols.Else ∷ []
row_symbols rows.StatFor = one classes.For ∷ paren ∷ symbols.ForHead ∷ one classes.CloseParen ∷ symbols.Body ∷ []
row_symbols rows.StatWhile = one classes.While ∷ paren ∷ symbols.Expr modes.WithIn ∷ one classes.CloseParen ∷ symbols.Body ∷ []
row_symbols rows.StatDo = one classes.Do ∷ symbols.Body ∷ one classes.While ∷ paren ∷ symbols.Expr modes.WithIn ∷ one classes.CloseParen ∷ symbols.DoEnd ∷ []
row_symbols rows.StatContinue = one classes.Continue ∷ symbols.Jump ∷ []
row_symbols rows.StatBreak = one classes.Break ∷ symbols.Jump ∷ []
row_symbols rows.StatReturn = one classes.Return ∷ symbols.Ret ∷ []
row_symbols rows.StatThrow = one classes.Throw ∷ symbols.Throw ∷ []
row_symbols rows.StatSwitch = one classes.Switch ∷ paren ∷ symbols.Expr modes.WithIn ∷ one classes.CloseParen ∷ one classes.OpenBrace ∷ symbols.Cases ∷ one classes.CloseBrace ∷ []
row_symbols rows.StatTry = one classes.Try ∷ symbols.Block ∷ symbols.TryRest ∷ []
row_symbols rows.StatExpr = symbols.Expr modes.WithIn ∷ symbols.Label ∷ []
-- Blocks, and what ends statements (13.2, 13.6, 13.7, 13.8 to 13.10, 13.13, 13.14)
row_symbols rows.Block = one classes.OpenBrace ∷ symbols.Items ∷ one classes.CloseBrace ∷ []
row_symbols rows.Else = one classes.Else ∷ symbols.Body ∷ []
row_symbols rows.ElseEmpty = []
row_symbols rows.DoEnd = one classes.Semicolon ∷ []
row_symbols rows.DoEndEmpty = []
row_symbols rows.JumpLabel = symbols.Take terminals.Ident ∷ symbols.Semi ∷ []
row_symbols rows.JumpPlain = symbols.Semi ∷ []
row_symbols rows.RetExpr = symbols.Expr modes.WithIn ∷ symbols.Semi ∷ []
row_symbols rows.RetPlain = symbols.Semi ∷ []
row_symbols rows.Throw = symbols.Expr modes.WithIn ∷ symbols.Semi ∷ []
row_symbols rows.LabelBody = one classes.Colon ∷ symbols.Body ∷ []
row_symbols rows.LabelSemi = symbols.Semi ∷ []
-- The heads of for loops (13.7)
row_symbols rows.ForHeadVar = one classes.Var ∷ bind ∷ symbols.ForBind ∷ []
row_symbols rows.ForHeadLet = one classes.Let ∷ bind ∷ symbols.ForBind ∷ []
row_symbols rows.ForHeadConst = one classes.Const ∷ bind ∷ symbols.ForBind ∷ []
row_symbols rows.ForHeadEmpty = one classes.Semicolon ∷ symbols.ForRest ∷ []
row_symbols rows.ForHeadExpr = symbols.Expr modes.NoIn ∷ symbols.ForExpr ∷ []
row_symbols rows.ForBindIn = one classes.In ∷ symbols.Expr modes.WithIn ∷ []
row_symbols rows.ForBindOf = one classes.Of ∷ symbols.Assign modes.WithIn ∷ []
row_symbols rows.ForBindInit = symbols.Init modes.NoIn ∷ symbols.DeclTail modes.NoIn ∷ one classes.Semicolon ∷ symbols.ForRest ∷ []
row_symbols rows.ForExprIn = one classes.In ∷ symbols.Expr modes.WithIn ∷ []
row_symbols rows.ForExprOf = one classes.Of ∷ symbols.Assign modes.WithIn ∷ []
row_symbols rows.ForExprRest = one classes.Semicolon ∷ symbols.ForRest ∷ []
row_symbols rows.ForRest = symbols.ExprOpt ∷ one classes.Semicolon ∷ symbols.ExprOpt ∷ []
row_symbols rows.ExprOpt = symbols.Expr modes.WithIn ∷ []
row_symbols rows.ExprOptEmpty = []
-- The clauses of switch and try (13.12, 13.15)
row_symbols rows.CasesCase = one classes.Case ∷ symbols.Expr modes.WithIn ∷ one classes.Colon ∷ symbols.Items ∷ symbols.Cases ∷ []
row_symbols rows.CasesDefault = one classes.Default ∷ one classes.Colon ∷ symbols.Items ∷ symbols.CasesD ∷ []
row_symbols rows.CasesEmpty = []
row_symbols rows.CasesDCase = one classes.Case ∷ symbols.Expr modes.WithIn ∷ one classes.Colon ∷ symbols.Items ∷ symbols.CasesD ∷ []
row_symbols rows.CasesDEmpty = []
row_symbols rows.TryRestCatch = one classes.Catch ∷ paren ∷ bind ∷ one classes.CloseParen ∷ symbols.Block ∷ symbols.Fin ∷ []
row_symbols rows.TryRestFinally = one classes.Finally ∷ symbols.Block ∷ []
row_symbols rows.Fin = one classes.Finally ∷ symbols.Block ∷ []
row_symbols rows.FinEmpty = []
-- Expressions, assignments, arrow functions, conditionals (12.13 to 12.15, 14.2)
row_symbols (rows.Expr m) = symbols.Assign m ∷ symbols.Comma m ∷ []
row_symbols (rows.Comma m) = one classes.Comma ∷ symbols.Assign m ∷ symbols.Comma m ∷ []
row_symbols (rows.CommaEmpty m) = []
row_symbols (rows.Assign m) = symbols.Cond m ∷ symbols.AssignTail m ∷ []
row_symbols (rows.AssignTailEquals m) = one classes.Equals ∷ symbols.Assign m ∷ []
row_symbols (rows.AssignTailCompound m) = one classes.Compound ∷ symbols.Assign m ∷ []
row_symbols (rows.AssignTailArrow m) = one classes.Arrow ∷ symbols.Arrow m ∷ []
row_symbols (rows.AssignTailEmpty m) = []
row_symbols (rows.ArrowBody m) = one classes.OpenBrace ∷ symbols.Items ∷ one classes.CloseBrace ∷ []
row_symbols (rows.ArrowExpr m) = symbols.Assign m ∷ []
row_symbols (rows.Cond m) = symbols.Level levels.LogicalOr m ∷ symbols.CondTail m ∷ []
row_symbols (rows.CondTail m) = one classes.Question ∷ symbols.Assign modes.WithIn ∷ one classes.Colon ∷ symbols.Assign m ∷ []
row_symbols (rows.CondTailEmpty m) = []
-- Binary operators (12.6 to 12.12)
row_symbols (rows.Level n m) = next_level n m ∷ symbols.LevelTail n m ∷ []
row_symbols (rows.LevelTail n m) = symbols.Take (terminals.Operator n m) ∷ next_level n m ∷ symbols.LevelTail n m ∷ []
row_symbols (rows.LevelTailEmpty n m) = []
-- Unary operators and updates (12.4, 12.5)
row_symbols rows.UnaryOperator = symbols.Take terminals.UnaryOperator ∷ symbols.Unary ∷ []
row_symbols rows.UnaryIncrement = one classes.Increment ∷ symbols.Unary ∷ []
row_symbols rows.UnaryDecrement = one classes.Decrement ∷ symbols.Unary ∷ []
row_symbols rows.UnaryLhs = symbols.Lhs ∷ symbols.Post ∷ []
row_symbols rows.PostIncrement = one classes.Increment ∷ []
row_symbols rows.PostDecrement = one classes.Decrement ∷ []
row_symbols rows.PostEmpty = []
-- Members, calls and new (12.3)
row_symbols rows.LhsNew = symbols.New ∷ symbols.LhsTail ∷ []
row_symbols rows.LhsPrimary = symbols.Primary ∷ symbols.LhsTail ∷ []
row_symbols rows.LhsTailAccess = symbols.Access ∷ symbols.LhsTail ∷ []
row_symbols rows.LhsTailCall = paren ∷ symbols.Args ∷ one classes.CloseParen ∷ symbols.Again ∷ []
row_symbols rows.LhsTailEmpty = []
row_symbols rows.Again = symbols.LhsTail ∷ []
row_symbols rows.AccessName = one classes.Dot ∷ symbols.Take terminals.Name ∷ []
row_symbols rows.AccessIndex = one classes.OpenBracket ∷ symbols.Expr modes.WithIn ∷ one classes.CloseBracket ∷ []
row_symbols rows.New = one classes.New ∷ symbols.Callee ∷ symbols.NewArgs ∷ []
row_symbols rows.CalleeNew = symbols.New ∷ symbols.MemberTail ∷ []
row_symbols rows.CalleePrimary = symbols.Primary ∷ symbols.MemberTail ∷ []
row_symbols rows.MemberTail = symbols.Access ∷ symbols.MemberTail ∷ []
row_symbols rows.MemberTailEmpty = []
row_symbols rows.NewArgs = paren ∷ symbols.Args ∷ one classes.CloseParen ∷ []
row_symbols rows.NewArgsEmpty = []
row_symbols rows.Args = symbols.Arg ∷ symbols.ArgMore ∷ []
row_symbols rows.ArgsEmpty = []
row_symbols rows.ArgMore = one classes.Comma ∷ symbols.Arg ∷ symbols.ArgMore ∷ []
row_symbols rows.ArgMoreEmpty = []
row_symbols rows.ArgSpread = one classes.Ellipsis ∷ symbols.Assign modes.WithIn ∷ []
row_symbols rows.ArgPlain = symbols.Assign modes.WithIn ∷ []
-- Primary expressions (12.2)
row_symbols rows.PrimaryThis = one classes.This ∷ []
row_symbols rows.PrimaryNull = one classes.Null ∷ []
row_symbols rows.PrimaryTrue = one classes.True ∷ []
row_symbols rows.PrimaryFalse = one classes.False ∷ []
row_symbols rows.PrimaryNumber = one classes.Number ∷ []
row_symbols rows.PrimaryText = one classes.Text ∷ []
row_symbols rows.PrimaryIdent = symbols.Take terminals.Ident ∷ []
row_symbols rows.PrimaryHead = one classes.HeadParen ∷ symbols.Params ∷ one classes.CloseParen ∷ []
row_symbols rows.PrimaryParens = paren ∷ symbols.Expr modes.WithIn ∷ one classes.CloseParen ∷ []
row_symbols rows.PrimaryArray = one classes.OpenBracket ∷ symbols.Elems ∷ one classes.CloseBracket ∷ []
row_symbols rows.PrimaryObject = one classes.OpenBrace ∷ symbols.Props ∷ one classes.CloseBrace ∷ []
row_symbols rows.PrimaryWhole = one classes.TemplateWhole ∷ []
row_symbols rows.PrimaryTemplate = one classes.TemplateHead ∷ symbols.TplRest ∷ []
row_symbols rows.PrimaryFunction = one classes.Function ∷ symbols.FuncName ∷ paren ∷ symbols.Params ∷ one classes.CloseParen ∷ one classes.OpenBrace ∷ symbols.Items ∷ one classes.CloseBrace ∷ []
row_symbols rows.FuncName = bind ∷ []
row_symbols rows.FuncNameEmpty = []
-- The elements of an array (12.2.5)
row_symbols rows.ElemsHole = one classes.Comma ∷ symbols.Elems ∷ []
row_symbols rows.ElemsArg = symbols.Arg ∷ symbols.ElemMore ∷ []
row_symbols rows.ElemsEmpty = []
row_symbols rows.ElemMore = one classes.Comma ∷ symbols.Elems ∷ []
row_symbols rows.ElemMoreEmpty = []
-- The properties of an object, and methods (12.2.6, 14.3)
row_symbols rows.Props = symbols.Prop ∷ symbols.PropMore ∷ []
row_symbols rows.PropsEmpty = []
row_symbols rows.PropMore = one classes.Comma ∷ symbols.Props ∷ []
row_symbols rows.PropMoreEmpty = []
row_symbols rows.PropGet = one classes.Get ∷ symbols.GetRest ∷ []
row_symbols rows.PropSet = one classes.Set ∷ symbols.SetRest ∷ []
row_symbols rows.PropIdent = symbols.Take terminals.Ident ∷ symbols.Short ∷ []
row_symbols rows.PropReserved = symbols.Take terminals.Name ∷ symbols.Long ∷ []
row_symbols rows.PropText = one classes.Text ∷ symbols.Long ∷ []
row_symbols rows.PropNumber = one classes.Number ∷ symbols.Long ∷ []
row_symbols rows.PropComputed = one classes.OpenBracket ∷ symbols.Assign modes.WithIn ∷ one classes.CloseBracket ∷ symbols.Long ∷ []
row_symbols rows.LongValue = one classes.Colon ∷ symbols.Assign modes.WithIn ∷ []
row_symbols rows.LongMethod = symbols.Method ∷ []
row_symbols rows.ShortValue = one classes.Colon ∷ symbols.Assign modes.WithIn ∷ []
row_symbols rows.ShortMethod = symbols.Method ∷ []
row_symbols rows.ShortEmpty = []
row_symbols rows.GetRestValue = one classes.Colon ∷ symbols.Assign modes.WithIn ∷ []
row_symbols rows.GetRestMethod = symbols.Method ∷ []
row_symbols rows.GetRestGetter = symbols.PropName ∷ paren ∷ one classes.CloseParen ∷ one classes.OpenBrace ∷ symbols.Items ∷ one classes.CloseBrace ∷ []
row_symbols rows.GetRestEmpty = []
row_symbols rows.SetRestValue = one classes.Colon ∷ symbols.Assign modes.WithIn ∷ []
row_symbols rows.SetRestMethod = symbols.Method ∷ []
row_symbols rows.SetRestSetter = symbols.PropName ∷ paren ∷ bind ∷ symbols.Init modes.WithIn ∷ one classes.CloseParen ∷ one classes.OpenBrace ∷ symbols.Items ∷ one classes.CloseBrace ∷ []
row_symbols rows.SetRestEmpty = []
row_symbols rows.Method = paren ∷ symbols.Params ∷ one classes.CloseParen ∷ one classes.OpenBrace ∷ symbols.Items ∷ one classes.CloseBrace ∷ []
row_symbols rows.PropNameName = symbols.Take terminals.Name ∷ []
row_symbols rows.PropNameText = one classes.Text ∷ []
row_symbols rows.PropNameNumber = one classes.Number ∷ []
row_symbols rows.PropNameComputed = one classes.OpenBracket ∷ symbols.Assign modes.WithIn ∷ one classes.CloseBracket ∷ []
-- The parts of a template (12.2.9)
row_symbols rows.TplRest = symbols.Expr modes.WithIn ∷ symbols.TplMore ∷ []
row_symbols rows.TplMoreMiddle = one classes.TemplateMiddle ∷ symbols.Expr modes.WithIn ∷ symbols.TplMore ∷ []
row_symbols rows.TplMoreTail = one classes.TemplateTail ∷ []

-- the rows that count for the nest of a text
abbrev pub is_marked : RowId → Bool
is_marked rows.Function = true
is_marked rows.Body = true
is_marked rows.StatSwitch = true
is_marked rows.Block = true
is_marked (rows.AssignTailEquals m) = true
is_marked (rows.AssignTailCompound m) = true
is_marked (rows.AssignTailArrow m) = true
is_marked (rows.CondTail m) = true
is_marked rows.UnaryOperator = true
is_marked rows.UnaryIncrement = true
is_marked rows.UnaryDecrement = true
is_marked rows.AccessIndex = true
is_marked rows.New = true
is_marked rows.ArgSpread = true
is_marked rows.ArgPlain = true
is_marked rows.PrimaryHead = true
is_marked rows.PrimaryParens = true
is_marked rows.PrimaryArray = true
is_marked rows.PrimaryObject = true
is_marked rows.PrimaryTemplate = true
is_marked rows.PrimaryFunction = true
is_marked rows.GetRestGetter = true
is_marked rows.SetRestSetter = true
is_marked rows.Method = true
is_marked _ = false
