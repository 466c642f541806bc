-- What the part of each symbol may be, and that the recipes of its rows make it so.
use Rattle.std.proofs.Common.{◌≡◌, true, List, [], ◌∷◌, map, refl}
use Rattle.bast_schema.specs.declared.kind.FieldType.{FieldType}
use Rattle.bast_schema.specs.declared.kind.FieldType.TheVariants as field
use Rattle.bast_schema.specs.declared.kind.Kind.TheVariants as kinds
use Rattle.bast_schema.specs.declared.kind.Union.{Union}
use Rattle.bast_schema.specs.declared.kind.Union.TheVariants as unions
use Rattle.js_grammar.specs.declared.symbols.Symbol.{Symbol}
use Rattle.js_grammar.specs.declared.symbols.Symbol.TheVariants as symbols
use Rattle.js_grammar.specs.declared.symbols.RowId.{RowId}
use Rattle.js_grammar.specs.declared.symbols.RowId.TheVariants as rows
use Rattle.js_grammar.specs.Rows.{row_symbols}
use Rattle.js_tree_laws.proofs.Sorts.{Nothing, Many, Maybe, Clauses, Parameters, NoTail, Turns, Names, Fills, Binds, Any, OneName, Head, PartSort, Token, Semicolon, Values, Endings, Items, case, declarators}
use Rattle.js_tree_laws.proofs.Filling.{row_fits, block}

abbrev pub one_node : Union → PartSort
one_node u = Values (field.Node u ∷ []) Nothing

abbrev pub maybe_node : Union → PartSort
maybe_node u = Values (field.Optional u ∷ []) Nothing

abbrev pub many : FieldType → PartSort
many t = Values [] (Many t)

abbrev pub declarator : FieldType
declarator = field.Node (unions.One kinds.VariableDeclarator)

abbrev pub turning : Union → Union → PartSort
turning u v = Endings (Turns (Any u) v)

abbrev pub operators : PartSort
operators = turning unions.Expression unions.Expression

abbrev pub part_of : Symbol → PartSort
part_of symbols.Semi = Semicolon
part_of (symbols.Take t) = Token t
part_of symbols.Script = one_node (unions.One kinds.Script)
part_of symbols.Items = Items
part_of symbols.Item = one_node unions.Statement
part_of symbols.Lexical = one_node unions.Statement
part_of (symbols.Decls m) = Values (declarator ∷ []) declarators
part_of (symbols.DeclTail m) = many declarator
part_of (symbols.Decl m) = one_node (unions.One kinds.VariableDeclarator)
part_of (symbols.Init m) = maybe_node unions.Expression
part_of symbols.Function = one_node unions.Statement
part_of symbols.Params = one_node (unions.One kinds.FormalParameters)
part_of symbols.ParamTail = Values [] Parameters
part_of symbols.ParamNext = Values [] Parameters
part_of symbols.Body = one_node unions.Body
part_of symbols.Stat = one_node unions.Body
part_of symbols.Block = one_node (unions.One kinds.Block)
part_of symbols.Else = maybe_node unions.Body
part_of symbols.DoEnd = Values [] Nothing
part_of symbols.Jump = Values (field.Label ∷ []) Nothing
part_of symbols.Ret = maybe_node unions.Expression
part_of symbols.Throw = one_node unions.Expression
part_of symbols.Label = Endings NoTail
part_of symbols.ForHead = turning unions.Body unions.Body
part_of symbols.ForBind = Endings Binds
part_of symbols.ForExpr = Endings (Fills (field.Node unions.Expression))
part_of symbols.ForRest = Endings (Fills (field.Optional unions.ForInit))
part_of symbols.ExprOpt = maybe_node unions.Expression
part_of symbols.Cases = Values [] Clauses
part_of symbols.CasesD = many case
part_of symbols.TryRest = turning (unions.One kinds.Block) unions.Body
part_of symbols.Fin = Values [] (Maybe block)
part_of (symbols.Expr m) = one_node unions.Expression
part_of (symbols.Comma m) = many (field.Node unions.Expression)
part_of (symbols.Assign m) = one_node unions.Expression
part_of (symbols.AssignTail m) = operators
part_of (symbols.Arrow m) = Endings (Turns Head unions.Expression)
part_of (symbols.Cond m) = one_node unions.Expression
part_of (symbols.CondTail m) = operators
part_of (symbols.Level n m) = one_node unions.Expression
part_of (symbols.LevelTail n m) = operators
part_of symbols.Unary = one_node unions.Expression
part_of symbols.Post = operators
part_of symbols.Lhs = one_node unions.Expression
part_of symbols.LhsTail = operators
part_of symbols.Again = operators
part_of symbols.Access = operators
part_of symbols.New = one_node unions.Expression
part_of symbols.Callee = one_node unions.Expression
part_of symbols.MemberTail = operators
part_of symbols.NewArgs = operators
part_of symbols.Args = many (field.Node unions.Argument)
part_of symbols.ArgMore = many (field.Node unions.Argument)
part_of symbols.Arg = one_node unions.Argument
part_of symbols.Primary = one_node unions.Expression
part_of symbols.FuncName = maybe_node (unions.One kinds.BindingIdentifier)
part_of symbols.Elems = many (field.Optional unions.Argument)
part_of symbols.ElemMore = many (field.Optional unions.Argument)
part_of symbols.Props = many (field.Node unions.ObjectProperty)
part_of symbols.PropMore = many (field.Node unions.ObjectProperty)
part_of symbols.Prop = one_node unions.ObjectProperty
part_of symbols.Long = turning unions.PropertyName unions.ObjectProperty
part_of symbols.Short = Endings Names
part_of symbols.GetRest = Endings Names
part_of symbols.SetRest = Endings Names
part_of symbols.Method = turning unions.PropertyName unions.ObjectProperty
part_of symbols.PropName = one_node unions.PropertyName
part_of symbols.TplRest = many (field.Node (unions.One kinds.TemplatePart))
part_of symbols.TplMore = Values (field.Text ∷ []) (Many (field.Node (unions.One kinds.TemplatePart)))

abbrev pub row_parts : RowId → List PartSort
row_parts r = map part_of (row_symbols r)

pub head_fits : row_fits rows.PrimaryHead (row_parts rows.PrimaryHead) (one_node (unions.One kinds.FormalParameters)) ≡ true
head_fits = refl

pub label_fits : row_fits rows.LabelBody (row_parts rows.LabelBody) (Endings (Turns OneName unions.Body)) ≡ true
label_fits = refl
