-- How many values the rows of a derivation add for each token that it takes.
use Rattle.std.proofs.Common.{◌≡◌, ◌≤◌, ◌<◌, ◌+◌, ◌*◌, ℕ, Bool, true, length, List, [], ◌∷◌, ◌++◌, Ok, refl, ap, ◌∙◌, arith}
use Rattle.std.specs.Prelude.{nat_le}
use Rattle.std.specs.List.{Contains, list_all}
use Rattle.std.proofs.lemmas.Bool.{leb-true}
use Rattle.std.proofs.lemmas.List.{length-map}
use Rattle.bast_schema.specs.Counts.{size}
use Rattle.bast_schema.specs.Tree.{Tree}
use Rattle.js_grammar.specs.Derivation.{Leaf as GrammarLeaf, Derives, nothing, takes, semicolon, counts, expands}
use Rattle.js_grammar.specs.Rows.{alternatives, row_symbols}
use Rattle.js_grammar.specs.declared.symbols.Level.TheVariants as levels
use Rattle.js_grammar.specs.declared.symbols.RowId.{RowId}
use Rattle.js_grammar.specs.declared.symbols.Symbol.{Symbol}
use Rattle.js_grammar.specs.declared.symbols.Symbol.TheVariants as symbols
use Rattle.js_machine.specs.Laws.{rows_among, leaves, tokens_among, token_in, tokens_in}
use Rattle.js_machine.specs.Machine.{Accepted, Ends}
use Rattle.js_machine.specs.declared.events.Event.{Event}
use Rattle.js_machine.proofs.Explained.{whole}
use Rattle.js_tokens.specs.declared.kinds.Token.{Token}
use Rattle.js_tree.specs.Image.{tree_of}
use Rattle.js_tree.specs.Nodes.{limited}
use Rattle.js_tree.specs.declared.leaf.Leaf.{Leaf}
use Rattle.js_tree_laws.proofs.Holding.{each_row}
use Rattle.js_tree_laws.proofs.HeftFinishes.{row_cost, tree_costs}
use Rattle.js_tree_laws.proofs.Hefts.{total, total_join}

-- seven values for a token; what is derived from a symbol has at most this many values more than its tokens pay for
abbrev credit : Symbol → ℕ
credit (symbols.Init a) = 1
credit symbols.Params = 3
credit symbols.ParamTail = 1
credit symbols.Else = 1
credit symbols.Jump = 1
credit symbols.Ret = 1
credit symbols.ExprOpt = 1
credit (symbols.Arrow a) = 4
credit symbols.NewArgs = 2
credit symbols.FuncName = 1
credit _ = 0

-- or at least this many fewer
abbrev debt : Symbol → ℕ
debt symbols.Script = 1
debt symbols.Item = 1
debt symbols.Lexical = 7
debt (symbols.Decls a) = 3
debt (symbols.Decl a) = 3
debt symbols.Function = 26
debt symbols.ParamNext = 2
debt symbols.Body = 1
debt symbols.Stat = 1
debt symbols.Block = 9
debt symbols.Throw = 2
debt symbols.ForHead = 7
debt symbols.ForBind = 5
debt symbols.ForExpr = 5
debt symbols.ForRest = 1
debt symbols.TryRest = 14
debt (symbols.Expr a) = 2
debt (symbols.Assign a) = 4
debt (symbols.Cond a) = 4
debt (symbols.Level a b) = 4
debt symbols.Unary = 4
debt symbols.Lhs = 4
debt symbols.Access = 12
debt symbols.New = 9
debt symbols.Callee = 4
debt symbols.Arg = 4
debt symbols.Primary = 4
debt symbols.Prop = 4
debt symbols.Long = 10
debt symbols.Method = 14
debt symbols.PropName = 5
debt symbols.TplRest = 7
debt symbols.TplMore = 6
debt (symbols.Take a) = 7
debt _ = 0

-- what a row adds is paid for
abbrev pays : Symbol → RowId → Bool
pays s r = nat_le (row_cost r + total credit (row_symbols r) + debt s) (total debt (row_symbols r) + credit s)

all_pay : (s : Symbol) → list_all (pays s) (alternatives s) ≡ true
all_pay (symbols.Level levels.LogicalOr m) = refl
all_pay (symbols.LevelTail levels.LogicalOr m) = refl
all_pay _ = refl

row_pays : (s : Symbol) (r : RowId) → Contains (alternatives s) r → row_cost r + total credit (row_symbols r) + debt s ≤ total debt (row_symbols r) + credit s
row_pays s r c = leb-true (row_cost r + total credit (row_symbols r) + debt s) (total debt (row_symbols r) + credit s) (each_row (pays s) (alternatives s) r (all_pay s) c)

derivation_pays : (ss : List Symbol) (ls : List GrammarLeaf) (rs : List RowId) → Derives ss ls rs → total row_cost rs + total debt ss ≤ 7 * length (tokens_among ls) + total credit ss
derivation_pays _ _ _ nothing = omega arith
derivation_pays _ _ _ (takes t c newline ss ls rs is d) = omega (arith, derivation_pays ss ls rs d)
derivation_pays _ _ _ (semicolon newline ss ls rs d) = omega (arith, derivation_pays ss ls rs d)
derivation_pays _ _ _ (counts ss ls rs before d) = omega (arith, derivation_pays ss ls rs d)
derivation_pays _ _ _ (expands s r ss ls rs c b d) =
    omega (arith, derivation_pays (row_symbols r ++ ss) ls rs d, row_pays s r c, total_join credit (row_symbols r) ss, total_join debt (row_symbols r) ss)

pub trees_are_small : (text : List ℕ) (ts : List Token) (ls : List Leaf) (es : List Event) (t : Tree) → Ends text ts (Accepted es) → tree_of limited ls es ≡ Ok t → size t < 7 * length ts
trees_are_small text ts ls es t ends made =
    let w = whole text ts es ends.0 (length text) ends.1
    in let paid = derivation_pays (symbols.Script ∷ []) (leaves es (tokens_in text ts)) (rows_among es) w.0
    in let cost = tree_costs ls es t made
    in let same : length (tokens_among (leaves es (tokens_in text ts))) ≡ length ts = ap length w.1 ∙ length-map ts (token_in text)
    in omega (arith, paid, cost, same)
