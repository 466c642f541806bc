-- The rows that pass an operand on, ask for one of their own, or make one.
use Rattle.std.proofs.Common.{◌≡◌, ℕ, ◌≤◌, Bool, true, false, ◌&&◌, ◌⊎◌, inl, inr, List, [], ◌∷◌, ◌++◌, Option, Some, None, refl, sym, ap, subst, arith}
use Rattle.bast_schema.specs.declared.kind.FieldType.TheVariants as field
use Rattle.bast_schema.specs.declared.kind.Kind.TheVariants as kinds
use Rattle.bast_schema.specs.declared.kind.Union.TheVariants as unions
use Rattle.bast_schema.specs.Tree.{child, none, more}
use Rattle.js_grammar.specs.declared.class.Class.{Class}
use Rattle.js_grammar.specs.declared.class.Class.TheVariants as classes
use Rattle.js_grammar.specs.declared.symbols.Symbol.{Symbol}
use Rattle.js_grammar.specs.declared.symbols.Symbol.TheVariants as symbols
use Rattle.js_grammar.specs.declared.symbols.RowId.{RowId}
use Rattle.js_grammar.specs.Classes.{takes_class}
use Rattle.js_machine.specs.declared.events.Frame.{Frame}
use Rattle.js_machine.specs.declared.events.Frame.TheVariants.{Want}
use Rattle.js_machine.specs.Machine.{want_all}
use Rattle.js_tree.specs.Nodes.{Maker}
use Rattle.js_tree.specs.declared.parts.Part.{Part}
use Rattle.js_tree.specs.declared.parts.Part.TheVariants as parts
use Rattle.js_tree_laws.proofs.Sorts.{Turns, NoTail, OneName, Head, PartSort, Endings, PartIs}
use Rattle.js_tree_laws.proofs.Gathers.{PartsAre}
use Rattle.js_tree_laws.proofs.Table.{one_node, operators, many}
use Rattle.js_tree_laws.proofs.Suits.{Left, Anything, NameAt, HeadAt, NoHead, is_name, is_head, after, after_by, From, StandsAt, NameStandsAt, OperandIs, NoEndings, Passes, HeadOperand, role_of, Goes, SuitsAt, Suits}
use Rattle.std.proofs.Common.{length, Result, Ok, Err, cond}
use Rattle.std.specs.Prelude.{◌==◌}
use Rattle.bast_base.specs.declared.errors.NameId.{NameId}
use Rattle.bast_schema.specs.Tree.{Tree, branch, name}
use Rattle.bast_schema.specs.declared.kind.Union.{Union}
use Rattle.js_grammar.specs.declared.symbols.Level.{Level}
use Rattle.js_grammar.specs.declared.symbols.Level.TheVariants as levels
use Rattle.js_grammar.specs.declared.symbols.Mode.{Mode}
use Rattle.js_grammar.specs.declared.symbols.RowId.TheVariants as rows
use Rattle.js_grammar.specs.Rows.{row_symbols, next_level}
use Rattle.js_tree.specs.Image.{row_part}
use Rattle.js_tree.specs.Finishes.{folds, statement, sequence, with_values}
use Rattle.js_tree.specs.Nodes.{one}
use Rattle.js_tree.specs.Results.{◌>>=◌, there}
use Rattle.js_tree.specs.Steps.{operand, put, tail, named, hold}
use Rattle.js_tree.specs.declared.fault.Fault.{Fault}
use Rattle.js_tree.specs.declared.fault.Fault.TheVariants as faults
use Rattle.js_tree.specs.declared.leaf.Leaf.{Leaf}
use Rattle.js_tree.specs.declared.parts.Ending.{Ending}
use Rattle.js_tree_laws.proofs.Sorts.{IsMaker, Safely, Is, IsOperand, TurnsTo}
use Rattle.js_tree_laws.proofs.Shapes.{both}
use Rattle.js_tree_laws.proofs.Safe.{safely_map, safely_bind, made_in, taken_is, among_one}
use Rattle.js_tree_laws.proofs.Closing.{Makes, on_top}
use Rattle.js_tree_laws.proofs.SortedFinishes.{folded_one, fold_of}
use Rattle.js_tree_laws.proofs.Filling.{row_fits, row_sound}
use Rattle.js_tree_laws.proofs.Table.{row_parts, head_fits, label_fits}
use Rattle.js_tree_laws.proofs.Apart.{forget, operand_is, taken_apart}
use Rattle.js_grammar.specs.declared.symbols.Terminal.TheVariants as terminals
use Rattle.js_tree.specs.Steps.{with_value, no_work, gathered}
use Rattle.js_tree.specs.Finishes.{finish_on}
use Rattle.js_tree.specs.declared.recipe.Finish.TheVariants as finishes
use Rattle.js_tree_laws.proofs.Sorts.{tells_text}
use Rattle.js_tree_laws.proofs.Rowwise.{Goal, from_back, from_least, put_on, non_head}

-- rows that stand for nothing
pub assign_tail_empty : (m : Maker) (q : Mode) → Goal m (symbols.AssignTail q) (rows.AssignTailEmpty q)
unfolding row_part
assign_tail_empty m q c n newline first from fs o ps here is = inl (inl (tt, non_head c newline o here.ok here.arrow, is))

pub new_args_empty : (m : Maker) → IsMaker m → Goal m symbols.NewArgs rows.NewArgsEmpty
new_args_empty m maker c n newline first from fs o ps here is =
    safely_map (λ out. (p : Part) × (out ≡ p ∷ ps) × PartIs m operators p) (Suits m (Want symbols.NewArgs first from ∷ fs) o) (row_part m rows.NewArgsEmpty ps)
    (λ out made. put_on m symbols.NewArgs first from fs o made.0 ps out made.1 (made.2, inl is))
    (row_sound m maker rows.NewArgsEmpty [] operators ps ps refl refl)

pub again : (m : Maker) → Goal m symbols.Again rows.Again
unfolding row_part
again m c n newline first from fs o [] here is = is
again m c n newline first from fs o (p ∷ ps) here is = is

-- an operand is one node
node_shape : (m : Maker) (u : Union) (p : Part) → PartIs m (one_node u) p → (t : Tree) × (raw : Option NameId) × (p ≡ parts.Values (more (child t) none) raw)
node_shape m u (parts.Values none raw) is = absurd is
node_shape m u (parts.Values (more (child t) none) raw) is = (t, raw, refl)
node_shape m u (parts.Values (more (child t) (more d ds)) raw) is = absurd is.1
node_shape m u (parts.Values (more _ ds) raw) is = let non : false ≡ true = is.0 in cc
node_shape m u _ is = absurd is

operand_shape : (m : Maker) (x : Left) (p : Part) → OperandIs m x p → (t : Tree) × (raw : Option NameId) × (p ≡ parts.Values (more (child t) none) raw)
operand_shape m Anything p is = node_shape m unions.Expression p is
operand_shape m (NameAt n) p is = node_shape m unions.Expression p is.0
operand_shape m (HeadAt n) p is = node_shape m (unions.One kinds.FormalParameters) p is

raw_free : (m : Maker) (x : Left) (t : Tree) (raw other : Option NameId) → OperandIs m x (parts.Values (more (child t) none) raw) → OperandIs m x (parts.Values (more (child t) none) other)
raw_free m Anything t raw other is = is
raw_free m (NameAt n) t raw other is = is
raw_free m (HeadAt n) t raw other is = is

-- an operand with what is put around it, or alone
passed : (m : Maker) (r : RowId) (P : List Part → Type 0) (x : Left) (raw_of : Option NameId → Option NameId)
    → ((t : Tree) (raw : Option NameId) (qs : List Part) → row_part m r (parts.Values (more (child t) none) raw ∷ parts.Endings [] ∷ qs) ≡ Ok (parts.Values (more (child t) none) (raw_of raw) ∷ qs))
    → (p q : Part) (qs : List Part) → ((p : Part) → OperandIs m x p → P (p ∷ qs)) → OperandIs m x p → NoEndings q → Safely P (row_part m r (p ∷ q ∷ qs))
passed m r P x raw_of same p (parts.Endings []) qs next is non =
    let shape = operand_shape m x p is in
    let here : OperandIs m x (parts.Values (more (child shape.0) none) shape.1) = subst (OperandIs m x) shape.2 is in
    subst (λ p. Safely P (row_part m r (p ∷ parts.Endings [] ∷ qs))) (sym shape.2)
    (subst (Safely P) (sym (same shape.0 shape.1 qs)) (next (parts.Values (more (child shape.0) none) (raw_of shape.1)) (raw_free m x shape.0 shape.1 (raw_of shape.1) here)))
passed m r P x raw_of same p (parts.Endings (e ∷ es)) qs next is non = absurd non
passed m r P x raw_of same p _ qs next is non = absurd non

turned : (m : Maker) → IsMaker m → (r : RowId) (P : List Part → Type 0) (s : PartSort) (x : Left) (p q : Part) (qs : List Part) → row_fits r (one_node unions.Expression ∷ s ∷ []) (one_node unions.Expression) ≡ true
    → ((p : Part) → PartIs m (one_node unions.Expression) p → P (p ∷ qs)) → NoHead x → OperandIs m x p → PartIs m s q → Safely P (row_part m r (p ∷ q ∷ qs))
turned m maker r P s x p q qs fits next non is is_q =
    safely_map (λ out. (p : Part) × (out ≡ p ∷ qs) × PartIs m (one_node unions.Expression) p) P (row_part m r (p ∷ q ∷ qs)) (λ out made. subst P (sym made.1) (next made.0 made.2))
    (row_sound m maker r (one_node unions.Expression ∷ s ∷ []) (one_node unions.Expression) (p ∷ q ∷ qs) qs fits (operand_is m x p non is, (is_q, refl)))

chained : (m : Maker) → IsMaker m → (r : RowId) (P : List Part → Type 0) (c : Class) (n : ℕ) (x : Left) (raw_of : Option NameId → Option NameId) (K : Left → Type 0) (p q : Part) (qs : List Part)
    → ((t : Tree) (raw : Option NameId) (qs : List Part) → row_part m r (parts.Values (more (child t) none) raw ∷ parts.Endings [] ∷ qs) ≡ Ok (parts.Values (more (child t) none) (raw_of raw) ∷ qs))
    → row_fits r (one_node unions.Expression ∷ operators ∷ []) (one_node unions.Expression) ≡ true
    → ((x : Left) (p : Part) → From c n x → OperandIs m x p → K x → P (p ∷ qs))
    → From c n x → OperandIs m x p → (NoEndings q × K x) ⊎ (PartIs m operators q × NoHead x × K Anything) → Safely P (row_part m r (p ∷ q ∷ qs))
chained m maker r P c n x raw_of K p q qs same fits next from is (inl (non, k)) = passed m r P x raw_of same p q qs (λ p is. next x p from is k) is non
chained m maker r P c n x raw_of K p q qs same fits next from is (inr (is_q, non, k)) = turned m maker r P operators x p q qs fits (λ p is. next Anything p tt is k) non is is_q

pub chained_row : (m : Maker) → IsMaker m → (s t u : Symbol) (r : RowId) (raw_of : Option NameId → Option NameId) → role_of s ≡ HeadOperand → role_of t ≡ HeadOperand → role_of u ≡ Passes → row_symbols r ≡ t ∷ u ∷ []
    → ((t : Tree) (raw : Option NameId) (qs : List Part) → row_part m r (parts.Values (more (child t) none) raw ∷ parts.Endings [] ∷ qs) ≡ Ok (parts.Values (more (child t) none) (raw_of raw) ∷ qs))
    → row_fits r (one_node unions.Expression ∷ operators ∷ []) (one_node unions.Expression) ≡ true → Goal m s r
chained_row m maker s t u r raw_of s_is t_is u_is symbols_are same fits c n newline first from fs o ps here is =
    on ps (subst (λ l. Suits m (want_all c n l ++ fs) o ps) symbols_are is)
  where
    on : (ps : List Part) → Suits m (Want t c n ∷ Want u c n ∷ fs) o ps → Safely (Suits m (Want s first from ∷ fs) o) (row_part m r ps)
    on (a ∷ b ∷ ps) is =
        let h : SuitsAt m HeadOperand t c n o a (λ x. Suits m (Want u c n ∷ fs) x (b ∷ ps)) = subst (λ r. SuitsAt m r t c n o a (λ x. Suits m (Want u c n ∷ fs) x (b ∷ ps))) t_is is in
        chained m maker r (Suits m (Want s first from ∷ fs) o) c n h.0 raw_of (λ x. Suits m fs x ps) a b ps same fits
        (λ x p f is k. subst (λ r. SuitsAt m r s first from o p (λ x. Suits m fs x ps)) (sym s_is) (x, from_back c first n from x here.least here.same f, is, k))
        h.1 h.2 (subst (λ r. SuitsAt m r u c n h.0 b (λ x. Suits m fs x ps)) u_is h.3)
    on (a ∷ []) is = absurd (let h : SuitsAt m HeadOperand t c n o a (λ x. Suits m (Want u c n ∷ fs) x []) = subst (λ r. SuitsAt m r t c n o a (λ x. Suits m (Want u c n ∷ fs) x [])) t_is is in h.3)
    on [] is = absurd is

pub next_role : (l : Level) (q : Mode) → role_of (next_level l q) ≡ HeadOperand
next_role levels.Multiplicative q = refl
next_role levels.LogicalOr q = refl
next_role _ q = refl

-- expressions with commas between
pub expr_row : (m : Maker) → IsMaker m → (q : Mode) → Goal m (symbols.Expr q) (rows.Expr q)
unfolding row_part operand hold put sequence
expr_row m maker q c n newline first from fs o (a ∷ parts.Values none raw ∷ ps) here (x, starts, non, is, inl (empty, k)) =
    let shape = operand_shape m x a is in
    let back : OperandIs m x (parts.Values (more (child shape.0) none) shape.1) = subst (OperandIs m x) shape.2 is in
    subst (λ a. Safely (Suits m (Want (symbols.Expr q) first from ∷ fs) o) (row_part m (rows.Expr q) (a ∷ parts.Values none raw ∷ ps))) (sym shape.2) (x, from_back c first n from x here.least here.same starts, non, back, k)
expr_row m maker q c n newline first from fs o (a ∷ parts.Values (more d ds) raw ∷ ps) here (x, starts, non, is, inl (empty, k)) = absurd empty
expr_row m maker q c n newline first from fs o (a ∷ b ∷ ps) here (x, starts, non, is, inr (is_b, gone, k)) =
    turned m maker (rows.Expr q) (Suits m (Want (symbols.Expr q) first from ∷ fs) o) (many (field.Node unions.Expression)) x a b ps refl (λ p is. (Anything, tt, tt, is, k)) non is is_b
expr_row m maker q c n newline first from fs o (a ∷ _ ∷ ps) here (x, starts, non, is, inl (empty, k)) = absurd empty
expr_row m maker q c n newline first from fs o (a ∷ []) here (x, starts, non, is, k) = absurd k
expr_row m maker q c n newline first from fs o [] here is = absurd is

-- an arrow function of its parameters
as_head : (m : Maker) (n : ℕ) (x : Left) (t : Tree) (raw : Option NameId) → OperandIs m x (parts.Values (more (child t) none) raw) → StandsAt n x → IsOperand Head t
as_head m n Anything t raw is at = absurd at
as_head m n (NameAt k) t raw is at = inl (is.0.0, is.1)
as_head m n (HeadAt k) t raw is at = inr is.0

arrow_made : (m : Maker) (q : Mode) (P : List Part → Type 0) (n : ℕ) (x : Left) (a b : Part) (ps : List Part) → ((p : Part) → PartIs m (one_node unions.Expression) p → P (p ∷ ps)) → OperandIs m x a → StandsAt n x → PartIs m (Endings (Turns Head unions.Expression)) b
    → Safely P (row_part m (rows.Assign q) (a ∷ b ∷ ps))
unfolding row_part operand tail folds
arrow_made m q P n x a (parts.Endings es) ps next is at turns =
    let shape = operand_shape m x a is in
    let back : OperandIs m x (parts.Values (more (child shape.0) none) shape.1) = subst (OperandIs m x) shape.2 is in
    subst (λ a. Safely P (row_part m (rows.Assign q) (a ∷ parts.Endings es ∷ ps))) (sym shape.2)
    (safely_map (λ out. (p : Part) × (out ≡ p ∷ ps) × PartIs m (one_node unions.Expression) p) P (fold_of m (length es == 0) (more (child shape.0) none) shape.1 es ps) (λ out made. subst P (sym made.1) (next made.0 made.2))
    (folded_one m (length es == 0) unions.Expression shape.0 shape.1 es ps ps refl refl (turns shape.0 (as_head m n x shape.0 shape.1 back at))))
arrow_made m q P n x a _ ps next is at turns = absurd turns

pub assign_row : (m : Maker) → IsMaker m → (q : Mode) → Goal m (symbols.Assign q) (rows.Assign q)
unfolding row_part operand tail folds
assign_row m maker q c n newline first from fs o (a ∷ b ∷ ps) here (x, starts, is, inl (inl (empty, non, k))) =
    passed m (rows.Assign q) (Suits m (Want (symbols.Assign q) first from ∷ fs) o) x (λ r. r) (λ t raw qs. refl) a b ps (λ p is. (x, from_back c first n from x here.least here.same starts, non, is, k)) is empty
assign_row m maker q c n newline first from fs o (a ∷ b ∷ ps) here (x, starts, is, inl (inr (is_b, non, k))) =
    turned m maker (rows.Assign q) (Suits m (Want (symbols.Assign q) first from ∷ fs) o) operators x a b ps refl (λ p is. (Anything, tt, tt, is, k)) non is is_b
assign_row m maker q c n newline first from fs o (a ∷ b ∷ ps) here (x, starts, is, inr (is_b, at, k)) =
    arrow_made m q (Suits m (Want (symbols.Assign q) first from ∷ fs) o) n x a b ps (λ p is. (Anything, tt, tt, is, k)) is at is_b
assign_row m maker q c n newline first from fs o (a ∷ []) here (x, starts, is, k) = absurd k
assign_row m maker q c n newline first from fs o [] here is = absurd is

-- a statement that begins with an expression, or with a label
as_name : (m : Maker) (n : ℕ) (x : Left) (t : Tree) (raw : Option NameId) → OperandIs m x (parts.Values (more (child t) none) raw) → NameStandsAt n x → IsOperand OneName t
as_name m n Anything t raw is at = absurd at
as_name m n (NameAt k) t raw is at = (is.0.0, is.1)
as_name m n (HeadAt k) t raw is at = absurd at

label_or : (m : Maker) → IsMaker m → (b : Bool) (t : Tree) (raw : Option NameId) (es : List Ending) (ps : List Part) → (length es == 0) ≡ b → IsOperand OneName t → TurnsTo m OneName unions.Body es
    → Makes m (one_node unions.Body) ps (cond b (m kinds.ExpressionStatement (more (child t) none) >>= λ t. with_values (one (child t)) raw ps) (fold_of m (length es == 0) (more (child t) none) raw es ps))
label_or m maker true t raw es ps e is turns =
    safely_bind (Is unions.Body) (λ out. (p : Part) × (out ≡ p ∷ ps) × PartIs m (one_node unions.Body) p) (m kinds.ExpressionStatement (more (child t) none)) _ (made_in m maker unions.Body kinds.ExpressionStatement (more (child t) none) refl (both _ _ is.0 refl))
    (λ t is. on_top m (one_node unions.Body) (parts.Values (one (child t)) raw) ps ps refl (is, tt))
label_or m maker false t raw es ps e is turns = folded_one m (length es == 0) unions.Body t raw es ps ps refl refl (turns t is)

labelled : (m : Maker) → IsMaker m → (P : List Part → Type 0) (n : ℕ) (x : Left) (a b : Part) (ps : List Part) → ((p : Part) → PartIs m (one_node unions.Body) p → P (p ∷ ps)) → OperandIs m x a → NameStandsAt n x → PartIs m (Endings (Turns OneName unions.Body)) b
    → Safely P (row_part m rows.StatExpr (a ∷ b ∷ ps))
unfolding row_part operand tail statement folds
labelled m maker P n x a (parts.Endings es) ps next is at turns =
    let shape = operand_shape m x a is in
    let back : OperandIs m x (parts.Values (more (child shape.0) none) shape.1) = subst (OperandIs m x) shape.2 is in
    subst (λ a. Safely P (row_part m rows.StatExpr (a ∷ parts.Endings es ∷ ps))) (sym shape.2)
    (safely_map (λ out. (p : Part) × (out ≡ p ∷ ps) × PartIs m (one_node unions.Body) p) P (cond (length es == 0) (m kinds.ExpressionStatement (more (child shape.0) none) >>= λ t. with_values (one (child t)) shape.1 ps) (fold_of m (length es == 0) (more (child shape.0) none) shape.1 es ps)) (λ out made. subst P (sym made.1) (next made.0 made.2))
    (label_or m maker (length es == 0) shape.0 shape.1 es ps refl (as_name m n x shape.0 shape.1 back at) turns))
labelled m maker P n x a _ ps next is at turns = absurd turns

unlabelled : (m : Maker) (p : Part) → NoEndings p → PartIs m (Endings NoTail) p
unlabelled m (parts.Endings []) non = refl
unlabelled m (parts.Endings (e ∷ es)) non = absurd non
unlabelled m _ non = absurd non

goes_out : (m : Maker) (c first : Class) (n from : ℕ) (o x : Left) (K : Left → Type 0) → from ≤ n → (from ≡ n → first ≡ c) → From c n x → Goes symbols.Label c n x K → Goes symbols.Stat first from o K
goes_out m c first n from o x K least same starts (inl (v, k)) = inr (x, from_back c first n from x least same starts, k)
goes_out m c first n from o x K least same starts (inr (y, is, k)) = inr (y, from_back c first n from y least same is, k)

pub stat_row : (m : Maker) → IsMaker m → Goal m symbols.Stat rows.StatExpr
stat_row m maker c n newline first from fs o (a ∷ b ∷ ps) here (x, starts, non, is, inl (empty, goes)) =
    safely_map (λ out. (p : Part) × (out ≡ p ∷ ps) × PartIs m (one_node unions.Body) p) (Suits m (Want symbols.Stat first from ∷ fs) o) (row_part m rows.StatExpr (a ∷ b ∷ ps))
    (λ out made. put_on m symbols.Stat first from fs o made.0 ps out made.1 (made.2, goes_out m c first n from o x (λ x. Suits m fs x ps) here.least here.same starts goes))
    (row_sound m maker rows.StatExpr (one_node unions.Expression ∷ Endings NoTail ∷ []) (one_node unions.Body) (a ∷ b ∷ ps) ps refl (operand_is m x a non is, (unlabelled m b empty, refl)))
stat_row m maker c n newline first from fs o (a ∷ b ∷ ps) here (x, starts, non, is, inr (is_b, at, k)) =
    labelled m maker (Suits m (Want symbols.Stat first from ∷ fs) o) n x a b ps (λ p is. (is, inr (Anything, tt, k))) is at is_b
stat_row m maker c n newline first from fs o (a ∷ []) here (x, starts, non, is, k) = absurd k
stat_row m maker c n newline first from fs o [] here is = absurd is

-- one name
abbrev NamedOut : List Part → List Part → Type 0
NamedOut ps out = (k : ℕ) × (t : Tree) × (out ≡ parts.Values (one (child t)) None ∷ ps) × (t ≡ branch kinds.IdentifierExpression (one (name k)))

named_out : (m : Maker) → IsMaker m → (l : Leaf) (ps : List Part) → (k : NameId) → l.text ≡ Some k → Safely (NamedOut ps) (row_part m rows.PrimaryIdent (parts.Token l ∷ ps))
unfolding row_part named
named_out m maker l ps k e =
    subst (λ x. Safely (NamedOut ps) (((there x >>= λ n. (m kinds.IdentifierExpression (one (name n.0)) >>= λ t. with_value (child t) no_work ps)) >>= λ r. gathered m [] r.0 r.1) >>= λ g. finish_on m finishes.Values g.0 g.1)) (sym e)
    (made_out (m kinds.IdentifierExpression (one (name k.0))) (maker kinds.IdentifierExpression (one (name k.0)) refl))
  where
    made_out : (made : Result Tree Fault) → Safely (λ t. t ≡ branch kinds.IdentifierExpression (one (name k.0))) made
        → Safely (NamedOut ps) (((made >>= λ t. with_value (child t) no_work ps) >>= λ r. gathered m [] r.0 r.1) >>= λ g. finish_on m finishes.Values g.0 g.1)
    made_out (Ok t) is = (k.0, t, refl, is)
    made_out (Err faults.TooDeep) is = tt
    made_out (Err _) is = is

named_suits : (m : Maker) (k n : ℕ) (t : Tree) → t ≡ branch kinds.IdentifierExpression (one (name k)) → OperandIs m (NameAt n) (parts.Values (one (child t)) None)
named_suits m k n t e = subst (λ t. OperandIs m (NameAt n) (parts.Values (one (child t)) None)) (sym e) ((refl, tt), (k, refl))

after_name : (b : Bool) (d : Bool) (n : ℕ) → b ≡ true → after_by (b && b) d n ≡ NameAt n
after_name true d n e = refl
after_name false d n e = cc

pub ident_row : (m : Maker) → IsMaker m → Goal m symbols.Primary rows.PrimaryIdent
ident_row m maker c n newline first from fs o (parts.Token l ∷ ps) here ((d, takes, leaf), k) =
    let has = leaf.told (taken_is tells_text terminals.Ident d takes refl) in
    let left : Suits m fs (NameAt n) ps = subst (λ x. Suits m fs x ps) (after_name (is_name c) (takes_class terminals.Ident classes.CloseParen && is_head c) n here.ok) k in
    safely_map (NamedOut ps) (Suits m (Want symbols.Primary first from ∷ fs) o) (row_part m rows.PrimaryIdent (parts.Token l ∷ ps))
    (λ out made. put_on m symbols.Primary first from fs o (parts.Values (one (child made.1)) None) ps out made.2 (NameAt n, from_back c first n from (NameAt n) here.least here.same (omega arith, λ e. here.ok), named_suits m made.0 n made.1 made.3, left))
    (named_out m maker l ps has.0 has.1)
ident_row m maker c n newline first from fs o (_ ∷ ps) here (is, k) = absurd is
ident_row m maker c n newline first from fs o [] here is = absurd is

-- the head of an arrow function
after_close : (c : Class) (n : ℕ) → is_head c ≡ true → after (terminals.One classes.CloseParen) c n ≡ HeadAt n
after_close c n e = ap (λ c. after (terminals.One classes.CloseParen) c n) (among_one c classes.HeadParen e)

head_left : (m : Maker) (c : Class) (n : ℕ) (fs : List Frame) (o : Left) (ps : List Part) → is_head c ≡ true → Suits m (want_all c n (row_symbols rows.PrimaryHead) ++ fs) o ps → (qs : List Part) × PartsAre m (row_parts rows.PrimaryHead) ps qs × Suits m fs (HeadAt n) qs
head_left m c n fs o (a ∷ b ∷ d ∷ ps) e (is_a, (is_b, inl (v, (is_d, k)))) = (ps, (is_a, (is_b, (is_d, refl))), subst (λ x. Suits m fs x ps) (after_close c n e) k)
head_left m c n fs o (a ∷ b ∷ d ∷ ps) e (is_a, (is_b, inr (x, starts, (is_d, k)))) = (ps, (is_a, (is_b, (is_d, refl))), subst (λ x. Suits m fs x ps) (after_close c n e) k)
head_left m c n fs o (a ∷ b ∷ []) e (is_a, (is_b, inl (v, k))) = absurd k
head_left m c n fs o (a ∷ b ∷ []) e (is_a, (is_b, inr (x, starts, k))) = absurd k
head_left m c n fs o (a ∷ []) e (is_a, k) = absurd k
head_left m c n fs o [] e is = absurd is

pub head_row : (m : Maker) → IsMaker m → Goal m symbols.Primary rows.PrimaryHead
head_row m maker c n newline first from fs o ps here is =
    let h = head_left m c n fs o ps here.ok is in
    safely_map (λ out. (p : Part) × (out ≡ p ∷ h.0) × PartIs m (one_node (unions.One kinds.FormalParameters)) p) (Suits m (Want symbols.Primary first from ∷ fs) o) (row_part m rows.PrimaryHead ps)
    (λ out made. put_on m symbols.Primary first from fs o made.0 h.0 out made.1 (HeadAt n, from_back c first n from (HeadAt n) here.least here.same (omega arith, λ e. here.ok), made.2, h.2))
    (row_sound m maker rows.PrimaryHead (row_parts rows.PrimaryHead) (one_node (unions.One kinds.FormalParameters)) ps h.0 head_fits h.1)

-- an arrow, and the `:` of a label
only_from : (c : Class) (n : ℕ) (o x : Left) → ((false ≡ true) × (x ≡ o) ⊎ From c n x) → From c n x
only_from c n o x (inl (v, e)) = cc
only_from c n o x (inr is) = is

pub arrow_row : (m : Maker) → IsMaker m → (q : Mode) → Goal m (symbols.AssignTail q) (rows.AssignTailArrow q)
arrow_row m maker q c n newline first from fs o ps here is =
    let t = taken_apart m c n fs (row_symbols (rows.AssignTailArrow q)) o ps here.ok here.chain_all here.linked is in
    safely_map (λ out. (p : Part) × (out ≡ p ∷ t.1) × PartIs m (Endings (Turns Head unions.Expression)) p) (Suits m (Want (symbols.AssignTail q) first from ∷ fs) o) (row_part m (rows.AssignTailArrow q) ps)
    (λ out made. put_on m (symbols.AssignTail q) first from fs o made.0 t.1 out made.1 (inr (made.2, here.follows, forget m n fs t.0 t.1 (from_least c n t.0 (only_from c n o t.0 t.3)) here.late.1 t.4)))
    (row_sound m maker (rows.AssignTailArrow q) (row_parts (rows.AssignTailArrow q)) (Endings (Turns Head unions.Expression)) ps t.1 refl t.2)

pub label_row : (m : Maker) → IsMaker m → Goal m symbols.Label rows.LabelBody
label_row m maker c n newline first from fs o ps here is =
    let t = taken_apart m c n fs (row_symbols rows.LabelBody) o ps here.ok here.chain_all here.linked is in
    safely_map (λ out. (p : Part) × (out ≡ p ∷ t.1) × PartIs m (Endings (Turns OneName unions.Body)) p) (Suits m (Want symbols.Label first from ∷ fs) o) (row_part m rows.LabelBody ps)
    (λ out made. put_on m symbols.Label first from fs o made.0 t.1 out made.1 (inr (made.2, here.follows, forget m n fs t.0 t.1 (from_least c n t.0 (only_from c n o t.0 t.3)) here.late.1 t.4)))
    (row_sound m maker rows.LabelBody (row_parts rows.LabelBody) (Endings (Turns OneName unions.Body)) ps t.1 label_fits t.2)
