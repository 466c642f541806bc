-- What a row's work may hold, step by step; what the steps gather with the limit follows what they gather without it.
use Rattle.std.proofs.Common.{◌≡◌, ◌≤◌, ◌==◌, ◌*◌, ◌+◌, ℕ, max, cond, Bool, true, ◌&&◌, List, [], ◌∷◌, ◌++◌, length, drop, Option, Some, None, Result, Ok, refl, arith}
use Rattle.std.specs.Prelude.{nat_le}
use Rattle.std.proofs.lemmas.Bool.{eqb-true}
use Rattle.bast_base.specs.declared.errors.NameId.{NameId}
use Rattle.bast_schema.specs.declared.kind.Kind.{Kind}
use Rattle.bast_schema.specs.declared.kind.Kind.TheVariants as kinds
use Rattle.bast_schema.specs.Counts.{join}
use Rattle.bast_schema.specs.Tree.{Tree, Datum, child, absent, name, Data, none, more, depth, depth_at, depth_in}
use Rattle.bast_schema.proofs.Sums.{depth_join}
use Rattle.js_grammar.specs.declared.symbols.Symbol.{Symbol}
use Rattle.js_grammar.specs.declared.symbols.Symbol.TheVariants as symbols
use Rattle.js_tokens.specs.declared.kinds.TokenKind.{TokenKind}
use Rattle.js_tokens.specs.declared.kinds.TokenKind.TheVariants as tokens
use Rattle.js_tree.specs.Leads.{is_leaf}
use Rattle.js_tree.specs.Nodes.{one, two, no_names, no_parameter_names, limited, unlimited, statements, behind_directive, behind_directives, directives, directives_from}
use Rattle.js_tree.specs.Operators.{operator}
use Rattle.js_tree.specs.Parts.{first_value, one_value, taken_values}
use Rattle.js_tree.specs.Results.{◌>>=◌}
use Rattle.js_tree.specs.Steps.{gathered, with_value, step_on, skip, put, operand, wrap, text, number, whole_number, named, quoted, with_operator, parameter_of, parameter, template_part, tail, rest, with_statements, body, hold, resume, closed}
use Rattle.js_tree.specs.declared.fault.Fault.{Fault}
use Rattle.js_tree.specs.declared.parts.Part.{Part}
use Rattle.js_tree.specs.declared.parts.Part.TheVariants as parts
use Rattle.js_tree.specs.declared.parts.Form.{Form}
use Rattle.js_tree.specs.declared.parts.Form.TheVariants as forms
use Rattle.js_tree.specs.declared.parts.Ending.{Ending}
use Rattle.js_tree.specs.declared.parts.Ending.TheVariants as endings
use Rattle.js_tree.specs.declared.parts.Item.{Item}
use Rattle.js_tree.specs.declared.recipe.Step.{Step}
use Rattle.js_tree.specs.declared.recipe.Step.TheVariants as steps
use Rattle.js_tree.specs.declared.work.Work.{Work}
use Rattle.js_tree_laws.proofs.Holding.{both}
use Rattle.js_tree_laws.proofs.Following.{deep_endings, deep_items, deep_part, deep_parts, deep_work, deep_got, Follows, done, failed, andthen, follows_there, node, made}

-- how an operand stands in an ending: as it is, in another form, or not at all
abbrev pub rank_form : Form → ℕ
rank_form forms.Plain = 1
rank_form _ = 2

abbrev pub rank : Ending → ℕ
rank (endings.Around k form before behind) = rank_form form
rank (endings.Instead t) = 3

abbrev pub ranks : List Ending → ℕ
ranks [] = 0
ranks (e ∷ es) = max (rank e) (ranks es)

-- of those behind the first one
abbrev pub ranks_behind : List Ending → ℕ
ranks_behind [] = 0
ranks_behind (e ∷ es) = ranks es

-- how deep that is which has a raw text: an expression of one string is one node deep, and a statement of one two
abbrev pub told : Option NameId → ℕ → ℕ
told None d = 0
told (Some n) d = d

abbrev pub noise : Option NameId → ℕ
noise None = 0
noise (Some n) = 1

abbrev pub told_items : List Item → ℕ
told_items [] = 0
told_items (i ∷ is) = max (told i.raw (depth i.statement)) (told_items is)

abbrev pub told_part : Part → ℕ
told_part (parts.Values ds raw) = told raw (depth_in ds)
told_part (parts.Items is) = told_items is
told_part _ = 0

abbrev pub ranks_part : Part → ℕ
ranks_part (parts.Endings es) = ranks es
ranks_part _ = 0

abbrev pub ranks_behind_part : Part → ℕ
ranks_behind_part (parts.Endings es) = ranks_behind es
ranks_behind_part _ = 0

-- what the parts of a symbol are at most
abbrev pub cap : Symbol → ℕ
cap symbols.Stat = 2
cap symbols.Item = 2
cap symbols.Body = 2
cap symbols.Items = 2
cap _ = 1

-- what the head of a `for` without a declaration is put into, and what follows `get` or `set`, which may be an accessor
abbrev pub level : Symbol → ℕ
level symbols.ForRest = 1
level symbols.ForExpr = 1
level symbols.GetRest = 3
level symbols.SetRest = 3
level _ = 2

abbrev pub leafs : Symbol → ℕ
leafs s = cond (is_leaf s) 0 1

pub record Suits (s : Symbol) (p : Part) : Type 0 where
  pub leaf : leafs s ≤ 0 → deep_part p ≤ 0
  pub small : told_part p ≤ cap s
  pub ends : ranks_part p ≤ level s
  pub behind : ranks_behind_part p ≤ 2

-- one part for each symbol
abbrev pub Laid : List Symbol → List Part → Type 0
Laid [] [] = Unit {0}
Laid [] (p ∷ ps) = ⊥
Laid (s ∷ ss) [] = ⊥
Laid (s ∷ ss) (p ∷ ps) = Suits s p × Laid ss ps

-- whether the fields of a work may be deep, what its endings are at most, whether it may have a raw text, and how deep its
-- values and those held are at most, where it has one: 3 and more say nothing
pub record Flow : Type 0 where
  pub values : ℕ
  pub held : ℕ
  pub directives : ℕ
  pub items : ℕ
  pub ends : ℕ
  pub behind : ℕ
  pub raw : ℕ
  pub operand : ℕ
  pub held_operand : ℕ

pub record Within (b : Flow) (w : Work) : Type 0 where
  pub values : b.values ≤ 0 → depth_in w.values ≤ 1
  pub held : b.held ≤ 0 → depth_in w.held ≤ 1
  pub directives : b.directives ≤ 0 → depth_in w.directives ≤ 1
  pub items : b.items ≤ 0 → deep_items w.items ≤ 1
  pub small : told_items w.items ≤ 2
  pub ends : ranks w.endings ≤ b.ends
  pub behind : ranks_behind w.endings ≤ b.behind
  pub raw : noise w.raw ≤ b.raw
  pub operand : b.operand ≤ 2 → told w.raw (depth_in w.values) ≤ b.operand
  pub held_operand : b.held_operand ≤ 2 → told w.raw (depth_in w.held) ≤ b.held_operand

abbrev pub no_flow : Flow
no_flow = record { values = 0; held = 0; directives = 0; items = 0; ends = 0; behind = 0; raw = 0; operand = 0; held_operand = 0 }

abbrev adds : Flow → Flow
adds b = record b { values = 1; operand = 3 * b.raw }

abbrev with_raw : ℕ → Flow → Flow
with_raw c b = record b { values = 1; raw = 1; operand = c + 3 * b.values; held_operand = 1 + 3 * b.held }

-- how many symbols a step takes, what it may lose, what is left, and what the work may hold then
abbrev takes : Step → ℕ
takes steps.Absent = 0
takes steps.NoLabel = 0
takes steps.NoItems = 0
takes (steps.Flag b) = 0
takes (steps.Choice n) = 0
takes (steps.Scope k) = 0
takes steps.ParameterScope = 0
takes steps.Hold = 0
takes steps.Resume = 0
takes (steps.Close k) = 0
takes steps.Parameter = 2
takes steps.TemplatePart = 2
takes _ = 1

abbrev lost : Step → List Symbol → Flow → ℕ
lost steps.Skip (x ∷ xs) b = leafs x
lost steps.Rest xs b = b.items
lost steps.Body xs b = b.directives
lost steps.Hold xs b = b.held
lost _ xs b = 0

abbrev after : Step → List Symbol → Flow → Flow
after steps.Skip xs b = b
after steps.Text xs b = record b { operand = 3 * b.raw }
after steps.Operand (x ∷ xs) b = with_raw (cap x) b
after steps.Quoted xs b = with_raw 1 b
after steps.Tail (x ∷ xs) b = record b { ends = max b.ends (level x); behind = max 2 (3 * b.ends) }
after steps.Rest xs b = record b { items = 1 }
after steps.Body xs b = record (adds b) { directives = 1 }
after steps.Hold xs b = record b { values = 0; held = b.values; operand = 0; held_operand = b.operand }
after steps.Resume xs b = record (adds b) { held = 0; directives = 0; held_operand = 0 }
after _ xs b = adds b

abbrev left_by : Step → List Symbol → List Symbol
left_by s xs = drop (takes s) xs

abbrev pub may_all : List Step → List Symbol → Flow → Bool
may_all [] xs b = true
may_all (s ∷ ss) xs b = (nat_le (takes s) (length xs) && (lost s xs b == 0)) && may_all ss (left_by s xs) (after s xs b)

abbrev pub left_by_all : List Step → List Symbol → List Symbol
left_by_all [] xs = xs
left_by_all (s ∷ ss) xs = left_by_all ss (left_by s xs)

abbrev pub after_all : List Step → List Symbol → Flow → Flow
after_all [] xs b = b
after_all (s ∷ ss) xs b = after_all ss (left_by s xs) (after s xs b)

-- depths and ranks of what is put together
told_most : (o : Option NameId) (d : ℕ) → told o d ≤ d
told_most None d = omega arith
told_most (Some n) d = omega arith

noise_most : (o : Option NameId) → noise o ≤ 1
noise_most None = omega arith
noise_most (Some n) = omega arith

quiet : (o : Option NameId) (d : ℕ) → noise o ≤ 0 → told o d ≤ 0
quiet None d e = omega arith
quiet (Some n) d e = absurd (omega (arith, e))

told_join : (o : Option NameId) (ds es : Data) → told o (depth_in (join ds es)) ≤ max (depth_in ds) (told o (depth_in es))
told_join None ds es = omega arith
told_join (Some n) ds es = omega (arith, depth_join ds es)

deep_append : (es fs : List Ending) → (deep_endings es ≤ deep_endings (es ++ fs)) × (deep_endings fs ≤ deep_endings (es ++ fs))
deep_append [] fs = omega arith
deep_append (e ∷ es) fs = omega (arith, deep_append es fs)

ranks_append : (es fs : List Ending) → ranks (es ++ fs) ≡ max (ranks es) (ranks fs)
ranks_append [] fs = omega arith
ranks_append (e ∷ es) fs = omega (arith, ranks_append es fs)

pub rank_form_is : (f : Form) → (1 ≤ rank_form f) × (rank_form f ≤ 2)
rank_form_is forms.Plain = omega arith
rank_form_is _ = omega arith

rank_is : (e : Ending) → (1 ≤ rank e) × (rank e ≤ 3)
rank_is (endings.Around k form before behind) = omega (arith, rank_form_is form)
rank_is (endings.Instead t) = omega arith

ranks_most : (es : List Ending) → ranks es ≤ 3
ranks_most [] = omega arith
ranks_most (e ∷ es) = omega (arith, rank_is e, ranks_most es)

behind_append : (es fs : List Ending) → ranks_behind (es ++ fs) ≤ max (ranks_behind fs) (3 * ranks es)
behind_append [] fs = omega arith
behind_append (e ∷ es) fs = omega (arith, rank_is e, ranks_most (es ++ fs))

pub bounds : (s : Symbol) → (1 ≤ cap s) × (cap s ≤ 2) × (1 ≤ level s)
bounds symbols.Stat = omega arith
bounds _ = omega arith

items_depth : (is : List Item) → depth_in (statements is) ≡ deep_items is
items_depth [] = omega arith
items_depth (i ∷ is) = omega (arith, items_depth is)

-- what is a directive is not deep
behind_by : (o : Option NameId) (i : Item) (is : List Item) → told o (depth i.statement) ≤ 2 → deep_items is ≤ max 2 (depth_in (statements (behind_directives is)))
    → deep_items (i ∷ is) ≤ max 2 (depth_in (statements (behind_directive o (i ∷ is) (behind_directives is))))
behind_by None i is small rest = omega (arith, items_depth is)
behind_by (Some raw) i is small rest = omega (arith, small, rest)

behind_depth : (is : List Item) → told_items is ≤ 2 → deep_items is ≤ max 2 (depth_in (statements (behind_directives is)))
behind_depth [] small = omega arith
behind_depth (i ∷ is) small = behind_by i.raw i is (omega (arith, small)) (behind_depth is (omega (arith, small)))

-- values that are taken apart
pub one_follows : {n : ℕ} (ds : Data) → Follows n (λ d. n) (λ d. (ds ≡ one d) × (depth_in ds ≡ depth_at d)) (one_value ds) (one_value ds)
one_follows (more d none) = done (omega arith) (refl, omega arith)
one_follows (more d (more e es)) = failed
one_follows none = failed

pub first_follows : {n : ℕ} (ds : Data) → Follows n (λ f. n) (λ f. depth_in ds ≡ max (depth_at f.0) (depth_in f.1)) (first_value ds) (first_value ds)
first_follows none = failed
first_follows (more d ds) = done (omega arith) (omega arith)

follows_number : {n : ℕ} (k : TokenKind) → Follows n (λ x. n) (λ x. Unit {0}) (number k) (number k)
follows_number (tokens.Number n) = done (omega arith) tt
follows_number _ = failed

values_follows : {n : ℕ} (x : Symbol) (xs : List Symbol) (ps : List Part) → Laid (x ∷ xs) ps
    → Follows n (λ v. n) (λ v. (deep_parts ps ≡ max (depth_in v.0.0) (deep_parts v.1)) × Laid xs v.1) (taken_values ps) (taken_values ps)
values_follows x xs (parts.Values ds raw ∷ ps) laid = done (omega arith) (omega arith, laid.1)
values_follows x xs _ laid = failed

abbrev pub Stepped : Flow → List Symbol → Work × List Part → Type 0
Stepped b xs r = Within b r.0 × Laid xs r.1

value_follows : {n : ℕ} {b : Flow} {w : Work} {ps : List Part} (d : Datum) (xs : List Symbol) → n ≤ max 512 (max (deep_got (w, ps)) (depth_at d)) → Within b w → Laid xs ps
    → Follows n deep_got (Stepped (adds b) xs) (with_value d w ps) (with_value d w ps)
value_follows d xs below e laid = done (omega (arith, below, depth_join)) (omega (arith, e, quiet), laid)

parameter_of_follows : {n : ℕ} (c : ℕ) (t : Tree) (d : Datum) → n ≤ max 512 (max c (max (depth t) (depth_at d))) → Follows n (λ u. max c (depth u)) (λ u. Unit {0}) (parameter_of limited t d) (parameter_of unlimited t d)
parameter_of_follows c t absent below = done (omega (arith, below)) tt
parameter_of_follows c t (child u) below = node c kinds.BindingWithInitializer (two (child t) (child u)) (omega (arith, below)) tt
parameter_of_follows c t _ below = failed

directive_follows : {n : ℕ} (o : Option NameId) (r q : Result Data Fault) → ((n : ℕ) → Follows n (λ ds. n) (λ ds. Unit {0}) r q) → Follows n (λ ds. n) (λ ds. Unit {0}) (directives_from limited o r) (directives_from unlimited o q)
directive_follows None r q h = done (omega arith) tt
directive_follows (Some raw) r q h =
    andthen {f = λ t. r >>= λ ds. Ok (more (child t) ds)} {g = λ t. q >>= λ ds. Ok (more (child t) ds)} (made kinds.Directive (one (name raw.0))) (λ t same. andthen (h _) (λ ds u. done (omega (arith, same)) tt))

directives_follow : (is : List Item) (n : ℕ) → Follows n (λ ds. n) (λ ds. Unit {0}) (directives limited is) (directives unlimited is)
directives_follow [] n = done (omega arith) tt
directives_follow (i ∷ is) n = directive_follows i.raw (directives limited is) (directives unlimited is) (directives_follow is)

close_follows : {n : ℕ} {b : Flow} (c : ℕ) (k : Kind) (w : Work) → n ≤ max 512 (max c (deep_work w)) → Within b w → Follows n (λ x. max c (deep_work x)) (Within (adds b)) (closed limited k w) (closed unlimited k w)
unfolding closed
close_follows c k w below e = andthen (made k w.values) (λ t same. done (omega (arith, below, same)) (omega (arith, e, quiet)))

step_follows : (s : Step) (b : Flow) (w : Work) (xs outer : List Symbol) (ps : List Part) → nat_le (takes s) (length xs) ≡ true → lost s xs b ≡ 0 → Within b w → Laid (xs ++ outer) ps
    → Follows (deep_got (w, ps)) deep_got (Stepped (after s xs b) (left_by s xs ++ outer)) (step_on limited s w ps) (step_on unlimited s w ps)
unfolding skip put operand wrap text whole_number named quoted with_operator parameter template_part tail rest with_statements body hold resume
step_follows steps.Skip b w (x ∷ xs) outer (p ∷ ps) enough kept e laid = done (omega (arith, laid.0.leaf (omega (arith, kept)))) (e, laid.1)
step_follows steps.Put b w (x ∷ xs) outer (parts.Values ds raw ∷ ps) enough kept e laid = done (omega (arith, depth_join)) (omega (arith, e, quiet), laid.1)
step_follows steps.Operand b w (x ∷ xs) outer (parts.Values ds raw ∷ ps) enough kept e laid =
    done (omega (arith, depth_join)) (omega (arith, e, laid.0, told_join raw w.values ds, told_most raw (depth_in w.held), noise_most raw, bounds x), laid.1)
step_follows steps.Wrap b w (x ∷ xs) outer (parts.Values ds raw ∷ ps) enough kept e laid = value_follows _ _ (omega arith) e laid.1
step_follows steps.Text b w (x ∷ xs) outer (parts.Token l ∷ ps) enough kept e laid =
    andthen (follows_there l.text) (λ n u. done (omega (arith, depth_join)) (omega (arith, e, quiet, depth_join), laid.1))
step_follows steps.Whole b w (x ∷ xs) outer (parts.Token l ∷ ps) enough kept e laid = andthen (follows_number l.kind) (λ n u. value_follows _ _ (omega arith) e laid.1)
step_follows (steps.Named k) b w (x ∷ xs) outer (parts.Token l ∷ ps) enough kept e laid =
    andthen (follows_there l.text) (λ n u. andthen (made k (one (name n.0))) (λ t same. value_follows (child t) _ (omega arith) e laid.1))
step_follows steps.Quoted b w (x ∷ xs) outer (parts.Token l ∷ ps) enough kept e laid =
    andthen (follows_there l.text) (λ n u. andthen (made kinds.LiteralStringExpression (one (name n.0))) (λ t same.
    done {z = (record w { values = join w.values (one (child t)); raw = l.raw }, ps)} (omega (arith, depth_join)) (omega (arith, e, same, depth_join, told_most, noise_most l.raw), laid.1)))
step_follows (steps.Operator o) b w (x ∷ xs) outer (parts.Token l ∷ ps) enough kept e laid = andthen (follows_there (operator o l.kind)) (λ n u. value_follows _ _ (omega arith) e laid.1)
step_follows steps.Parameter b w (x ∷ y ∷ xs) outer (parts.Token l ∷ ps) enough kept e laid =
    andthen (follows_there l.text) (λ n u. andthen (made kinds.BindingIdentifier (one (name n.0))) (λ t same. andthen (values_follows y (xs ++ outer) ps laid.1) (λ v vs. andthen (one_follows v.0.0) (λ d is.
    andthen (parameter_of_follows (deep_got (w, v.1)) t d (omega (arith, vs.0, is.1))) (λ p j. value_follows (child p) _ (omega arith) e vs.1)))))
step_follows steps.TemplatePart b w (x ∷ y ∷ xs) outer (parts.Values ds raw ∷ ps) enough kept e laid =
    andthen (one_follows ds) (λ d is. andthen (values_follows y (xs ++ outer) ps laid.1) (λ v vs. andthen (first_follows v.0.0) (λ f all. andthen (made kinds.TemplatePart (two d f.0)) (λ t same.
    done (omega (arith, is.1, vs.0, all, same, depth_join)) (omega (arith, e, quiet), vs.1)))))
step_follows steps.Tail b w (x ∷ xs) outer (parts.Endings es ∷ ps) enough kept e laid =
    done (omega (arith, deep_append w.endings es)) (omega (arith, e, laid.0, ranks_append w.endings es, behind_append w.endings es), laid.1)
step_follows steps.Rest b w (x ∷ xs) outer (parts.Items is ∷ ps) enough kept e laid = done (omega (arith, e.items (omega (arith, kept)))) (omega (arith, e, laid.0, bounds x), laid.1)
step_follows steps.Statements b w (x ∷ xs) outer (parts.Items is ∷ ps) enough kept e laid = value_follows _ _ (omega (arith, items_depth is)) e laid.1
step_follows steps.Body b w (x ∷ xs) outer (parts.Items is ∷ ps) enough kept e laid =
    let small : told_items is ≤ 2 = omega (arith, laid.0, bounds x)
    in andthen (directives_follow is _) (λ ds u. done (omega (arith, e.directives (omega (arith, kept)), behind_depth is small, depth_join)) (omega (arith, e, quiet), laid.1))
step_follows steps.Absent b w xs outer ps enough kept e laid = value_follows _ _ (omega arith) e laid
step_follows steps.NoLabel b w xs outer ps enough kept e laid = value_follows _ _ (omega arith) e laid
step_follows steps.NoItems b w xs outer ps enough kept e laid = value_follows _ _ (omega arith) e laid
step_follows (steps.Flag f) b w xs outer ps enough kept e laid = value_follows _ _ (omega arith) e laid
step_follows (steps.Choice n) b w xs outer ps enough kept e laid = value_follows _ _ (omega arith) e laid
step_follows (steps.Scope k) b w xs outer ps enough kept e laid = andthen (made k no_names) (λ t same. value_follows (child t) _ (omega arith) e laid)
step_follows steps.ParameterScope b w xs outer ps enough kept e laid = andthen (made kinds.AssertedParameterScope no_parameter_names) (λ t same. value_follows (child t) _ (omega arith) e laid)
step_follows steps.Hold b w xs outer ps enough kept e laid = done (omega (arith, e.held (omega (arith, kept)))) (omega (arith, e, told_most), laid)
step_follows steps.Resume b w xs outer ps enough kept e laid = done (omega (arith, depth_join)) (omega (arith, e, quiet, told_most), laid)
step_follows (steps.Close k) b w xs outer ps enough kept e laid = andthen (close_follows (deep_parts ps) k w (omega arith) e) (λ x j. done (omega arith) (j, laid))
step_follows _ b w _ outer _ enough kept e laid = first_of (search failed, cc)

pub all_follow : (ss : List Step) (b : Flow) (w : Work) (xs outer : List Symbol) (ps : List Part) → may_all ss xs b ≡ true → Within b w → Laid (xs ++ outer) ps
    → Follows (deep_got (w, ps)) deep_got (Stepped (after_all ss xs b) (left_by_all ss xs ++ outer)) (gathered limited ss w ps) (gathered unlimited ss w ps)
all_follow [] b w xs outer ps may e laid = done (omega arith) (e, laid)
all_follow (s ∷ ss) b w xs outer ps may e laid =
    let m = both (nat_le (takes s) (length xs) && (lost s xs b == 0)) (may_all ss (left_by s xs) (after s xs b)) may
    in let here = both (nat_le (takes s) (length xs)) (lost s xs b == 0) m.0
    in andthen (step_follows s b w xs outer ps here.0 (eqb-true (lost s xs b) 0 here.1) e laid) (λ r j. all_follow ss (after s xs b) r.0 (left_by s xs) outer r.1 m.1 j.0 j.1)
