-- A tree with exact scopes has at most four times as many values as before: each entry has at most four, and stems from
-- a binding that no other entry stems from.
use Rattle.std.proofs.Common.{ℕ, List, [], ◌∷◌, ◌++◌, ◌≡◌, ◌≤◌, ◌+◌, ◌*◌, Bool, true, false, refl, ap, sym, ◌∙◌, ◌&&◌, ◌||◌, not, if◌then◌else◌, Option, None, Some, length, arith, subst, slice_get, option_to_list, length-append}
use Rattle.std.specs.List.{list_any}
use Rattle.std.proofs.lemmas.List.{length-map}
use Rattle.bast_schema.specs.declared.kind.Kind.{Kind}
use Rattle.bast_schema.specs.declared.kind.Kind.TheVariants.{Script}
use Rattle.bast_schema.specs.declared.kind.Union.{Union}
use Rattle.bast_schema.specs.declared.kind.FieldType.{FieldType}
use Rattle.bast_schema.specs.declared.kind.FieldType.TheVariants as field
use Rattle.bast_schema.specs.Fields.{fields}
use Rattle.bast_schema.specs.Unions.{allowed, kinds_in}
use Rattle.bast_schema.specs.Kinds.{same_kind}
use Rattle.bast_schema.specs.Counts.{size, size_at, size_in}
use Rattle.bast_schema.specs.Tree.{Tree, branch, Datum, child, listed, flag, name, Data, none, more, typed, fits, fit, items_fit, item_type, is_none, kind_of}
use Rattle.bast_schema.proofs.Both.{and_first, and_second}
use Rattle.bast_schema.proofs.EachKind.{same_kind_true}
use Rattle.scope_facts.proofs.Clean.{none_of, not_true, child_typed}
use Rattle.scope_facts.proofs.LikeNames.{scope_form}
use Rattle.scope_facts.proofs.Typed.{size_same}
use Rattle.scope_facts.proofs.Sizes.{size_at_positive}
use Rattle.scope_facts.specs.declared.names.Declared.{Declared}
use Rattle.scope_facts.specs.declared.names.NameKind.{NameKind}
use Rattle.scope_facts.specs.declared.names.NameKind.TheVariants.{Var, Lexical}
use Rattle.scope_facts.specs.declared.roles.Form.{Form}
use Rattle.scope_facts.specs.declared.roles.Form.TheVariants as form
use Rattle.scope_facts.specs.declared.roles.Shape.{Shape}
use Rattle.scope_facts.specs.declared.roles.Shape.TheVariants as shape
use Rattle.scope_facts.specs.Roles as roles
use Rattle.scope_facts.specs.Roles.{shape_of, part, is_scope_part}
use Rattle.scope_facts.specs.Uses.{is_scope, first_name}
use Rattle.scope_facts.specs.Names.{with_kind, binding_name, bound_at, bound, bound_below_at, bound_below, declarators, lexical_kind, is_var_head, head_kind, vars_by, vars, vars_at, vars_in, lexicals_by, lexicals, lexicals_at, lexicals_in, tops_by, tops_at, tops_among, tops_in, same, once}
use Rattle.scope_facts.specs.Entries.{declared_entries, bound_entries, rest_entries, place_entry, item_entries, list_entries, parameter_entries_by, parameter_entries_at, parameter_entries, is_binding, entries, flags_by, is_simple}
use Rattle.scope_facts.specs.Filled.{filled_scope, filled, filled_at, filled_in, filled_among}
use Rattle.scope_facts.specs.Exact.{exact, eval_name}

-- how many names a value binds itself

abbrev binds_at : Datum → ℕ
binds_at d = length (option_to_list (bound_at d))

bound_more : (d : Datum) (ds : Data) → length (bound (more d ds)) ≡ binds_at d + length (bound ds)
bound_more d ds = length-append (option_to_list (bound_at d)) (bound ds)

-- how many names a node binds for the node around it, as a declarator, a parameter or a list of parameters

abbrev own_by : Form → Data → ℕ → ℕ
own_by form.Parameters ds inner = inner
own_by f ds inner = length (option_to_list (binding_name f ds)) + length (bound ds)

abbrev mutual
  own : Tree → ℕ
  own (branch k ds) = own_by (roles.form k) ds (own_in ds)

  own_at : Datum → ℕ
  own_at (child t) = own t
  own_at (listed ds) = own_in ds
  own_at _ = 0

  own_in : Data → ℕ
  own_in none = 0
  own_in (more d ds) = own_at d + own_in ds

binding_own : (f : Form) (ds : Data) (inner : ℕ) → length (option_to_list (binding_name f ds)) ≤ own_by f ds inner
binding_own form.Parameters ds inner = omega arith
binding_own form.Binding ds inner = omega arith
binding_own _ ds inner = omega arith

binds_own : (d : Datum) → binds_at d ≤ own_at d
binds_own (child (branch k ds)) = binding_own (roles.form k) ds (own_in ds)
binds_own _ = omega arith

bound_own : (ds : Data) → length (bound ds) ≤ own_in ds
bound_own none = omega arith
bound_own (more d ds) = omega (arith, bound_more d ds, binds_own d, bound_own ds)

below_own : (f : Form) (ds : Data) (inner : ℕ) → length (bound ds) ≤ inner → length (option_to_list (binding_name f ds) ++ bound ds) ≤ own_by f ds inner
below_own form.Parameters ds inner h = h
below_own form.Binding ds inner h = omega (arith, length-append (option_to_list (first_name ds)) (bound ds))
below_own _ ds inner h = omega arith

below_at_own : (d : Datum) → length (bound_below_at d) ≤ own_at d
below_at_own (child (branch k ds)) = below_own (roles.form k) ds (own_in ds) (bound_own ds)
below_at_own _ = omega arith

below_in_own : (ds : Data) → length (bound_below ds) ≤ own_in ds
below_in_own none = omega arith
below_in_own (more d ds) = omega (arith, length-append (bound_below_at d) (bound_below ds), below_at_own d, below_in_own ds)

declarators_own : (ds : Data) → length (declarators ds) ≤ own_in ds
declarators_own none = omega arith
declarators_own (more (listed es) ds) = omega (arith, below_in_own es)
declarators_own (more d ds) = omega (arith, declarators_own ds)

-- all names that a node gives to the nodes around it

abbrev up : Tree → ℕ
up t = length (vars t) + length (lexicals t) + own t

abbrev up_at : Datum → ℕ
up_at d = length (vars_at d) + length (lexicals_at d) + own_at d

abbrev up_in : Data → ℕ
up_in ds = length (vars_in ds) + length (lexicals_in ds) + own_in ds

up_more : (d : Datum) (ds : Data) → up_in (more d ds) ≡ up_at d + up_in ds
up_more d ds = omega (arith, length-append (vars_at d) (vars_in ds), length-append (lexicals_at d) (lexicals_in ds))

-- the names of statements are among these

with_kind_length : (kind : NameKind) (ns : List ℕ) → length (with_kind kind ns) ≡ length ns
with_kind_length kind ns = length-map ns _

tops_by_up : (f : Form) (ds : Data) (inner : List ℕ) (others : List Declared) → length (tops_by f ds (vars_by f ds inner)) ≤ length (vars_by f ds inner) + length (lexicals_by f ds others)
tops_by_up form.LexicalStatement ds inner others = omega arith
tops_by_up form.FunctionStatement ds inner others = omega (arith, with_kind_length Var (bound ds), with_kind_length Lexical (bound ds))
tops_by_up form.VarStatement ds inner others = omega (arith, with_kind_length Var (declarators ds))
tops_by_up form.Head ds inner others = omega (arith, with_kind_length Var (if is_var_head ds then bound ds else []))
tops_by_up form.Inside ds inner others = omega arith
tops_by_up _ ds inner others = omega (arith, with_kind_length Var inner)

tops_at_up : (d : Datum) → length (tops_at d) ≤ length (vars_at d) + length (lexicals_at d)
tops_at_up (child (branch k ds)) = tops_by_up (roles.form k) ds (vars_in ds) (lexicals_in ds)
tops_at_up _ = omega arith

tops_among_up : (ds : Data) → length (tops_among ds) ≤ length (vars_in ds) + length (lexicals_in ds)
tops_among_up none = omega arith
tops_among_up (more d ds) = omega (arith, length-append (tops_at d) (tops_among ds), length-append (vars_at d) (vars_in ds), length-append (lexicals_at d) (lexicals_in ds), tops_at_up d, tops_among_up ds)

later_up : (d : Datum) (ds : Data) (n : ℕ) → n ≤ length (vars_in ds) + length (lexicals_in ds) → n ≤ length (vars_in (more d ds)) + length (lexicals_in (more d ds))
later_up d ds n h = omega (arith, length-append (vars_at d) (vars_in ds), length-append (lexicals_at d) (lexicals_in ds))

tops_in_up : (ds : Data) → length (tops_in ds) ≤ length (vars_in ds) + length (lexicals_in ds)
tops_in_up none = omega arith
tops_in_up (more (listed es) ds) = omega (arith, tops_among_up es, length-append (vars_in es) (vars_in ds), length-append (lexicals_in es) (lexicals_in ds))
tops_in_up (more d ds) = later_up d ds (length (tops_in ds)) (tops_in_up ds)

shorter : (b : Bool) (a : Declared) (n : ℕ) (xs ys : List Declared) → length xs ≤ n → length ys ≤ n → length (if b then xs else a ∷ ys) ≤ n + 1
shorter true a n xs ys h g = omega arith
shorter false a n xs ys h g = omega arith

once_shorter : (xs seen : List Declared) → length (once seen xs) ≤ length xs
once_shorter [] seen = omega arith
once_shorter (a ∷ xs) seen = omega (arith, shorter (list_any (same a) seen) a (length xs) (once seen xs) (once (a ∷ seen) xs) (once_shorter xs seen) (once_shorter xs (a ∷ seen)))

-- the sizes of entries

declared_size : (xs : List Declared) → size_in (declared_entries xs) ≡ 4 * length xs
declared_size [] = omega arith
declared_size (a ∷ xs) = omega (arith, declared_size xs)

bound_size : (xs : List ℕ) → size_in (bound_entries xs) ≤ 4 * length xs
bound_size [] = omega arith
bound_size (n ∷ xs) = omega (arith, bound_size xs)

rest_size : (xs : List ℕ) → size_in (rest_entries xs) ≤ 4 * length xs
rest_size [] = omega arith
rest_size (n ∷ xs) = omega (arith, rest_size xs)

place_size : (i : ℕ) (ns : List ℕ) (others : Data) → size_in (place_entry i (slice_get ns 0) others) ≤ 4 * length ns + size_in others
place_size i [] others = omega arith
place_size i (n ∷ ns) others = omega arith

items_size : (i : ℕ) (items others : Data) → size_in (item_entries i items others) ≤ 4 * own_in items + size_in others
items_size i none others = omega arith
items_size i (more d items) others = omega (arith, place_size i (bound_below_at d) (item_entries (i + 1) items others), below_at_own d, items_size (i + 1) items others)

list_size : (fs : Data) → size_in (list_entries fs) ≤ 4 * own_in fs
list_size none = omega arith
list_size (more (listed items) rest) = omega (arith, items_size 0 items (rest_entries (bound rest)), rest_size (bound rest), bound_own rest)
list_size (more d rest) = omega arith

by_size : (f : Form) (fs : Data) (d : Datum) → length (bound_below_at d) ≤ own_by f fs (own_in fs) → size_in (parameter_entries_by f fs d) ≤ 4 * own_by f fs (own_in fs)
by_size form.Parameters fs d h = list_size fs
by_size form.Binding fs d h = omega (arith, place_size 0 (bound_below_at d) none)
by_size _ fs d h = omega (arith, place_size 0 (bound_below_at d) none)

at_size : (d : Datum) → size_in (parameter_entries_at d) ≤ 4 * own_at d
at_size (child (branch k fs)) = by_size (roles.form k) fs (child (branch k fs)) (below_at_own (child (branch k fs)))
at_size _ = omega arith

parameters_size : (after : Data) → size_in (parameter_entries after) ≤ 4 * own_in after
parameters_size none = omega arith
parameters_size (more d ds) = omega (arith, at_size d)

-- whether a value with one of these kinds may stand in a field of a type, or in a list there
abbrev may : (Kind → Bool) → FieldType → Bool
may q (field.Node u) = list_any q (kinds_in u)
may q (field.Optional u) = list_any q (kinds_in u)
may q (field.Lazy u) = list_any q (kinds_in u)
may q (field.List u holes filled) = list_any q (kinds_in u)
may q _ = false

-- whether no field may have one of these kinds
abbrev no : (Kind → Bool) → List FieldType → Bool
no q [] = true
no q (t ∷ ts) = not (may q t) && no q ts

-- whether at most one field may
abbrev at_most_one : (Kind → Bool) → List FieldType → Bool
at_most_one q [] = true
at_most_one q (t ∷ ts) = if may q t then no q ts else at_most_one q ts

never : (q : Kind → Bool) (t : FieldType) (u : Tree) → fits t (child u) ≡ true → may q t ≡ false → q (kind_of u) ≡ false
never q (field.Node w) u h g = none_of q (kinds_in w) (kind_of u) (and_first (allowed w (kind_of u)) (typed u) h) g
never q (field.Optional w) u h g = none_of q (kinds_in w) (kind_of u) (and_first (allowed w (kind_of u)) (typed u) h) g
never q (field.Lazy w) u h g = none_of q (kinds_in w) (kind_of u) (and_first (allowed w (kind_of u)) (typed u) h) g
never q _ u h g = cc

listed_by : (q : Kind → Bool) (P : Type 0) (t : FieldType) (es : Data) → fits t (listed es) ≡ true → may q t ≡ false → ((u : Union) (holes : Bool) → items_fit u holes es ≡ true → may q (item_type u holes) ≡ false → P) → P
listed_by q P (field.List u true nonempty) es h g go = go u true (and_second (not nonempty || not (is_none es)) (items_fit u true es) h) g
listed_by q P (field.List u false nonempty) es h g go = go u false (and_second (not nonempty || not (is_none es)) (items_fit u false es) h) g
listed_by q P _ es h g go = cc

-- a sum over values, each with those after it, to which only values of certain kinds add

abbrev total : (Datum → Data → ℕ) → Data → ℕ
total w none = 0
total w (more d ds) = w d ds + total w ds

-- only values with one of these kinds add to the sum
record Only (q : Kind → Bool) (w : Datum → Data → ℕ) : Type 0 where
  other : (t : FieldType) (d : Datum) (after : Data) → fits t d ≡ true → may q t ≡ false → w d after ≡ 0

-- each value adds at most a number of those after it, which grows from the last value to the first
record Bounds (w : Datum → Data → ℕ) (m : Data → ℕ) : Type 0 where
  each : (d : Datum) (after : Data) → w d after ≤ m after
  grows : (d : Datum) (after : Data) → m after ≤ m (more d after)

total_none : (q : Kind → Bool) (w : Datum → Data → ℕ) → Only q w → (ts : List FieldType) (ds : Data) → fit ts ds ≡ true → no q ts ≡ true → total w ds ≡ 0
total_none q w o ts none h g = refl
total_none q w o [] (more d ds) h g = cc
total_none q w o (t ∷ ts) (more d ds) h g = omega (
  arith,
  o.other t d ds (and_first (fits t d) (fit ts ds) h) (not_true (may q t) (and_first (not (may q t)) (no q ts) g)),
  total_none q w o ts ds (and_second (fits t d) (fit ts ds) h) (and_second (not (may q t)) (no q ts) g),
)

one_step : (q : Kind → Bool) (w : Datum → Data → ℕ) (m : Data → ℕ) → Only q w → Bounds w m → (t : FieldType) (ts : List FieldType) (d : Datum) (ds : Data) (b : Bool) → may q t ≡ b → fits t d ≡ true → fit ts ds ≡ true
    → (if b then no q ts else at_most_one q ts) ≡ true → (at_most_one q ts ≡ true → total w ds ≤ m ds) → total w (more d ds) ≤ m (more d ds)
one_step q w m o b t ts d ds true e f h g r = omega (arith, b.each d ds, b.grows d ds, total_none q w o ts ds h g)
one_step q w m o b t ts d ds false e f h g r = omega (arith, o.other t d ds f e, b.grows d ds, r g)

total_one : (q : Kind → Bool) (w : Datum → Data → ℕ) (m : Data → ℕ) → Only q w → Bounds w m → (ts : List FieldType) (ds : Data) → fit ts ds ≡ true → at_most_one q ts ≡ true → total w ds ≤ m ds
total_one q w m o b ts none h g = omega arith
total_one q w m o b [] (more d ds) h g = cc
total_one q w m o b (t ∷ ts) (more d ds) h g = one_step q w m o b t ts d ds (may q t) refl (and_first (fits t d) (fit ts ds) h) (and_second (fits t d) (fit ts ds) h) g
    (λ i. total_one q w m o b ts ds (and_second (fits t d) (fit ts ds) h) i)

-- the names that the values of a node bind

-- whether a node of a kind binds its name
abbrev is_binder : Kind → Bool
is_binder k = is_binding (roles.form k)

no_name_bound : (f : Form) (ds : Data) → is_binding f ≡ false → length (option_to_list (binding_name f ds)) ≡ 0
no_name_bound form.Binding ds h = cc
no_name_bound _ ds h = refl

binders : Only is_binder (λ d after. binds_at d)
binders = record { other = other_binds }
  where
    other_binds : (t : FieldType) (d : Datum) (after : Data) → fits t d ≡ true → may is_binder t ≡ false → binds_at d ≡ 0
    other_binds t (child (branch k ds)) after h g = no_name_bound (roles.form k) ds (never is_binder t (branch k ds) h g)
    other_binds t _ after h g = refl

bound_total : (ds : Data) → length (bound ds) ≡ total (λ d after. binds_at d) ds
bound_total none = refl
bound_total (more d ds) = omega (arith, bound_more d ds, bound_total ds)

at_most_once : (d : Datum) → binds_at d ≤ 1
at_most_once d = option_short (bound_at d)
  where
    option_short : (o : Option ℕ) → length (option_to_list o) ≤ 1
    option_short None = omega arith
    option_short (Some n) = omega arith

binders_bound : Bounds (λ d after. binds_at d) (λ ds. 1)
binders_bound = record { each = λ d after. at_most_once d; grows = λ d after. le_self 1 }
  where
    le_self : (n : ℕ) → n ≤ n
    le_self n = omega arith

one_bound : (ts : List FieldType) (ds : Data) → fit ts ds ≡ true → at_most_one is_binder ts ≡ true → length (bound ds) ≤ 1
one_bound ts ds h g = omega (arith, bound_total ds, total_one is_binder (λ d after. binds_at d) (λ es. 1) binders binders_bound ts ds h g)

-- the entries that the scopes of a shape get

abbrev is_shape : Shape → Shape → Bool
is_shape shape.Statements shape.Statements = true
is_shape shape.Lexical shape.Lexical = true
is_shape shape.Parameters shape.Parameters = true
is_shape shape.BoundName shape.BoundName = true
is_shape _ _ = false

-- whether a kind is a scope of a shape
abbrev of_shape : Shape → Kind → Bool
of_shape s k = is_shape s (shape_of k)

-- how many values the entries of a scope of a shape have
abbrev made_at : Shape → List ℕ → Datum → Data → ℕ
made_at s names (child (branch k es)) after = if is_shape s (shape_of k) then size_in (entries s names after) else 0
made_at s names d after = 0

-- the same of all such scopes among the fields of a node whose values bind these names
abbrev made : Shape → List ℕ → Data → ℕ
made s names ds = total (made_at s names) ds

if_not : (b : Bool) (n : ℕ) → b ≡ false → (if b then n else 0) ≡ 0
if_not true n h = cc
if_not false n h = refl

if_most : (b : Bool) (n m : ℕ) → n ≤ m → (if b then n else 0) ≤ m
if_most true n m h = h
if_most false n m h = omega arith

made_only : (s : Shape) (names : List ℕ) → Only (of_shape s) (made_at s names)
made_only s names = record { other = other_made }
  where
    other_made : (t : FieldType) (d : Datum) (after : Data) → fits t d ≡ true → may (of_shape s) t ≡ false → made_at s names d after ≡ 0
    other_made t (child (branch k es)) after h g = if_not (is_shape s (shape_of k)) (size_in (entries s names after)) (never (of_shape s) t (branch k es) h g)
    other_made t _ after h g = refl

-- how many they have at most
abbrev most : Shape → List ℕ → Data → ℕ
most shape.Statements names ds = 4 * (length (vars_in ds) + length (lexicals_in ds))
most shape.Lexical names ds = 4 * length (lexicals_in ds)
most shape.Parameters names ds = 4 * own_in ds
most shape.BoundName names ds = 4 * length names
most shape.Nothing names ds = 0

most_size : (s : Shape) (names : List ℕ) (after : Data) → size_in (entries s names after) ≤ most s names after
most_size shape.Statements names after = omega (arith, declared_size (once [] (tops_in after)), once_shorter (tops_in after) [], tops_in_up after)
most_size shape.Lexical names after = omega (arith, declared_size (once [] (lexicals_in after)), once_shorter (lexicals_in after) [])
most_size shape.Parameters names after = parameters_size after
most_size shape.BoundName names after = bound_size names
most_size shape.Nothing names after = omega arith

most_grows : (s : Shape) (names : List ℕ) (d : Datum) (after : Data) → most s names after ≤ most s names (more d after)
most_grows shape.Statements names d after = omega (arith, length-append (vars_at d) (vars_in after), length-append (lexicals_at d) (lexicals_in after))
most_grows shape.Lexical names d after = omega (arith, length-append (lexicals_at d) (lexicals_in after))
most_grows _ names d after = omega arith

made_bounds : (s : Shape) (names : List ℕ) → Bounds (made_at s names) (most s names)
made_bounds s names = record { each = each_made; grows = most_grows s names }
  where
    each_made : (d : Datum) (after : Data) → made_at s names d after ≤ most s names after
    each_made (child (branch k es)) after = if_most (is_shape s (shape_of k)) (size_in (entries s names after)) (most s names after) (most_size s names after)
    each_made _ after = omega arith

-- whether at most one of the fields may be a scope of a shape, or none
abbrev few : Bool → Shape → List FieldType → Bool
few b s ts = if b then at_most_one (of_shape s) ts else no (of_shape s) ts

made_most : (b : Bool) (s : Shape) (names : List ℕ) (ts : List FieldType) (ds : Data) → fit ts ds ≡ true → few b s ts ≡ true → made s names ds ≤ (if b then most s names ds else 0)
made_most true s names ts ds h g = total_one (of_shape s) (made_at s names) (most s names) (made_only s names) (made_bounds s names) ts ds h g
made_most false s names ts ds h g = omega (arith, total_none (of_shape s) (made_at s names) (made_only s names) ts ds h g)

-- the same of every shape
abbrev all_at : List ℕ → Datum → Data → ℕ
all_at names d after = made_at shape.Statements names d after + made_at shape.Lexical names d after + made_at shape.Parameters names d after + made_at shape.BoundName names d after

abbrev all_made : List ℕ → Data → ℕ
all_made names ds = made shape.Statements names ds + made shape.Lexical names ds + made shape.Parameters names ds + made shape.BoundName names ds

entries_split : (s : Shape) (names : List ℕ) (after : Data)
    → size_in (entries s names after) ≤ (if is_shape shape.Statements s then size_in (entries shape.Statements names after) else 0) + (if is_shape shape.Lexical s then size_in (entries shape.Lexical names after) else 0)
    + (if is_shape shape.Parameters s then size_in (entries shape.Parameters names after) else 0) + (if is_shape shape.BoundName s then size_in (entries shape.BoundName names after) else 0)
entries_split shape.Nothing names after = omega arith
entries_split _ names after = omega arith

flags_size : (s : Shape) (b : Bool) → size_in (flags_by s b) ≤ 2
flags_size shape.Parameters b = omega arith
flags_size _ b = omega arith

scope_size : (names : List ℕ) (d : Datum) (after : Data) → is_scope d ≡ true → size_at (filled_scope names d after) ≤ 4 + all_at names d after
scope_size names (child (branch k ds)) after h = omega (arith, entries_split (shape_of k) names after, flags_size (shape_of k) (is_simple after))
scope_size names _ after h = cc

scope_binds : (d : Datum) → is_scope d ≡ true → binds_at d ≡ 0
scope_binds (child (branch k ds)) h = ap (λ f. length (option_to_list (binding_name f ds))) (scope_form k h)
scope_binds _ h = cc

field_part : (names : List ℕ) (d : Datum) (after : Data) (b : Bool) → is_scope d ≡ b → size_at (filled_at d) + 4 * up_at d + 2 * binds_at d ≤ 4 * size_at d
    → size_at (if b then filled_scope names d after else filled_at d) + 4 * up_at d + 2 * binds_at d ≤ 4 * size_at d + all_at names d after
field_part names d after true s h = omega (arith, scope_size names d after s, scope_binds d s, size_at_positive (filled_at d))
field_part names d after false s h = omega arith

-- what the fields of each kind are

abbrev is_script : Kind → Bool
is_script k = same_kind Script k

-- whether there is one field, a name
abbrev is_one_name : List FieldType → Bool
is_one_name (field.Name ∷ []) = true
is_one_name _ = false

-- the shapes of the scopes that a node of a form may have
abbrev takes : Form → Shape → Bool
takes form.Inside shape.Statements = true
takes form.Inside shape.Parameters = true
takes form.Plain shape.Lexical = true
takes form.Plain shape.BoundName = true
takes _ _ = false

abbrev scopes_few : Form → List FieldType → Bool
scopes_few f ts = few (takes f shape.Statements) shape.Statements ts && (few (takes f shape.Lexical) shape.Lexical ts && (few (takes f shape.Parameters) shape.Parameters ts && few (takes f shape.BoundName) shape.BoundName ts))

-- whether the scopes among fields of these types take each name at most once, and none that goes on to the nodes around
abbrev scopes_apart : Form → List FieldType → Bool
scopes_apart form.Binding ts = is_one_name ts
scopes_apart f ts = scopes_few f ts

-- whether at most one of the values binds a name, where none but these takes the names from there
abbrev binds_one : Form → List FieldType → Bool
binds_one form.Parameters ts = true
binds_one _ ts = at_most_one is_binder ts

-- both, where no script is inside another node
abbrev names_apart : Form → List FieldType → Bool
names_apart f ts = no is_script ts && (binds_one f ts && scopes_apart f ts)

each_apart : (k : Kind) → is_script k ≡ false → names_apart (roles.form k) (fields k) ≡ true
each_apart Script h = cc
each_apart _ h = refl

-- a node that is no script

-- with their scopes filled, and four values for each name that they give, fields take at most four times their values,
-- and their entries
abbrev Fields : List ℕ → Data → Type 0
Fields names ds = size_in (filled_in names ds) + 4 * up_in ds + 2 * length (bound ds) ≤ 4 * size_in ds + all_made names ds

-- the same of a node of a form, whose names that go on are fewer by those that its entries take
abbrev Node : Form → Data → Type 0
Node f ds = 1 + size_in (filled_in (bound ds) ds) + 4 * (length (vars_by f ds (vars_in ds)) + length (lexicals_by f ds (lexicals_in ds)) + own_by f ds (own_in ds)) + 2 * length (option_to_list (binding_name f ds)) ≤ 4 * (1 + size_in ds)

all_most : (f : Form) (names : List ℕ) (ts : List FieldType) (ds : Data) → fit ts ds ≡ true → scopes_few f ts ≡ true
    → all_made names ds ≤ (if takes f shape.Statements then most shape.Statements names ds else 0) + (if takes f shape.Lexical then most shape.Lexical names ds else 0)
    + (if takes f shape.Parameters then most shape.Parameters names ds else 0) + (if takes f shape.BoundName then most shape.BoundName names ds else 0)
all_most f names ts ds h g =
    let more_tests : (few (takes f shape.Lexical) shape.Lexical ts && (few (takes f shape.Parameters) shape.Parameters ts && few (takes f shape.BoundName) shape.BoundName ts)) ≡ true = and_second (few (takes f shape.Statements) shape.Statements ts) _ g
    in let last_tests : (few (takes f shape.Parameters) shape.Parameters ts && few (takes f shape.BoundName) shape.BoundName ts) ≡ true = and_second (few (takes f shape.Lexical) shape.Lexical ts) _ more_tests
    in omega (
      arith,
      made_most (takes f shape.Statements) shape.Statements names ts ds h (and_first (few (takes f shape.Statements) shape.Statements ts) _ g),
      made_most (takes f shape.Lexical) shape.Lexical names ts ds h (and_first (few (takes f shape.Lexical) shape.Lexical ts) _ more_tests),
      made_most (takes f shape.Parameters) shape.Parameters names ts ds h (and_first (few (takes f shape.Parameters) shape.Parameters ts) _ last_tests),
      made_most (takes f shape.BoundName) shape.BoundName names ts ds h (and_second (few (takes f shape.Parameters) shape.Parameters ts) _ last_tests),
    )

name_step : (ds : Data) → fit (field.Name ∷ []) ds ≡ true → Node form.Binding ds
name_step none h = cc
name_step (more (name n) none) h = omega arith
name_step (more (name n) (more e es)) h = cc
name_step (more d ds) h = cc

one_name : (ts : List FieldType) → is_one_name ts ≡ true → ts ≡ field.Name ∷ []
one_name (field.Name ∷ []) h = refl
one_name _ h = cc

head_names : (b : Bool) (kind : NameKind) (ns : List ℕ) → length (if b then ns else []) + length (if b then [] else with_kind kind ns) ≡ length ns
head_names true kind ns = omega arith
head_names false kind ns = omega (arith, with_kind_length kind ns)

names_step : (f : Form) (ts : List FieldType) (ds : Data) → fit ts ds ≡ true → binds_one f ts ≡ true → scopes_apart f ts ≡ true → Fields (bound ds) ds → Node f ds
names_step form.Inside ts ds h one g f = omega (arith, all_most form.Inside (bound ds) ts ds h g, one_bound ts ds h one, bound_own ds)
names_step form.Plain ts ds h one g f = omega (arith, all_most form.Plain (bound ds) ts ds h g, one_bound ts ds h one, bound_own ds)
names_step form.Binding ts ds h one g f = name_step ds (subst (λ us. fit us ds ≡ true) (one_name ts g) h)
names_step form.Parameters ts ds h one g f = omega (arith, all_most form.Parameters (bound ds) ts ds h g)
names_step form.VarStatement ts ds h one g f = omega (arith, all_most form.VarStatement (bound ds) ts ds h g, one_bound ts ds h one, declarators_own ds)
names_step form.LexicalStatement ts ds h one g f = omega (arith, all_most form.LexicalStatement (bound ds) ts ds h g, one_bound ts ds h one, declarators_own ds, with_kind_length (lexical_kind ds) (declarators ds))
names_step form.FunctionStatement ts ds h one g f = omega (arith, all_most form.FunctionStatement (bound ds) ts ds h g, one_bound ts ds h one, bound_own ds, with_kind_length Lexical (bound ds))
names_step form.Head ts ds h one g f = omega (arith, all_most form.Head (bound ds) ts ds h g, one_bound ts ds h one, bound_own ds, head_names (is_var_head ds) (head_kind ds) (bound ds))
names_step form.Case ts ds h one g f = omega (arith, all_most form.Case (bound ds) ts ds h g, one_bound ts ds h one, bound_own ds)

item_part : (ds : Data) (d : Datum) → size_at (filled_at d) + 4 * up_at d + 2 * binds_at d ≤ 4 * size_at d → size_in (filled_among ds) + 4 * up_in ds ≤ 4 * size_in ds → size_in (filled_among (more d ds)) + 4 * up_in (more d ds) ≤ 4 * size_in (more d ds)
item_part ds d h g = omega (arith, up_more d ds)

fields_part : (names : List ℕ) (ds : Data) (d : Datum)
    → size_at (if is_scope d then filled_scope names d ds else filled_at d) + 4 * up_at d + 2 * binds_at d ≤ 4 * size_at d + all_at names d ds → Fields names ds → Fields names (more d ds)
fields_part names ds d h g = omega (arith, up_more d ds, bound_more d ds)

mutual
  node_small : (t : Tree) → is_script (kind_of t) ≡ false → typed t ≡ true → size (filled t) + 4 * up t + 2 * binds_at (child t) ≤ 4 * size t
  node_small (branch k ds) s h = names_step (roles.form k) (fields k) ds h
      (and_first (binds_one (roles.form k) (fields k)) (scopes_apart (roles.form k) (fields k)) (and_second (no is_script (fields k)) (binds_one (roles.form k) (fields k) && scopes_apart (roles.form k) (fields k)) (each_apart k s)))
      (and_second (binds_one (roles.form k) (fields k)) (scopes_apart (roles.form k) (fields k)) (and_second (no is_script (fields k)) (binds_one (roles.form k) (fields k) && scopes_apart (roles.form k) (fields k)) (each_apart k s)))
      (fields_small (bound ds) ds (fields k) (and_first (no is_script (fields k)) (binds_one (roles.form k) (fields k) && scopes_apart (roles.form k) (fields k)) (each_apart k s)) h)

  field_small : (d : Datum) (t : FieldType) → may is_script t ≡ false → fits t d ≡ true → size_at (filled_at d) + 4 * up_at d + 2 * binds_at d ≤ 4 * size_at d
  field_small (child u) t s h = node_small u (never is_script t u h s) (child_typed t u h)
  field_small (listed es) t s h = let g : size_in (filled_among es) + 4 * up_in es ≤ 4 * size_in es = listed_by is_script (size_in (filled_among es) + 4 * up_in es ≤ 4 * size_in es) t es h s (λ u holes f r. items_small es u holes r f) in omega arith
  field_small _ t s h = omega arith

  fields_small : (names : List ℕ) (ds : Data) (ts : List FieldType) → no is_script ts ≡ true → fit ts ds ≡ true → Fields names ds
  fields_small names none ts s h = omega arith
  fields_small names (more d ds) [] s h = cc
  fields_small names (more d ds) (t ∷ ts) s h = fields_part names ds d
      (field_part names d ds (is_scope d) refl (field_small d t (not_true (may is_script t) (and_first (not (may is_script t)) (no is_script ts) s)) (and_first (fits t d) (fit ts ds) h)))
      (fields_small names ds ts (and_second (not (may is_script t)) (no is_script ts) s) (and_second (fits t d) (fit ts ds) h))

  items_small : (ds : Data) (u : Union) (holes : Bool) → may is_script (item_type u holes) ≡ false → items_fit u holes ds ≡ true → size_in (filled_among ds) + 4 * up_in ds ≤ 4 * size_in ds
  items_small none u holes s h = omega arith
  items_small (more d ds) u holes s h = item_part ds d (field_small d (item_type u holes) s (and_first (fits (item_type u holes) d) (items_fit u holes ds) h)) (items_small ds u holes s (and_second (fits (item_type u holes) d) (items_fit u holes ds) h))

-- a script takes the names of its statements, and gives none on

script_small : (ds : Data) → fit (fields Script) ds ≡ true → size (filled (branch Script ds)) ≤ 4 * size (branch Script ds)
script_small ds h = omega (
  arith,
  fields_small (bound ds) ds (fields Script) refl h,
  made_most true shape.Statements (bound ds) (fields Script) ds h refl,
  made_most false shape.Lexical (bound ds) (fields Script) ds h refl,
  made_most false shape.Parameters (bound ds) (fields Script) ds h refl,
  made_most false shape.BoundName (bound ds) (fields Script) ds h refl,
)

root_small : (k : Kind) (ds : Data) (b : Bool) → is_script k ≡ b → typed (branch k ds) ≡ true → size (filled (branch k ds)) ≤ 4 * size (branch k ds)
root_small k ds true e h = subst (λ j. typed (branch j ds) ≡ true → size (filled (branch j ds)) ≤ 4 * size (branch j ds)) (same_kind_true Script k e) (script_small ds) h
root_small k ds false e h = omega (arith, node_small (branch k ds) e h)

pub filled_small : (t : Tree) → typed t ≡ true → size (filled t) ≤ 4 * size t
filled_small (branch k ds) h = root_small k ds (is_script k) refl h

pub exact_small : (texts : List (Option (List ℕ))) (t : Tree) → typed t ≡ true → size (exact texts t) ≤ 4 * size t
exact_small texts t h = omega (arith, size_same (eval_name texts) (filled t), filled_small t h)
