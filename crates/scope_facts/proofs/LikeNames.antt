-- What trees declare that are alike but for the numbers of names, the laziness of kinds and the entries of scopes.
use Rattle.std.proofs.Common.{ℕ, List, [], ◌∷◌, ◌++◌, ◌+◌, ◌≡◌, Bool, true, false, refl, ap, sym, ◌∙◌, if◌then◌else◌, map, Option, None, Some, option_to_list, slice_get}
use Rattle.std.proofs.lemmas.List.{map-append}
use Rattle.std.specs.List.{list_any}
use Rattle.std.specs.Option.{option_map}
use Rattle.bast_schema.specs.declared.kind.Kind.{Kind}
use Rattle.bast_schema.specs.declared.kind.Kind.TheVariants.{LazyFunctionDeclaration, LazyMethod, LazyGetter, LazySetter, LazyFunctionExpression, AssertedScriptGlobalScope, AssertedVarScope, AssertedBlockScope, AssertedParameterScope, AssertedBoundNamesScope}
use Rattle.bast_schema.specs.Tree.{Tree, branch, Datum, child, listed, name, Data, none, more}
use Rattle.scope_facts.specs.declared.names.Declared.{Declared}
use Rattle.scope_facts.specs.declared.names.NameKind.{NameKind}
use Rattle.scope_facts.specs.declared.names.NameKind.TheVariants.{Var, Lexical}
use Rattle.scope_facts.specs.declared.roles.Form.{Form}
use Rattle.scope_facts.specs.declared.roles.Form.TheVariants.{Binding, VarStatement, LexicalStatement, FunctionStatement, Head, Case, Inside, Parameters, Plain}
use Rattle.scope_facts.specs.declared.roles.Shape.{Shape}
use Rattle.scope_facts.specs.declared.roles.Shape.TheVariants as shape
use Rattle.scope_facts.specs.Roles.{part, form, is_scope_part}
use Rattle.scope_facts.specs.Uses.{first_name}
use Rattle.scope_facts.specs.Names.{with_kind, binding_name, bound_at, bound, bound_below_at, bound_below, declarators, lexical_kind, is_var_head, head_kind, vars_by, vars_at, vars_in, lexicals_by, lexicals_at, lexicals_in, tops_by, tops_at, tops_among, tops_in, same, once}
use Rattle.scope_facts.specs.Entries.{declared_entries, bound_entries, rest_entries, place_entry, parameter_name, item_entries, list_entries, parameter_entries_by, parameter_entries_at, parameter_entries, entries, is_bare, all_bare, is_absent, no_rest, list_simple, simple_by, is_simple_at, is_simple}
use Rattle.scope_facts.specs.Renamed.{IsInjective, renamed_in}
use Rattle.scope_facts.proofs.Clean.{only_entries, scope_vars, scope_lexicals, scope_bound}
use Rattle.scope_facts.proofs.Like.{Change, LikeAt, in_scope, in_node, in_list, a_name, an_absence, a_choice, LikeIn, end, next, kind_by}

-- a map that leaves nothing but entries in scopes, where nothing else was
pub record Quiet (m : Change) : Type 0 where
  pub before : (k : Kind) (ds es : Data) → m.scopes k ds es → only_entries ds ≡ true
  pub after : (k : Kind) (ds es : Data) → m.scopes k ds es → only_entries es ≡ true

pub form_by : (b : Bool) (k : Kind) → form (kind_by b k) ≡ form k
form_by true LazyFunctionDeclaration = refl
form_by true LazyMethod = refl
form_by true LazyGetter = refl
form_by true LazySetter = refl
form_by true LazyFunctionExpression = refl
form_by true _ = refl
form_by false k = refl

-- a scope is plain for declarations
pub scope_form : (k : Kind) → is_scope_part (part k) ≡ true → form k ≡ Plain
scope_form AssertedScriptGlobalScope s = refl
scope_form AssertedVarScope s = refl
scope_form AssertedBlockScope s = refl
scope_form AssertedParameterScope s = refl
scope_form AssertedBoundNamesScope s = refl
scope_form _ s = cc

-- a declared name with another number
abbrev pub renamed_declared : (ℕ → ℕ) → Declared → Declared
renamed_declared r a = record { name = r a.name; kind = a.kind }

option_list : {A B : Type 0} (f : A → B) (o : Option A) → option_to_list (option_map f o) ≡ map f (option_to_list o)
option_list f None = refl
option_list f (Some x) = refl

kinds_map : (r : ℕ → ℕ) (k : NameKind) (ns : List ℕ) → with_kind k (map r ns) ≡ map (renamed_declared r) (with_kind k ns)
kinds_map r k [] = refl
kinds_map r k (n ∷ ns) = rw (kinds_map r k ns) refl

pub if_map : {A B : Type 0} (f : A → B) (b : Bool) (xs ys : List A) → (if b then map f xs else map f ys) ≡ map f (if b then xs else ys)
if_map f true xs ys = refl
if_map f false xs ys = refl

-- the names that values bind

pub first_name_like : {m : Change} {ds es : Data} → LikeIn m ds es → first_name es ≡ option_map m.number (first_name ds)
first_name_like end = refl
first_name_like (next _ _ cs ds (a_name n h) l) = refl
first_name_like (next _ _ cs ds _ l) = first_name_like l

binding_like : {m : Change} {ds es : Data} (f : Form) → LikeIn m ds es → binding_name f es ≡ option_map m.number (binding_name f ds)
binding_like Binding l = first_name_like l
binding_like _ l = refl

pub bound_at_like : {m : Change} {c d : Datum} → LikeAt m c d → bound_at d ≡ option_map m.number (bound_at c)
bound_at_like {m} (in_node k ds es l) = rw (form_by m.eagerly k) (binding_like (form k) l)
bound_at_like (in_scope k ds es s o) = rw (scope_form k s) refl
bound_at_like _ = refl

pub bound_like : {m : Change} {ds es : Data} → LikeIn m ds es → bound es ≡ map m.number (bound ds)
bound_like end = refl
bound_like {m} (next c d cs ds h l) = rw (bound_at_like h, option_list m.number (bound_at c), bound_like l) (sym (map-append m.number (option_to_list (bound_at c)) (bound cs)))

pub below_at_like : {m : Change} {c d : Datum} → Quiet m → LikeAt m c d → bound_below_at d ≡ map m.number (bound_below_at c)
below_at_like {m} q (in_node k ds es l) =
    rw (form_by m.eagerly k, binding_like (form k) l, option_list m.number (binding_name (form k) ds), bound_like l) (sym (map-append m.number (option_to_list (binding_name (form k) ds)) (bound ds)))
below_at_like q (in_scope k ds es s o) = rw (scope_form k s, scope_bound ds (q.before k ds es o), scope_bound es (q.after k ds es o)) refl
below_at_like q _ = refl

pub below_like : {m : Change} {ds es : Data} → Quiet m → LikeIn m ds es → bound_below es ≡ map m.number (bound_below ds)
below_like q end = refl
below_like {m} q (next c d cs ds h l) = rw (below_at_like q h, below_like q l) (sym (map-append m.number (bound_below_at c) (bound_below cs)))

declarators_like : {m : Change} {ds es : Data} → Quiet m → LikeIn m ds es → declarators es ≡ map m.number (declarators ds)
declarators_like q end = refl
declarators_like q (next _ _ cs ds (in_list xs ys i) l) = below_like q i
declarators_like q (next _ _ cs ds _ l) = declarators_like q l

lexical_kind_like : {m : Change} {ds es : Data} → LikeIn m ds es → lexical_kind es ≡ lexical_kind ds
lexical_kind_like end = refl
lexical_kind_like (next _ _ cs ds (a_choice n) l) = refl
lexical_kind_like (next _ _ cs ds _ l) = refl

is_var_head_like : {m : Change} {ds es : Data} → LikeIn m ds es → is_var_head es ≡ is_var_head ds
is_var_head_like end = refl
is_var_head_like (next _ _ cs ds (a_choice n) l) = refl
is_var_head_like (next _ _ cs ds _ l) = refl

head_kind_like : {m : Change} {ds es : Data} → LikeIn m ds es → head_kind es ≡ head_kind ds
head_kind_like end = refl
head_kind_like (next _ _ cs ds (a_choice n) l) = refl
head_kind_like (next _ _ cs ds _ l) = refl

-- var names

vars_by_like : {m : Change} {ds es : Data} → Quiet m → (f : Form) (inner : List ℕ) → LikeIn m ds es → vars_by f es (map m.number inner) ≡ map m.number (vars_by f ds inner)
vars_by_like q VarStatement inner l = declarators_like q l
vars_by_like {m} {ds} q Head inner l = rw (is_var_head_like l, bound_like l) (if_map m.number (is_var_head ds) (bound ds) [])
vars_by_like q Inside inner l = refl
vars_by_like q _ inner l = refl

mutual
  pub vars_at_like : {m : Change} → Quiet m → {c d : Datum} → LikeAt m c d → vars_at d ≡ map m.number (vars_at c)
  vars_at_like {m} q (in_node k ds es l) = rw (form_by m.eagerly k, vars_like q l) (vars_by_like q (form k) (vars_in ds) l)
  vars_at_like q (in_scope k ds es s o) = rw (scope_form k s, scope_vars ds (q.before k ds es o), scope_vars es (q.after k ds es o)) refl
  vars_at_like q (in_list ds es l) = vars_like q l
  vars_at_like q _ = refl

  pub vars_like : {m : Change} → Quiet m → {ds es : Data} → LikeIn m ds es → vars_in es ≡ map m.number (vars_in ds)
  vars_like q end = refl
  vars_like {m} q (next c d cs ds h l) = rw (vars_at_like q h, vars_like q l) (sym (map-append m.number (vars_at c) (vars_in cs)))

-- lexical names

lexicals_by_like : {m : Change} {ds es : Data} → Quiet m → (f : Form) (inner : List Declared) → LikeIn m ds es
    → lexicals_by f es (map (renamed_declared m.number) inner) ≡ map (renamed_declared m.number) (lexicals_by f ds inner)
lexicals_by_like {m} {ds} q LexicalStatement inner l = rw (lexical_kind_like l, declarators_like q l) (kinds_map m.number (lexical_kind ds) (declarators ds))
lexicals_by_like {m} {ds} q FunctionStatement inner l = rw (bound_like l) (kinds_map m.number Lexical (bound ds))
lexicals_by_like {m} {ds} q Head inner l = rw (is_var_head_like l, head_kind_like l, bound_like l, kinds_map m.number (head_kind ds) (bound ds))
    (if_map (renamed_declared m.number) (is_var_head ds) [] (with_kind (head_kind ds) (bound ds)))
lexicals_by_like q Case inner l = refl
lexicals_by_like q _ inner l = refl

mutual
  pub lexicals_at_like : {m : Change} → Quiet m → {c d : Datum} → LikeAt m c d → lexicals_at d ≡ map (renamed_declared m.number) (lexicals_at c)
  lexicals_at_like {m} q (in_node k ds es l) = rw (form_by m.eagerly k, lexicals_like q l) (lexicals_by_like q (form k) (lexicals_in ds) l)
  lexicals_at_like q (in_scope k ds es s o) = rw (scope_form k s) refl
  lexicals_at_like q (in_list ds es l) = lexicals_like q l
  lexicals_at_like q _ = refl

  pub lexicals_like : {m : Change} → Quiet m → {ds es : Data} → LikeIn m ds es → lexicals_in es ≡ map (renamed_declared m.number) (lexicals_in ds)
  lexicals_like q end = refl
  lexicals_like {m} q (next c d cs ds h l) = rw (lexicals_at_like q h, lexicals_like q l) (sym (map-append (renamed_declared m.number) (lexicals_at c) (lexicals_in cs)))

-- the names of a script or a body

tops_by_like : {m : Change} {ds es : Data} → Quiet m → (f : Form) (inner : List ℕ) → LikeIn m ds es → tops_by f es (map m.number inner) ≡ map (renamed_declared m.number) (tops_by f ds inner)
tops_by_like {m} {ds} q LexicalStatement inner l = rw (lexical_kind_like l, declarators_like q l) (kinds_map m.number (lexical_kind ds) (declarators ds))
tops_by_like {m} {ds} q FunctionStatement inner l = rw (bound_like l) (kinds_map m.number Var (bound ds))
tops_by_like {m} q _ inner l = kinds_map m.number Var inner

pub tops_at_like : {m : Change} {c d : Datum} → Quiet m → LikeAt m c d → tops_at d ≡ map (renamed_declared m.number) (tops_at c)
tops_at_like {m} q (in_node k ds es l) = rw (form_by m.eagerly k, vars_like q l, vars_by_like q (form k) (vars_in ds) l) (tops_by_like q (form k) (vars_by (form k) ds (vars_in ds)) l)
tops_at_like q (in_scope k ds es s o) = rw (scope_form k s, scope_vars ds (q.before k ds es o), scope_vars es (q.after k ds es o)) refl
tops_at_like q _ = refl

tops_among_like : {m : Change} {ds es : Data} → Quiet m → LikeIn m ds es → tops_among es ≡ map (renamed_declared m.number) (tops_among ds)
tops_among_like q end = refl
tops_among_like {m} q (next c d cs ds h l) = rw (tops_at_like q h, tops_among_like q l) (sym (map-append (renamed_declared m.number) (tops_at c) (tops_among cs)))

pub tops_like : {m : Change} {ds es : Data} → Quiet m → LikeIn m ds es → tops_in es ≡ map (renamed_declared m.number) (tops_in ds)
tops_like q end = refl
tops_like q (next _ _ cs ds (in_list xs ys i) l) = tops_among_like q i
tops_like q (next _ _ cs ds _ l) = tops_like q l

-- entries

any_same : (r : ℕ → ℕ) → IsInjective r → (a : Declared) (xs : List Declared) → list_any (same (renamed_declared r a)) (map (renamed_declared r) xs) ≡ list_any (same a) xs
any_same r i a [] = refl
any_same r i a (b ∷ xs) = rw (i a.name b.name, any_same r i a xs) refl

once_step : (r : ℕ → ℕ) (b : Bool) (a : Declared) (xs ys : List Declared) → (if b then map (renamed_declared r) xs else renamed_declared r a ∷ map (renamed_declared r) ys) ≡ map (renamed_declared r) (if b then xs else a ∷ ys)
once_step r true a xs ys = refl
once_step r false a xs ys = refl

once_renamed : (r : ℕ → ℕ) → IsInjective r → (before xs : List Declared) → once (map (renamed_declared r) before) (map (renamed_declared r) xs) ≡ map (renamed_declared r) (once before xs)
once_renamed r i before [] = refl
once_renamed r i before (a ∷ xs) = rw (any_same r i a before, once_renamed r i before xs, once_renamed r i (a ∷ before) xs) (once_step r (list_any (same a) before) a (once before xs) (once (a ∷ before) xs))

declared_renamed : (r : ℕ → ℕ) (xs : List Declared) → declared_entries (map (renamed_declared r) xs) ≡ renamed_in r (declared_entries xs)
declared_renamed r [] = refl
declared_renamed r (a ∷ xs) = rw (declared_renamed r xs) refl

bound_entries_renamed : (r : ℕ → ℕ) (ns : List ℕ) → bound_entries (map r ns) ≡ renamed_in r (bound_entries ns)
bound_entries_renamed r [] = refl
bound_entries_renamed r (n ∷ ns) = rw (bound_entries_renamed r ns) refl

rest_entries_renamed : (r : ℕ → ℕ) (ns : List ℕ) → rest_entries (map r ns) ≡ renamed_in r (rest_entries ns)
rest_entries_renamed r [] = refl
rest_entries_renamed r (n ∷ ns) = rw (rest_entries_renamed r ns) refl

place_renamed : (r : ℕ → ℕ) (i : ℕ) (ns : List ℕ) (others : Data) → place_entry i (slice_get (map r ns) 0) (renamed_in r others) ≡ renamed_in r (place_entry i (slice_get ns 0) others)
place_renamed r i [] others = refl
place_renamed r i (n ∷ ns) others = refl

items_like : {m : Change} {ds es : Data} → Quiet m → (i : ℕ) (others : Data) → LikeIn m ds es → item_entries i es (renamed_in m.number others) ≡ renamed_in m.number (item_entries i ds others)
items_like q i others end = refl
items_like {m} q i others (next c d cs ds h l) = rw (below_at_like q h, items_like q (i + 1) others l) (place_renamed m.number i (bound_below_at c) (item_entries (i + 1) cs others))

list_entries_like : {m : Change} {ds es : Data} → Quiet m → LikeIn m ds es → list_entries es ≡ renamed_in m.number (list_entries ds)
list_entries_like q end = refl
list_entries_like {m} q (next _ _ cs ds (in_list xs ys i) l) = rw (bound_like l, rest_entries_renamed m.number (bound cs)) (items_like q 0 (rest_entries (bound cs)) i)
list_entries_like q (next _ _ cs ds _ l) = refl

by_like : {m : Change} {ds es : Data} {c d : Datum} → Quiet m → (f : Form) → LikeIn m ds es → LikeAt m c d → parameter_entries_by f es d ≡ renamed_in m.number (parameter_entries_by f ds c)
by_like q Parameters l h = list_entries_like q l
by_like {m} {c = c} q _ l h = rw (below_at_like q h) (place_renamed m.number 0 (bound_below_at c) none)

parameters_at_like : {m : Change} {c d : Datum} → Quiet m → LikeAt m c d → parameter_entries_at d ≡ renamed_in m.number (parameter_entries_at c)
parameters_at_like {m} q (in_node k ds es l) = rw (form_by m.eagerly k) (by_like q (form k) l (in_node k ds es l))
parameters_at_like q (in_scope k ds es s o) = rw (scope_form k s, scope_form k s, scope_bound ds (q.before k ds es o), scope_bound es (q.after k ds es o)) refl
parameters_at_like q _ = refl

parameters_like : {m : Change} {ds es : Data} → Quiet m → LikeIn m ds es → parameter_entries es ≡ renamed_in m.number (parameter_entries ds)
parameters_like q end = refl
parameters_like q (next c d cs ds h l) = parameters_at_like q h

-- the entries of a scope before these values
pub entries_like : {m : Change} {ds es : Data} → Quiet m → IsInjective m.number → (s : Shape) (ns : List ℕ) → LikeIn m ds es → entries s (map m.number ns) es ≡ renamed_in m.number (entries s ns ds)
entries_like {m} {ds} q i shape.Statements ns l = rw (tops_like q l, once_renamed m.number i [] (tops_in ds)) (declared_renamed m.number (once [] (tops_in ds)))
entries_like {m} {ds} q i shape.Lexical ns l = rw (lexicals_like q l, once_renamed m.number i [] (lexicals_in ds)) (declared_renamed m.number (once [] (lexicals_in ds)))
entries_like q i shape.Parameters ns l = parameters_like q l
entries_like {m} q i shape.BoundName ns l = bound_entries_renamed m.number ns
entries_like q i shape.Nothing ns l = refl

-- whether parameters are simple

is_bare_like : {m : Change} {c d : Datum} → LikeAt m c d → is_bare d ≡ is_bare c
is_bare_like {m} (in_node k ds es l) = rw (form_by m.eagerly k) refl
is_bare_like _ = refl

all_bare_like : {m : Change} {ds es : Data} → LikeIn m ds es → all_bare es ≡ all_bare ds
all_bare_like end = refl
all_bare_like (next c d cs ds h l) = rw (is_bare_like h, all_bare_like l) refl

pub is_absent_like : {m : Change} {c d : Datum} → LikeAt m c d → is_absent d ≡ is_absent c
is_absent_like an_absence = refl
is_absent_like _ = refl

no_rest_like : {m : Change} {ds es : Data} → LikeIn m ds es → no_rest es ≡ no_rest ds
no_rest_like end = refl
no_rest_like (next c d cs ds h l) = is_absent_like h

list_simple_like : {m : Change} {ds es : Data} → LikeIn m ds es → list_simple es ≡ list_simple ds
list_simple_like end = refl
list_simple_like (next _ _ cs ds (in_list xs ys i) l) = rw (all_bare_like i, no_rest_like l) refl
list_simple_like (next _ _ cs ds _ l) = refl

simple_by_like : {m : Change} {ds es : Data} (f : Form) → LikeIn m ds es → simple_by f es ≡ simple_by f ds
simple_by_like Parameters l = list_simple_like l
simple_by_like _ l = refl

is_simple_at_like : {m : Change} {c d : Datum} → LikeAt m c d → is_simple_at d ≡ is_simple_at c
is_simple_at_like {m} (in_node k ds es l) = rw (form_by m.eagerly k) (simple_by_like (form k) l)
is_simple_at_like (in_scope k ds es s o) = rw (scope_form k s) refl
is_simple_at_like _ = refl

pub is_simple_like : {m : Change} {ds es : Data} → LikeIn m ds es → is_simple es ≡ is_simple ds
is_simple_like end = refl
is_simple_like (next c d cs ds h l) = is_simple_at_like h
