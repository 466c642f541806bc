-- Scopes in which only entries stand, as those of a well-typed tree.
use Rattle.std.proofs.Common.{ℕ, List, [], ◌∷◌, ◌+◌, ◌≡◌, Bool, true, false, refl, ap, sym, ◌∙◌, ◌&&◌, ◌||◌, not, if◌then◌else◌, Option, None, Some}
use Rattle.std.specs.List.{list_any}
use Rattle.bast_schema.specs.declared.kind.Kind.{Kind}
use Rattle.bast_schema.specs.declared.kind.Kind.TheVariants.{Null, AssertedScriptGlobalScope, AssertedVarScope, AssertedBlockScope, AssertedParameterScope, AssertedBoundNamesScope, AssertedDeclaredName, AssertedPositionalParameterName, AssertedRestParameterName, AssertedBoundName}
use Rattle.bast_schema.specs.declared.kind.Union.{Union}
use Rattle.bast_schema.specs.declared.kind.Union.TheVariants.{ParameterName, One}
use Rattle.bast_schema.specs.declared.kind.FieldType.{FieldType}
use Rattle.bast_schema.specs.declared.kind.FieldType.TheVariants as field
use Rattle.bast_schema.specs.Fields.{fields}
use Rattle.bast_schema.specs.Unions.{allowed, kinds_in}
use Rattle.bast_schema.specs.Kinds.{same_kind}
use Rattle.bast_schema.proofs.EachKind.{same_kind_true}
use Rattle.bast_schema.specs.Tree.{Tree, branch, Datum, child, listed, Data, none, more, typed, fits, fit, items_fit, item_type, is_none, kind_of}
use Rattle.bast_schema.proofs.Both.{and_first, and_second, both}
use Rattle.scope_facts.specs.declared.names.Declared.{Declared}
use Rattle.scope_facts.specs.declared.roles.Form.{Form}
use Rattle.scope_facts.specs.declared.roles.Form.TheVariants as form
use Rattle.scope_facts.specs.declared.roles.Shape.{Shape}
use Rattle.scope_facts.specs.declared.roles.Shape.TheVariants as shape
use Rattle.scope_facts.specs.Roles as roles
use Rattle.scope_facts.specs.Roles.{part, is_scope_part, shape_of}
use Rattle.scope_facts.specs.Uses.{is_scope, crossed_in, evals_in}
use Rattle.scope_facts.specs.Names.{bound, once, tops_in, lexicals_in, lexicals_at, vars_in, vars_at}
use Rattle.scope_facts.specs.Entries.{declared_entries, bound_entries, rest_entries, place_entry, parameter_name, item_entries, list_entries, parameter_entries_by, parameter_entries_at, parameter_entries, entries, flags_by, is_simple}
use Rattle.scope_facts.specs.Filled.{filled_scope, filled, filled_at, filled_in, filled_among}
use Rattle.scope_facts.specs.Flagged.{with_flag, entries_by, flagged_scope, flagged, flagged_at, flagged_in, flagged_among}

-- whether no node is among the values
abbrev pub are_leaves : Data → Bool
are_leaves none = true
are_leaves (more (child t) ds) = false
are_leaves (more (listed es) ds) = false
are_leaves (more d ds) = are_leaves ds

abbrev pub is_entry_kind : Kind → Bool
is_entry_kind AssertedDeclaredName = true
is_entry_kind AssertedPositionalParameterName = true
is_entry_kind AssertedRestParameterName = true
is_entry_kind AssertedBoundName = true
is_entry_kind _ = false

abbrev pub is_entry_node : Datum → Bool
is_entry_node (child (branch k fs)) = is_entry_kind k && are_leaves fs
is_entry_node _ = false

abbrev pub are_entries : Data → Bool
are_entries none = true
are_entries (more d es) = is_entry_node d && are_entries es

abbrev pub only_entries_at : Datum → Bool
only_entries_at (child t) = false
only_entries_at (listed es) = are_entries es
only_entries_at _ = true

-- whether the values have no nodes but entries in lists
abbrev pub only_entries : Data → Bool
only_entries none = true
only_entries (more d ds) = only_entries_at d && only_entries ds

abbrev pub clean_scope : Datum → Bool
clean_scope (child (branch k ds)) = only_entries ds
clean_scope _ = true

-- whether all scopes below have nothing but entries, and none is the item of a list
abbrev mutual
  pub clean : Tree → Bool
  clean (branch k ds) = clean_in ds

  pub clean_at : Datum → Bool
  clean_at (child t) = clean t
  clean_at (listed ds) = clean_among ds
  clean_at _ = true

  pub clean_in : Data → Bool
  clean_in none = true
  clean_in (more d ds) = (if is_scope d then clean_scope d else clean_at d) && clean_in ds

  pub clean_among : Data → Bool
  clean_among none = true
  clean_among (more d ds) = not (is_scope d) && (clean_at d && clean_among ds)

-- entries declare nothing themselves

leaves_vars : (fs : Data) → are_leaves fs ≡ true → vars_in fs ≡ []
leaves_vars none h = refl
leaves_vars (more (child t) fs) h = cc
leaves_vars (more (listed es) fs) h = cc
leaves_vars (more _ fs) h = leaves_vars fs h

abbrev no_names : Datum → Type 0
no_names d = (vars_at d ≡ []) × (lexicals_at d ≡ [])

abbrev no_names_in : Data → Type 0
no_names_in ds = (vars_in ds ≡ []) × (lexicals_in ds ≡ [])

entry_quiet : (d : Datum) → is_entry_node d ≡ true → no_names d
entry_quiet (child (branch AssertedDeclaredName fs)) h = (leaves_vars fs h, refl)
entry_quiet (child (branch AssertedPositionalParameterName fs)) h = (leaves_vars fs h, refl)
entry_quiet (child (branch AssertedRestParameterName fs)) h = (leaves_vars fs h, refl)
entry_quiet (child (branch AssertedBoundName fs)) h = (leaves_vars fs h, refl)
entry_quiet (child (branch _ fs)) h = cc
entry_quiet _ h = cc

more_quiet : (d : Datum) (ds : Data) → no_names d → no_names_in ds → no_names_in (more d ds)
more_quiet d ds e f = (rw (e.0, f.0) refl, rw (e.1, f.1) refl)

entries_quiet : (es : Data) → are_entries es ≡ true → no_names_in es
entries_quiet none h = (refl, refl)
entries_quiet (more d es) h = more_quiet d es (entry_quiet d (and_first (is_entry_node d) (are_entries es) h)) (entries_quiet es (and_second (is_entry_node d) (are_entries es) h))

scope_quiet : (ds : Data) → only_entries ds ≡ true → no_names_in ds
scope_quiet none h = (refl, refl)
scope_quiet (more (child t) ds) h = cc
scope_quiet (more (listed es) ds) h = more_quiet (listed es) ds (entries_quiet es (and_first (are_entries es) (only_entries ds) h)) (scope_quiet ds (and_second (are_entries es) (only_entries ds) h))
scope_quiet (more _ ds) h = scope_quiet ds h

pub scope_vars : (ds : Data) → only_entries ds ≡ true → vars_in ds ≡ []
scope_vars ds h = (scope_quiet ds h).0

pub scope_lexicals : (ds : Data) → only_entries ds ≡ true → lexicals_in ds ≡ []
scope_lexicals ds h = (scope_quiet ds h).1

pub scope_bound : (ds : Data) → only_entries ds ≡ true → bound ds ≡ []
scope_bound none h = refl
scope_bound (more (child t) ds) h = cc
scope_bound (more (listed es) ds) h = scope_bound ds (and_second (are_entries es) (only_entries ds) h)
scope_bound (more _ ds) h = scope_bound ds h

-- the scopes of a well-typed tree

abbrev is_leaf : FieldType → Bool
is_leaf field.Bool = true
is_leaf field.Index = true
is_leaf field.Whole = true
is_leaf field.Text = true
is_leaf field.Name = true
is_leaf field.Label = true
is_leaf (field.Choice e) = true
is_leaf _ = false

abbrev all_leaves : List FieldType → Bool
all_leaves [] = true
all_leaves (t ∷ ts) = is_leaf t && all_leaves ts

one_leaf : (t : FieldType) (d : Datum) (ds : Data) → is_leaf t ≡ true → fits t d ≡ true → are_leaves ds ≡ true → are_leaves (more d ds) ≡ true
one_leaf (field.Node v) (child u) ds l f h = cc
one_leaf (field.Optional v) (child u) ds l f h = cc
one_leaf (field.Lazy v) (child u) ds l f h = cc
one_leaf _ (child u) ds l f h = cc
one_leaf (field.List u holes filled) (listed es) ds l f h = cc
one_leaf _ (listed es) ds l f h = cc
one_leaf t _ ds l f h = h

leaves_fit : (ts : List FieldType) (ds : Data) → all_leaves ts ≡ true → fit ts ds ≡ true → are_leaves ds ≡ true
leaves_fit [] none l f = refl
leaves_fit (t ∷ ts) none l f = cc
leaves_fit [] (more d ds) l f = cc
leaves_fit (t ∷ ts) (more d ds) l f = one_leaf t d ds (and_first (is_leaf t) (all_leaves ts) l) (and_first (fits t d) (fit ts ds) f)
    (leaves_fit ts ds (and_second (is_leaf t) (all_leaves ts) l) (and_second (fits t d) (fit ts ds) f))

entry_leaves : (k : Kind) → is_entry_kind k ≡ true → all_leaves (fields k) ≡ true
entry_leaves AssertedDeclaredName h = refl
entry_leaves AssertedPositionalParameterName h = refl
entry_leaves AssertedRestParameterName h = refl
entry_leaves AssertedBoundName h = refl
entry_leaves _ h = cc

not_here : (q : Kind → Bool) (j k : Kind) (b : Bool) → same_kind j k ≡ b → q j ≡ false → (b ≡ false → q k ≡ false) → q k ≡ false
not_here q j k true e h g = ap q (sym (same_kind_true j k e)) ∙ h
not_here q j k false e h g = g refl

or_first : (a b : Bool) → (a || b) ≡ false → a ≡ false
or_first true b e = cc
or_first false b e = refl

or_second : (a b : Bool) → (a || b) ≡ false → b ≡ false
or_second true b e = cc
or_second false b e = e

without : (a b : Bool) → (a || b) ≡ true → a ≡ false → b ≡ true
without true b e f = cc
without false b e f = e

-- what is true of no kind of a list is not true of a kind in it
pub none_of : (q : Kind → Bool) (js : List Kind) (k : Kind) → list_any (λ j. same_kind j k) js ≡ true → list_any q js ≡ false → q k ≡ false
none_of q [] k h g = cc
none_of q (j ∷ js) k h g = not_here q j k (same_kind j k) refl (or_first (q j) (list_any q js) g) (λ e. none_of q js k (without (same_kind j k) (list_any (λ i. same_kind i k) js) h e) (or_second (q j) (list_any q js) g))

pub not_true : (b : Bool) → not b ≡ true → b ≡ false
not_true true h = cc
not_true false h = refl

pub not_false : (b : Bool) → not b ≡ false → b ≡ true
not_false true h = refl
not_false false h = cc

abbrev is_entry_union : Union → Bool
is_entry_union u = not (list_any (λ k. not (is_entry_kind k)) (kinds_in u))

entry_allowed : (u : Union) (k : Kind) → is_entry_union u ≡ true → allowed u k ≡ true → is_entry_kind k ≡ true
entry_allowed u k e a = not_false (is_entry_kind k) (none_of (λ j. not (is_entry_kind j)) (kinds_in u) k a (not_true (list_any (λ j. not (is_entry_kind j)) (kinds_in u)) e))

entry_fits : (u : Union) (d : Datum) → is_entry_union u ≡ true → fits (field.Node u) d ≡ true → is_entry_node d ≡ true
entry_fits u (child (branch k fs)) e f =
    let i : is_entry_kind k ≡ true = entry_allowed u k e (and_first (allowed u k) (fit (fields k) fs) f)
    in both (is_entry_kind k) (are_leaves fs) i (leaves_fit (fields k) fs (entry_leaves k i) (and_second (allowed u k) (fit (fields k) fs) f))
entry_fits u _ e f = cc

entries_fit : (u : Union) (es : Data) → is_entry_union u ≡ true → items_fit u false es ≡ true → are_entries es ≡ true
entries_fit u none e f = refl
entries_fit u (more d es) e f = both (is_entry_node d) (are_entries es) (entry_fits u d e (and_first (fits (field.Node u) d) (items_fit u false es) f)) (entries_fit u es e (and_second (fits (field.Node u) d) (items_fit u false es) f))

abbrev is_scope_type : FieldType → Bool
is_scope_type (field.List u holes filled) = not holes && is_entry_union u
is_scope_type t = is_leaf t

abbrev all_scope_types : List FieldType → Bool
all_scope_types [] = true
all_scope_types (t ∷ ts) = is_scope_type t && all_scope_types ts

scope_types : (k : Kind) → is_scope_part (part k) ≡ true → all_scope_types (fields k) ≡ true
scope_types AssertedScriptGlobalScope s = refl
scope_types AssertedVarScope s = refl
scope_types AssertedBlockScope s = refl
scope_types AssertedParameterScope s = refl
scope_types AssertedBoundNamesScope s = refl
scope_types _ s = cc

scope_field_fits : (t : FieldType) (d : Datum) → is_scope_type t ≡ true → fits t d ≡ true → only_entries_at d ≡ true
scope_field_fits (field.List u false filled) (listed es) s f = entries_fit u es s (and_second (not filled || not (is_none es)) (items_fit u false es) f)
scope_field_fits (field.List u true filled) (listed es) s f = cc
scope_field_fits _ (listed es) s f = cc
scope_field_fits (field.Node v) (child u) s f = cc
scope_field_fits (field.Optional v) (child u) s f = cc
scope_field_fits (field.Lazy v) (child u) s f = cc
scope_field_fits _ (child u) s f = cc
scope_field_fits t _ s f = refl

scope_fits : (ts : List FieldType) (ds : Data) → all_scope_types ts ≡ true → fit ts ds ≡ true → only_entries ds ≡ true
scope_fits [] none s f = refl
scope_fits (t ∷ ts) none s f = cc
scope_fits [] (more d ds) s f = cc
scope_fits (t ∷ ts) (more d ds) s f = both (only_entries_at d) (only_entries ds)
    (scope_field_fits t d (and_first (is_scope_type t) (all_scope_types ts) s) (and_first (fits t d) (fit ts ds) f))
    (scope_fits ts ds (and_second (is_scope_type t) (all_scope_types ts) s) (and_second (fits t d) (fit ts ds) f))

pub child_typed : (t : FieldType) (u : Tree) → fits t (child u) ≡ true → typed u ≡ true
child_typed (field.Node v) u f = and_second (allowed v (kind_of u)) (typed u) f
child_typed (field.Optional v) u f = and_second (allowed v (kind_of u)) (typed u) f
child_typed (field.Lazy v) u f = and_second (allowed v (kind_of u)) (typed u) f
child_typed _ u f = cc

-- no list of a well-typed tree has a scope as an item

abbrev pub takes_scope : Union → Bool
takes_scope u = list_any (λ k. is_scope_part (part k)) (kinds_in u)

abbrev pub is_plain_list : FieldType → Bool
is_plain_list (field.List u holes filled) = not (takes_scope u)
is_plain_list _ = true

abbrev pub all_plain_lists : List FieldType → Bool
all_plain_lists [] = true
all_plain_lists (t ∷ ts) = is_plain_list t && all_plain_lists ts

pub plain_lists : (k : Kind) → all_plain_lists (fields k) ≡ true
plain_lists Null = refl
plain_lists _ = refl

item_allowed : (u : Union) (holes : Bool) (t : Tree) → fits (item_type u holes) (child t) ≡ true → allowed u (kind_of t) ≡ true
item_allowed u true t f = and_first (allowed u (kind_of t)) (typed t) f
item_allowed u false t f = and_first (allowed u (kind_of t)) (typed t) f

item_no_scope : (u : Union) (holes : Bool) (d : Datum) → not (takes_scope u) ≡ true → fits (item_type u holes) d ≡ true → not (is_scope d) ≡ true
item_no_scope u holes (child (branch k ds)) p f = rw (none_of (λ j. is_scope_part (part j)) (kinds_in u) k (item_allowed u holes (branch k ds) f) (not_true (takes_scope u) p)) refl
item_no_scope u holes _ p f = refl

-- an item is no list
pub item_plain : (u : Union) (holes : Bool) → is_plain_list (item_type u holes) ≡ true
item_plain u true = refl
item_plain u false = refl

field_clean : (t : FieldType) (d : Datum) (b : Bool) → is_scope d ≡ b → fits t d ≡ true → clean_at d ≡ true → (if b then clean_scope d else clean_at d) ≡ true
field_clean t (child (branch k ds)) true s f h = scope_fits (fields k) ds (scope_types k s) (child_typed t (branch k ds) f)
field_clean t _ true s f h = refl
field_clean t d false s f h = h

mutual
  pub typed_clean : (t : Tree) → typed t ≡ true → clean t ≡ true
  typed_clean (branch k ds) f = fit_clean ds (fields k) (plain_lists k) f

  fits_clean : (d : Datum) (t : FieldType) → is_plain_list t ≡ true → fits t d ≡ true → clean_at d ≡ true
  fits_clean (child u) t p f = typed_clean u (child_typed t u f)
  fits_clean (listed ds) (field.List u holes filled) p f = items_clean ds u holes p (and_second (not filled || not (is_none ds)) (items_fit u holes ds) f)
  fits_clean (listed ds) _ p f = cc
  fits_clean _ t p f = refl

  pub fit_clean : (ds : Data) (ts : List FieldType) → all_plain_lists ts ≡ true → fit ts ds ≡ true → clean_in ds ≡ true
  fit_clean none ts p f = refl
  fit_clean (more d ds) [] p f = cc
  fit_clean (more d ds) (t ∷ ts) p f = both (if is_scope d then clean_scope d else clean_at d) (clean_in ds)
      (field_clean t d (is_scope d) refl (and_first (fits t d) (fit ts ds) f) (fits_clean d t (and_first (is_plain_list t) (all_plain_lists ts) p) (and_first (fits t d) (fit ts ds) f)))
      (fit_clean ds ts (and_second (is_plain_list t) (all_plain_lists ts) p) (and_second (fits t d) (fit ts ds) f))

  items_clean : (ds : Data) (u : Union) (holes : Bool) → not (takes_scope u) ≡ true → items_fit u holes ds ≡ true → clean_among ds ≡ true
  items_clean none u holes p f = refl
  items_clean (more d ds) u holes p f =
      let g : fits (item_type u holes) d ≡ true = and_first (fits (item_type u holes) d) (items_fit u holes ds) f
      in both (not (is_scope d)) (clean_at d && clean_among ds) (item_no_scope u holes d p g)
      (both (clean_at d) (clean_among ds) (fits_clean d (item_type u holes) (item_plain u holes) g) (items_clean ds u holes p (and_second (fits (item_type u holes) d) (items_fit u holes ds) f)))
