-- What the rules read of nodes that are alike but for the numbers of names, the laziness of kinds and the entries of scopes.
use Rattle.std.proofs.Common.{ℕ, List, [], ◌∷◌, ◌≡◌, Bool, true, false, refl, ap, sym, ◌∙◌, if◌then◌else◌, map, Option, None, Some}
use Rattle.std.proofs.lemmas.List.{map-append}
use Rattle.std.specs.Option.{option_map}
use Rattle.bast_schema.specs.declared.kind.Kind.{Kind}
use Rattle.bast_schema.specs.declared.kind.Kind.TheVariants.{LazyFunctionDeclaration, LazyMethod, LazyGetter, LazySetter, LazyFunctionExpression, AssertedScriptGlobalScope, AssertedVarScope, AssertedBlockScope, AssertedParameterScope, AssertedBoundNamesScope}
use Rattle.bast_schema.specs.Tree.{Datum, Data, none, more}
use Rattle.scope_facts.specs.declared.names.Declared.{Declared}
use Rattle.scope_facts.specs.declared.roles.Form.{Form}
use Rattle.scope_facts.specs.declared.roles.Form.TheVariants.{Parameters}
use Rattle.scope_facts.specs.Roles.{part, form, is_scope_part}
use Rattle.scope_facts.specs.Uses.{first_name}
use Rattle.scope_facts.specs.Names.{bound, bound_at, bound_below, vars_in, lexicals_in, tops_in}
use Rattle.scope_facts.proofs.Clean.{scope_bound, scope_vars, scope_lexicals}
use Rattle.scope_facts.proofs.Like.{Change, kind_by, LikeAt, in_scope, in_node, in_list, a_name, an_absence, a_choice, LikeIn, end, next}
use Rattle.scope_facts.proofs.LikeNames.{Quiet, renamed_declared, form_by, scope_form, if_map, first_name_like, bound_at_like, bound_like, below_at_like, below_like, vars_like, lexicals_like, tops_like, is_absent_like, is_simple_like}
use Rattle.early_errors.specs.declared.kinds.Role.{Role}
use Rattle.early_errors.specs.declared.kinds.Role.TheVariants as roles
use Rattle.early_errors.specs.declared.around.Flags.{Flags}
use Rattle.early_errors.specs.declared.around.Label.{Label}
use Rattle.early_errors.specs.Kinds.{role, places}
use Rattle.early_errors.specs.Strict.{Texts, text_of, strict_at, strict_items, strict_list, own_strict}
use Rattle.early_errors.specs.Around.{Around, loop_at, loop_in, is_const, flags_in, with_label, is_labelled, labels_in, parts_around}
use Rattle.early_errors.specs.Declares.{behind, is_var, lexical_of, var_of, lexical_names, var_names, list_names, parameters_by, parameters_at, parameters_first, parameter_names, has_simple, caught, values_at, values_first, declared_names, block_names, starts_absent, bare_of, bare_name, use_name, used_name, used_first, is_delete, deleted_of, deleted_name}
use Rattle.early_errors.specs.Laws.{KeepsTexts}
use Rattle.early_errors.specs.Reading.{Reading, reading_by}

-- what stands around, with other numbers for its labels
abbrev pub renamed_label : (ℕ → ℕ) → Label → Label
renamed_label r l = record { name = r l.name; looped = l.looped }

abbrev pub renamed_around : (ℕ → ℕ) → Around → Around
renamed_around r a = record { flags = a.flags; labels = map (renamed_label r) a.labels }

-- a reading with other numbers for its names
abbrev pub renamed_reading : (ℕ → ℕ) → Reading → Reading
renamed_reading r x = record {
  role = x.role;
  flags = x.flags;
  labels = map (renamed_label r) x.labels;
  name = option_map r x.name;
  text = x.text;
  lexicals = map r x.lexicals;
  vars = map r x.vars;
  parameters = map r x.parameters;
  simple = x.simple;
  caught = map r x.caught;
  block = map r x.block;
  bare = option_map r x.bare;
  deleted = option_map r x.deleted;
}

pub role_by : (b : Bool) (k : Kind) → role (kind_by b k) ≡ role k
role_by true LazyFunctionDeclaration = refl
role_by true LazyMethod = refl
role_by true LazyGetter = refl
role_by true LazySetter = refl
role_by true LazyFunctionExpression = refl
role_by true _ = refl
role_by false k = refl

pub places_by : (b : Bool) (k : Kind) → places (kind_by b k) ≡ places k
places_by true LazyFunctionDeclaration = refl
places_by true LazyMethod = refl
places_by true LazyGetter = refl
places_by true LazySetter = refl
places_by true LazyFunctionExpression = refl
places_by true _ = refl
places_by false k = refl

-- a scope is plain for the rules
pub scope_role : (k : Kind) → is_scope_part (part k) ≡ true → role k ≡ roles.Plain
scope_role AssertedScriptGlobalScope s = refl
scope_role AssertedVarScope s = refl
scope_role AssertedBlockScope s = refl
scope_role AssertedParameterScope s = refl
scope_role AssertedBoundNamesScope s = refl
scope_role _ s = cc

pub if_option : (r : ℕ → ℕ) (b : Bool) (o q : Option ℕ) → (if b then option_map r o else option_map r q) ≡ option_map r (if b then o else q)
if_option r true o q = refl
if_option r false o q = refl

-- what stands around the parts of a node

text_kept : {m : Change} {ds es : Data} (texts strings : Texts) → KeepsTexts m.number m.holds texts strings → LikeIn m ds es → text_of strings (first_name es) ≡ text_of texts (first_name ds)
text_kept texts strings k end = refl
text_kept texts strings k (next _ _ cs ds (a_name n h) l) = k n h
text_kept texts strings k (next _ _ cs ds _ l) = text_kept texts strings k l

mutual
  loop_at_like : {m : Change} {c d : Datum} → LikeAt m c d → loop_at d ≡ loop_at c
  loop_at_like {m} (in_node k ds es l) = rw (role_by m.eagerly k, loops_like l) refl
  loop_at_like (in_scope k ds es s o) = rw (scope_role k s) refl
  loop_at_like _ = refl

  loops_like : {m : Change} {ds es : Data} → LikeIn m ds es → loop_in es ≡ loop_in ds
  loops_like end = refl
  loops_like (next c d cs ds h l) = rw (loop_at_like h, loops_like l) refl

strict_at_like : {m : Change} {c d : Datum} (texts strings : Texts) → KeepsTexts m.number m.holds texts strings → LikeAt m c d → strict_at strings d ≡ strict_at texts c
strict_at_like {m} texts strings k (in_node j ds es l) = rw (role_by m.eagerly j, text_kept texts strings k l) refl
strict_at_like texts strings k (in_scope j ds es s o) = rw (scope_role j s) refl
strict_at_like texts strings k _ = refl

strict_items_like : {m : Change} {ds es : Data} (texts strings : Texts) → KeepsTexts m.number m.holds texts strings → LikeIn m ds es → strict_items strings es ≡ strict_items texts ds
strict_items_like texts strings k end = refl
strict_items_like texts strings k (next c d cs ds h l) = rw (strict_at_like texts strings k h, strict_items_like texts strings k l) refl

strict_list_like : {m : Change} {c d : Datum} (texts strings : Texts) → KeepsTexts m.number m.holds texts strings → LikeAt m c d → strict_list strings d ≡ strict_list texts c
strict_list_like texts strings k (in_list ds es l) = strict_items_like texts strings k l
strict_list_like texts strings k _ = refl

own_strict_like : {m : Change} {ds es : Data} (texts strings : Texts) → KeepsTexts m.number m.holds texts strings → LikeIn m ds es → own_strict strings es ≡ own_strict texts ds
own_strict_like texts strings k end = refl
own_strict_like texts strings k (next c d cs ds h l) = rw (strict_list_like texts strings k h, own_strict_like texts strings k l) refl

is_const_like : {m : Change} {ds es : Data} → LikeIn m ds es → is_const es ≡ is_const ds
is_const_like end = refl
is_const_like (next _ _ cs ds (a_choice n) l) = refl
is_const_like (next _ _ cs ds _ l) = refl

flags_like : {m : Change} {ds es : Data} (texts strings : Texts) → KeepsTexts m.number m.holds texts strings → (ro : Role) (f : Flags) → LikeIn m ds es → flags_in strings ro es f ≡ flags_in texts ro ds f
flags_like texts strings k roles.Script f l = rw (own_strict_like texts strings k l) refl
flags_like texts strings k roles.Function f l = rw (own_strict_like texts strings k l) refl
flags_like texts strings k roles.Method f l = rw (own_strict_like texts strings k l) refl
flags_like texts strings k roles.Lexical f l = rw (is_const_like l) refl
flags_like texts strings k _ f l = refl

labels_renamed : (r : ℕ → ℕ) (l : Bool) (o : Option ℕ) (b : Bool) (ls : List Label) → (if l then with_label (option_map r o) b (map (renamed_label r) ls) else map (renamed_label r) ls) ≡ map (renamed_label r) (if l then with_label o b ls else ls)
labels_renamed r true (Some n) b ls = sym (map-append (renamed_label r) ls (record { name = n; looped = b } ∷ []))
labels_renamed r true None b ls = refl
labels_renamed r false o b ls = refl

pub parts_like : {m : Change} {ds es : Data} (texts strings : Texts) → KeepsTexts m.number m.holds texts strings → (ro : Role) (a : Around) → LikeIn m ds es
    → parts_around strings ro es (renamed_around m.number a) ≡ renamed_around m.number (parts_around texts ro ds a)
parts_like {m} {ds} texts strings k ro a l = rw (flags_like texts strings k ro a.flags l, first_name_like l, loops_like l, labels_renamed m.number (is_labelled ro) (first_name ds) (loop_in ds) a.labels) refl

-- the names that a node declares for the rules

behind_like : {m : Change} {ds es : Data} → LikeIn m ds es → LikeIn m (behind ds) (behind es)
behind_like end = end
behind_like (next c d cs ds h l) = l

lexical_of_renamed : (r : ℕ → ℕ) (xs : List Declared) → lexical_of (map (renamed_declared r) xs) ≡ map r (lexical_of xs)
lexical_of_renamed r [] = refl
lexical_of_renamed r (a ∷ xs) = rw (lexical_of_renamed r xs) (if_map r (is_var a.kind) (lexical_of xs) (a.name ∷ lexical_of xs))

var_of_renamed : (r : ℕ → ℕ) (xs : List Declared) → var_of (map (renamed_declared r) xs) ≡ map r (var_of xs)
var_of_renamed r [] = refl
var_of_renamed r (a ∷ xs) = rw (var_of_renamed r xs) (if_map r (is_var a.kind) (a.name ∷ var_of xs) (var_of xs))

lexical_names_like : {m : Change} {ds es : Data} → Quiet m → (ro : Role) → LikeIn m ds es → lexical_names ro es ≡ map m.number (lexical_names ro ds)
lexical_names_like {m} {ds} q roles.Script l = rw (tops_like q (behind_like l)) (lexical_of_renamed m.number (tops_in (behind ds)))
lexical_names_like {m} {ds} q roles.Contents l = rw (tops_like q (behind_like l)) (lexical_of_renamed m.number (tops_in (behind ds)))
lexical_names_like {m} {ds} q roles.Block l = rw (lexicals_like q l) (lexical_of_renamed m.number (lexicals_in ds))
lexical_names_like {m} {ds} q roles.For l = rw (lexicals_like q l) (lexical_of_renamed m.number (lexicals_in ds))
lexical_names_like q _ l = refl

var_names_like : {m : Change} {ds es : Data} → Quiet m → (ro : Role) → LikeIn m ds es → var_names ro es ≡ map m.number (var_names ro ds)
var_names_like {m} {ds} q roles.Script l = rw (tops_like q (behind_like l)) (var_of_renamed m.number (tops_in (behind ds)))
var_names_like {m} {ds} q roles.Contents l = rw (tops_like q (behind_like l)) (var_of_renamed m.number (tops_in (behind ds)))
var_names_like q roles.Block l = vars_like q l
var_names_like q roles.For l = vars_like q l
var_names_like q _ l = refl

-- parameters

list_names_like : {m : Change} {ds es : Data} → Quiet m → LikeIn m ds es → list_names es ≡ map m.number (list_names ds)
list_names_like q end = refl
list_names_like {m} q (next _ _ cs ds (in_list xs ys i) l) = rw (below_like q i, bound_like l) (sym (map-append m.number (bound_below xs) (bound cs)))
list_names_like q (next _ _ cs ds _ l) = refl

parameters_by_like : {m : Change} {ds es : Data} {c d : Datum} → Quiet m → (f : Form) → LikeIn m ds es → LikeAt m c d → parameters_by f es d ≡ map m.number (parameters_by f ds c)
parameters_by_like q Parameters l h = list_names_like q l
parameters_by_like q _ l h = below_at_like q h

parameters_at_like : {m : Change} {c d : Datum} → Quiet m → LikeAt m c d → parameters_at d ≡ map m.number (parameters_at c)
parameters_at_like {m} q (in_node k ds es l) = rw (form_by m.eagerly k) (parameters_by_like q (form k) l (in_node k ds es l))
parameters_at_like q (in_scope k ds es s o) = rw (scope_form k s, scope_form k s, scope_bound ds (q.before k ds es o), scope_bound es (q.after k ds es o)) refl
parameters_at_like q _ = refl

parameters_first_like : {m : Change} {ds es : Data} → Quiet m → LikeIn m ds es → parameters_first es ≡ map m.number (parameters_first ds)
parameters_first_like q end = refl
parameters_first_like q (next c d cs ds h l) = parameters_at_like q h

parameter_names_like : {m : Change} {ds es : Data} → Quiet m → (ro : Role) → LikeIn m ds es → parameter_names ro es ≡ map m.number (parameter_names ro ds)
parameter_names_like q roles.Contents l = parameters_first_like q (behind_like l)
parameter_names_like q roles.Arrow l = parameters_first_like q (behind_like l)
parameter_names_like q _ l = refl

has_simple_like : {m : Change} {ds es : Data} (ro : Role) → LikeIn m ds es → has_simple ro es ≡ has_simple ro ds
has_simple_like roles.Contents l = is_simple_like (behind_like l)
has_simple_like _ l = refl

-- catch clauses

caught_like : {m : Change} {ds es : Data} (ro : Role) → LikeIn m ds es → caught ro es ≡ map m.number (caught ro ds)
caught_like roles.Catch l = bound_like l
caught_like _ l = refl

declared_at_like : {m : Change} {c d : Datum} → Quiet m → LikeAt m c d → declared_names (values_at d) ≡ map m.number (declared_names (values_at c))
declared_at_like {m} q (in_node k ds es l) = rw (lexicals_like q l, lexical_of_renamed m.number (lexicals_in ds), vars_like q l) (sym (map-append m.number (lexical_of (lexicals_in ds)) (vars_in ds)))
declared_at_like q (in_scope k ds es s o) = rw (scope_lexicals ds (q.before k ds es o), scope_vars ds (q.before k ds es o), scope_lexicals es (q.after k ds es o), scope_vars es (q.after k ds es o)) refl
declared_at_like q _ = refl

declared_first_like : {m : Change} {ds es : Data} → Quiet m → LikeIn m ds es → declared_names (values_first es) ≡ map m.number (declared_names (values_first ds))
declared_first_like q end = refl
declared_first_like q (next c d cs ds h l) = declared_at_like q h

block_names_like : {m : Change} {ds es : Data} → Quiet m → (ro : Role) → LikeIn m ds es → block_names ro es ≡ map m.number (block_names ro ds)
block_names_like q roles.Catch l = declared_first_like q (behind_like (behind_like l))
block_names_like q _ l = refl

-- declarators without initializer

starts_absent_like : {m : Change} {ds es : Data} → LikeIn m ds es → starts_absent es ≡ starts_absent ds
starts_absent_like end = refl
starts_absent_like (next c d cs ds h l) = is_absent_like h

bare_of_like : {m : Change} {ds es : Data} → LikeIn m ds es → bare_of es ≡ option_map m.number (bare_of ds)
bare_of_like end = refl
bare_of_like {m} (next c d cs ds h l) = rw (starts_absent_like l, bound_at_like h) (if_option m.number (starts_absent cs) (bound_at c) None)

bare_name_like : {m : Change} {ds es : Data} (ro : Role) → LikeIn m ds es → bare_name ro es ≡ option_map m.number (bare_name ro ds)
bare_name_like roles.Declarator l = bare_of_like l
bare_name_like _ l = refl

-- deleted names

use_name_like : {m : Change} {ds es : Data} (ro : Role) → LikeIn m ds es → use_name ro es ≡ option_map m.number (use_name ro ds)
use_name_like roles.Use l = first_name_like l
use_name_like _ l = refl

used_name_like : {m : Change} {c d : Datum} → LikeAt m c d → used_name d ≡ option_map m.number (used_name c)
used_name_like {m} (in_node k ds es l) = rw (role_by m.eagerly k) (use_name_like (role k) l)
used_name_like (in_scope k ds es s o) = rw (scope_role k s) refl
used_name_like _ = refl

used_first_like : {m : Change} {ds es : Data} → LikeIn m ds es → used_first es ≡ option_map m.number (used_first ds)
used_first_like end = refl
used_first_like (next c d cs ds h l) = used_name_like h

is_delete_like : {m : Change} {c d : Datum} → LikeAt m c d → is_delete d ≡ is_delete c
is_delete_like (a_choice n) = refl
is_delete_like _ = refl

deleted_of_like : {m : Change} {ds es : Data} → LikeIn m ds es → deleted_of es ≡ option_map m.number (deleted_of ds)
deleted_of_like end = refl
deleted_of_like {m} (next c d cs ds h l) = rw (is_delete_like h, used_first_like l) (if_option m.number (is_delete c) (used_first cs) None)

deleted_name_like : {m : Change} {ds es : Data} (ro : Role) → LikeIn m ds es → deleted_name ro es ≡ option_map m.number (deleted_name ro ds)
deleted_name_like roles.Unary l = deleted_of_like l
deleted_name_like _ l = refl

pub reading_like : {m : Change} {ds es : Data} → Quiet m → (texts strings : Texts) → KeepsTexts m.number m.holds texts strings → (a : Around) (ro : Role) → LikeIn m ds es
    → reading_by strings (renamed_around m.number a) ro es ≡ renamed_reading m.number (reading_by texts a ro ds)
reading_like q texts strings k a ro l =
    rw (
      text_kept texts strings k l,
      first_name_like l,
      lexical_names_like q ro l,
      var_names_like q ro l,
      parameter_names_like q ro l,
      has_simple_like ro l,
      caught_like ro l,
      block_names_like q ro l,
      bare_name_like ro l,
      deleted_name_like ro l,
    ) refl
