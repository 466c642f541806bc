-- The file of a script is in the grammar of files.
use Rattle.std.proofs.Common.{◌≡◌, ◌≤◌, ℕ, zero, suc, ◌+◌, ◌<◌, ◌^◌, Bool, true, false, cond, ◌||◌, ◌&&◌, List, [], ◌∷◌, ◌++◌, length, get_or, Option, Some, None, refl, sym, subst, ◌∙◌}
use Rattle.std.specs.List.{AllByRecursion, IsDistinct, list_all, list_any, position_from}
use Rattle.std.proofs.lemmas.Option.{none-some}
use Rattle.std.proofs.lemmas.Str.{is_utf8-from_IsUtf8}
use Rattle.bast_schema.specs.declared.kind.EnumId.{EnumId}
use Rattle.bast_schema.specs.declared.kind.Kind.TheVariants.{Script}
use Rattle.bast_schema.specs.declared.kind.EnumId.TheVariants.{DeclaredKind, LexicalKind, ForKind, UnaryOperator, UpdateOperator, BinaryOperator, CompoundOperator}
use Rattle.bast_schema.specs.declared.kind.FieldType.{FieldType}
use Rattle.bast_schema.specs.declared.kind.FieldType.TheVariants as field
use Rattle.bast_schema.specs.declared.kind.Union.TheVariants.{Body}
use Rattle.bast_schema.specs.Choices.{choice_texts}
use Rattle.bast_schema.specs.Counts.{is_whole}
use Rattle.bast_schema.specs.Fields.{fields}
use Rattle.bast_schema.specs.Held.{Held}
use Rattle.bast_schema.specs.Kinds.{same_kind}
use Rattle.bast_schema.specs.Tree as schema
use Rattle.bast_schema.specs.Tree.{Tree, branch, Datum, Data, none, more, depth, kind_of, typed}
use Rattle.bast_schema.proofs.Both.{and_first, and_second, both}
use Rattle.bast_schema.proofs.Distinct.{distinct_none, distinct_with_kind}
use Rattle.container.specs.Atoms.{Atom, kind, text, chosen, atoms, atoms_of, atoms_of_fields, atoms_of_items}
use Rattle.bast_schema.specs.Eager.{is_eager}
use Rattle.container.specs.InFile.{InFile, IsEntry, has_atom, is_unnested}
use Rattle.container.specs.Named.{named}
use Rattle.container.specs.Tables.{Tables}
use Rattle.container.proofs.Added.{all_push}
use Rattle.container.proofs.ByAtoms.{eager_is_unnested}
use Rattle.container.proofs.Named.{is_plain, plain_text}
use Rattle.string_table.specs.Entries.{AreDistinct, added, is_same, place_in}
use Rattle.string_table.proofs.Laws.{AreDistinct-added, added-new, added-there}
use Rattle.string_table.proofs.Search.{position-from}
use Rattle.tree_encoder.specs.File.{file, tables_of, used_from, with_atom}
use Rattle.tree_encoder.specs.Laws.{IsNamedScript}
use Rattle.tree_encoder.proofs.Whole.{Stands, stands_after, stands_next}

-- ---- no entry of a table stands twice

kinds_next : (s : Tables) (a : Atom) → IsDistinct same_kind s.kinds → IsDistinct same_kind (with_atom s a).kinds
kinds_next s (kind k) distinct = distinct_with_kind s.kinds k distinct
kinds_next s _ distinct = distinct

kinds_distinct : (s : Tables) (as' : List Atom) → IsDistinct same_kind s.kinds → IsDistinct same_kind (used_from s as').kinds
kinds_distinct s [] distinct = distinct
kinds_distinct s (a ∷ as') distinct = kinds_distinct (with_atom s a) as' (kinds_next s a distinct)

texts_next : (s : Tables) (a : Atom) → AreDistinct s.texts → AreDistinct (with_atom s a).texts
texts_next s (text entry) distinct = AreDistinct-added s.texts entry distinct
texts_next s _ distinct = distinct

texts_distinct : (s : Tables) (as' : List Atom) → AreDistinct s.texts → AreDistinct (used_from s as').texts
texts_distinct s [] distinct = distinct
texts_distinct s (a ∷ as') distinct = texts_distinct (with_atom s a) as' (texts_next s a distinct)

none_distinct : AreDistinct []
unfolding IsDistinct
none_distinct = tt

-- ---- each entry is a text or the absent string

abbrev IsText : Atom → Type 0
IsText (text entry) = IsEntry entry
IsText _ = Unit {0}

entries_added : (ts : List (Option (List ℕ))) (entry : Option (List ℕ)) → AllByRecursion IsEntry ts → IsEntry entry → AllByRecursion IsEntry (added ts entry)
entries_added ts entry all one = by (place_in ts entry) refl
  where
    by : (o : Option ℕ) → place_in ts entry ≡ o → AllByRecursion IsEntry (added ts entry)
    by None e = subst (λ (us : List (Option (List ℕ))). AllByRecursion IsEntry us) (sym (added-new ts entry e).0) (all_push IsEntry ts entry all one)
    by (Some n) e = subst (λ (us : List (Option (List ℕ))). AllByRecursion IsEntry us) (sym (added-there ts entry n e).0) all

entries_next : (s : Tables) (a : Atom) → IsText a → AllByRecursion IsEntry s.texts → AllByRecursion IsEntry (with_atom s a).texts
entries_next s (text entry) one all = entries_added s.texts entry all one
entries_next s _ one all = all

entries_all : (s : Tables) (as' : List Atom) → AllByRecursion IsText as' → AllByRecursion IsEntry s.texts → AllByRecursion IsEntry (used_from s as').texts
entries_all s [] texts all = all
entries_all s (a ∷ as') texts all = entries_all (with_atom s a) as' texts.1 (entries_next s a texts.0 all)

-- the text of a name is one
entry_at : (ts : List (Option (List ℕ))) (n : ℕ) → AllByRecursion IsEntry ts → IsEntry (get_or ts n None)
entry_at [] n all = tt
entry_at (t ∷ ts) zero all = all.0
entry_at (t ∷ ts) (suc n) all = entry_at ts n all.1

-- and that of a choice, which has no character beyond ASCII
choices_are_ascii : (e : EnumId) → list_all is_plain (choice_texts e) ≡ true
choices_are_ascii DeclaredKind = refl
choices_are_ascii LexicalKind = refl
choices_are_ascii ForKind = refl
choices_are_ascii UnaryOperator = refl
choices_are_ascii UpdateOperator = refl
choices_are_ascii BinaryOperator = refl
choices_are_ascii CompoundOperator = refl

ascii_at : (ts : List (List ℕ)) (n : ℕ) → list_all is_plain ts ≡ true → is_plain (get_or ts n []) ≡ true
ascii_at [] n all = refl
ascii_at (t ∷ ts) zero all = and_first (is_plain t) (list_all is_plain ts) all
ascii_at (t ∷ ts) (suc n) all = ascii_at ts n (and_second (is_plain t) (list_all is_plain ts) all)

choice_is_text : (f : FieldType) (n : ℕ) → IsEntry (chosen f n)
choice_is_text (field.Choice e) n = is_utf8-from_IsUtf8 (get_or (choice_texts e) n []) (plain_text (get_or (choice_texts e) n []) (ascii_at (choice_texts e) n (choices_are_ascii e)))
choice_is_text _ n = tt

texts_join : (a b : List Atom) → AllByRecursion IsText a → AllByRecursion IsText b → AllByRecursion IsText (a ++ b)
texts_join [] b first rest = rest
texts_join (x ∷ a) b first rest = (first.0, texts_join a b first.1 rest)

mutual
  tree_texts : (h : Held) → AllByRecursion IsEntry h.texts → (t : Tree) → AllByRecursion IsText (atoms h t)
  tree_texts h all (branch k ds) = (tt, fields_texts h all ds (fields k))

  fields_texts : (h : Held) → AllByRecursion IsEntry h.texts → (ds : Data) (fs : List FieldType) → AllByRecursion IsText (atoms_of_fields h fs ds)
  fields_texts h all none [] = tt
  fields_texts h all none (f ∷ fs) = tt
  fields_texts h all (more d ds) [] = tt
  fields_texts h all (more d ds) (f ∷ fs) = texts_join (atoms_of h f d) (atoms_of_fields h fs ds) (value_texts h all d f) (fields_texts h all ds fs)

  value_texts : (h : Held) → AllByRecursion IsEntry h.texts → (d : Datum) (f : FieldType) → AllByRecursion IsText (atoms_of h f d)
  value_texts h all (schema.child t) f = tree_texts h all t
  value_texts h all (schema.listed ds) f = (tt, items_texts h all ds)
  value_texts h all (schema.name n) f = (entry_at h.texts n all, tt)
  value_texts h all (schema.choice n) f = (choice_is_text f n, tt)
  value_texts h all _ f = (tt, tt)

  items_texts : (h : Held) → AllByRecursion IsEntry h.texts → (ds : Data) → AllByRecursion IsText (atoms_of_items h ds)
  items_texts h all none = tt
  items_texts h all (more d ds) = texts_join (atoms_of h (field.Optional Body) d) (atoms_of_items h ds) (value_texts h all d (field.Optional Body)) (items_texts h all ds)

-- ---- each atom stands in the tables

found_any : {A : Type 0} (p : A → Bool) (i n : ℕ) (xs : List A) → position_from p i xs ≡ Some n → list_any p xs ≡ true
found_any p i n [] is = absurd (none-some n is)
found_any p i n (x ∷ xs) is = by (p x) (found_any p (i + 1) n xs) is
  where
    by : (b : Bool) → (position_from p (i + 1) xs ≡ Some n → list_any p xs ≡ true) → cond b (Some i) (position_from p (i + 1) xs) ≡ Some n → (b || list_any p xs) ≡ true
    by true rest is = refl
    by false rest is = rest is

atom_had : (s : Tables) (a : Atom) → Stands s a → has_atom s a ≡ true
atom_had s (kind k) there = found_any (λ j. same_kind j k) 0 there.0 s.kinds there.1
atom_had s (text entry) there = found_any (is_same entry) 0 there.0 s.texts (sym (position-from (is_same entry) s.texts) ∙ there.1)
atom_had s _ there = refl

all_had : (s : Tables) (as' : List Atom) → list_all (has_atom (used_from s as')) as' ≡ true
all_had s [] = refl
all_had s (a ∷ as') =
    let r = used_from (with_atom s a) as' in
    both (has_atom r a) (list_all (has_atom r) as') (atom_had r a (stands_after (with_atom s a) as' a (stands_next s a))) (all_had (with_atom s a) as')

-- ---- the file

pub file_in_grammar : (h : Held) (t : Tree) → kind_of t ≡ Script → typed t ≡ true → depth t ≤ 512 → is_whole t ≡ true → is_eager t ≡ true → named h t ≡ true → AllByRecursion IsEntry (tables_of h t).texts → length (file h t) < 2 ^ 32 → InFile (file h t) h t
file_in_grammar h t script ok shallow no_windows eager names entries small =
    let none_used : Tables = record { kinds = []; texts = [] } in
    record {
      tables = tables_of h t;
      distinct_kinds = kinds_distinct none_used (atoms h t) distinct_none;
      distinct_texts = texts_distinct none_used (atoms h t) none_distinct;
      entries = entries;
      has_all = all_had none_used (atoms h t);
      named = names;
      spelling = refl;
      small = small;
      script = script;
      typed_whole = both (typed t && is_whole t) (is_unnested t) (both (typed t) (is_whole t) ok no_windows) (eager_is_unnested t eager);
      shallow = shallow;
    }

pub script_in_grammar : (h : Held) (t : Tree) → IsNamedScript h t → length (file h t) < 2 ^ 32 → InFile (file h t) h t
script_in_grammar h t is small =
    file_in_grammar h t is.script is.typed is.shallow is.whole is.eager is.named (entries_all (record { kinds = []; texts = [] }) (atoms h t) (tree_texts h is.texts t) tt) small
