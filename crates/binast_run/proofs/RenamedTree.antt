-- A tree with other numbers for its names is the same tree, where each name stands for the same text.
use Rattle.std.proofs.Common.{ℕ, List, [], ◌∷◌, ◌≡◌, Bool, true, false, refl, ap, ◌∙◌, get_or, Option, Some, None, is_some}
use Rattle.std.specs.List.{list_any, list_all}
use Rattle.bast_schema.specs.declared.kind.Union.{Union}
use Rattle.bast_schema.specs.declared.kind.Union.TheVariants.{Body}
use Rattle.bast_schema.specs.declared.kind.FieldType.{FieldType}
use Rattle.bast_schema.specs.declared.kind.FieldType.TheVariants as field
use Rattle.bast_schema.specs.Counts.{is_whole, is_whole_at, is_whole_in}
use Rattle.bast_schema.specs.Fields.{fields}
use Rattle.bast_schema.specs.Held.{Held, text_of}
use Rattle.bast_schema.specs.NamesHold.{names_hold, names_hold_at, names_hold_in}
use Rattle.bast_schema.specs.Tree.{Tree, branch, Datum, child, listed, name, window, Data, none, more, typed, fits, fit, items_fit, item_type, count}
use Rattle.bast_schema.proofs.Both.{and_first, and_second, both}
use Rattle.container.specs.Atoms as atom
use Rattle.container.specs.Atoms.{Atom, atoms, atoms_of, atoms_of_fields, atoms_of_items}
use Rattle.container.specs.InFile.{has_atom}
use Rattle.container.specs.Named.{named, named_at, all_named}
use Rattle.container.specs.Tables.{Tables}
use Rattle.scope_facts.specs.Renamed.{renamed, renamed_at, renamed_in}
use Rattle.string_table.specs.Entries.{is_same, place_in}
use Rattle.string_table.proofs.Search.{list_any-from_none}
use Rattle.tree_decoder.specs.SameTree.{IsSameTree, IsSame, AreSame}
use Rattle.tree_decoder.proofs.Accepts.{first_atom, other_atoms, front_atoms, back_atoms}
use Rattle.tree_encoder.specs.File.{texts_held}
use Rattle.container.proofs.Values.{child_fits, listed_fits}
use Rattle.binast_run.proofs.Matching.{is_matched_text}

-- of the names with a property, each stands for the same text
abbrev pub SameTexts : (ℕ → ℕ) → (ℕ → Bool) → Held → Held → Type 0
SameTexts r p h g = (n : ℕ) → p n ≡ true → text_of g (r n) ≡ text_of h n

mutual
  pub same_renamed : (r : ℕ → ℕ) (p : ℕ → Bool) (h g : Held) → SameTexts r p h g → (t : Tree) → names_hold p t ≡ true → is_whole t ≡ true → IsSameTree g h (renamed r t) t
  same_renamed r p h g same (branch k ds) a w = (refl, same_in_renamed r p h g same ds a w)

  same_at_renamed : (r : ℕ → ℕ) (p : ℕ → Bool) (h g : Held) → SameTexts r p h g → (d : Datum) → names_hold_at p d ≡ true → is_whole_at d ≡ true → IsSame g h (renamed_at r d) d
  same_at_renamed r p h g same (child t) a w = same_renamed r p h g same t a w
  same_at_renamed r p h g same (listed ds) a w = same_in_renamed r p h g same ds a w
  same_at_renamed r p h g same (name n) a w = same n a
  same_at_renamed r p h g same (window from to) a w = absurd cc
  same_at_renamed r p h g same _ a w = refl

  same_in_renamed : (r : ℕ → ℕ) (p : ℕ → Bool) (h g : Held) → SameTexts r p h g → (ds : Data) → names_hold_in p ds ≡ true → is_whole_in ds ≡ true → AreSame g h (renamed_in r ds) ds
  same_in_renamed r p h g same none a w = tt
  same_in_renamed r p h g same (more d ds) a w = (
    same_at_renamed r p h g same d (and_first (names_hold_at p d) (names_hold_in p ds) a) (and_first (is_whole_at d) (is_whole_in ds) w),
    same_in_renamed r p h g same ds (and_second (names_hold_at p d) (names_hold_in p ds) a) (and_second (is_whole_at d) (is_whole_in ds) w),
  )

-- its names stand for texts too
mutual
  pub named_renamed : (r : ℕ → ℕ) (p : ℕ → Bool) (h g : Held) → SameTexts r p h g → (t : Tree) → names_hold p t ≡ true → named h t ≡ true → named g (renamed r t) ≡ true
  named_renamed r p h g same (branch k ds) a is = all_named_renamed r p h g same ds a is

  named_at_renamed : (r : ℕ → ℕ) (p : ℕ → Bool) (h g : Held) → SameTexts r p h g → (d : Datum) → names_hold_at p d ≡ true → named_at h d ≡ true → named_at g (renamed_at r d) ≡ true
  named_at_renamed r p h g same (child t) a is = named_renamed r p h g same t a is
  named_at_renamed r p h g same (listed ds) a is = all_named_renamed r p h g same ds a is
  named_at_renamed r p h g same (name n) a is = ap is_some (same n a) ∙ is
  named_at_renamed r p h g same _ a is = refl

  all_named_renamed : (r : ℕ → ℕ) (p : ℕ → Bool) (h g : Held) → SameTexts r p h g → (ds : Data) → names_hold_in p ds ≡ true → all_named h ds ≡ true → all_named g (renamed_in r ds) ≡ true
  all_named_renamed r p h g same none a is = refl
  all_named_renamed r p h g same (more d ds) a is = both (named_at g (renamed_at r d)) (all_named g (renamed_in r ds))
      (named_at_renamed r p h g same d (and_first (names_hold_at p d) (names_hold_in p ds) a) (and_first (named_at h d) (all_named h ds) is))
      (all_named_renamed r p h g same ds (and_second (names_hold_at p d) (names_hold_in p ds) a) (and_second (named_at h d) (all_named h ds) is))

mutual
  pub whole_renamed : (r : ℕ → ℕ) (t : Tree) → is_whole (renamed r t) ≡ is_whole t
  whole_renamed r (branch k ds) = whole_in_renamed r ds

  whole_at_renamed : (r : ℕ → ℕ) (d : Datum) → is_whole_at (renamed_at r d) ≡ is_whole_at d
  whole_at_renamed r (child t) = whole_renamed r t
  whole_at_renamed r (listed ds) = whole_in_renamed r ds
  whole_at_renamed r _ = refl

  whole_in_renamed : (r : ℕ → ℕ) (ds : Data) → is_whole_in (renamed_in r ds) ≡ is_whole_in ds
  whole_in_renamed r none = refl
  whole_in_renamed r (more d ds) = rw (whole_at_renamed r d, whole_in_renamed r ds) refl

-- the names of a tree whose texts stand in a table are matched there

any_place : (strings : List (Option (List ℕ))) (entry : Option (List ℕ)) (o : Option ℕ) → place_in strings entry ≡ o → list_any (is_same entry) strings ≡ true → is_some o ≡ true
any_place strings entry (Some place) e h = refl
any_place strings entry None e h = let none_there : list_any (is_same entry) strings ≡ false = list_any-from_none (is_same entry) strings e in cc

mutual
  pub matched_tree : (s : Tables) (texts : List (Option (List ℕ))) (t : Tree) → typed t ≡ true → named (texts_held texts) t ≡ true → list_all (has_atom s) (atoms (texts_held texts) t) ≡ true → names_hold (is_matched_text texts s.texts) t ≡ true
  matched_tree s texts (branch k ds) f a h = matched_fields s texts ds (fields k) f a (other_atoms s (atom.kind k) (atoms_of_fields (texts_held texts) (fields k) ds) h)

  matched_fields : (s : Tables) (texts : List (Option (List ℕ))) (ds : Data) (ts : List FieldType) → fit ts ds ≡ true → all_named (texts_held texts) ds ≡ true → list_all (has_atom s) (atoms_of_fields (texts_held texts) ts ds) ≡ true
      → names_hold_in (is_matched_text texts s.texts) ds ≡ true
  matched_fields s texts none ts f a h = refl
  matched_fields s texts (more d ds) [] f a h = cc
  matched_fields s texts (more d ds) (t ∷ ts) f a h = both (names_hold_at (is_matched_text texts s.texts) d) (names_hold_in (is_matched_text texts s.texts) ds)
      (matched_value s texts d t t (and_first (fits t d) (fit ts ds) f) (and_first (named_at (texts_held texts) d) (all_named (texts_held texts) ds) a) (front_atoms s (atoms_of (texts_held texts) t d) (atoms_of_fields (texts_held texts) ts ds) h))
      (matched_fields s texts ds ts (and_second (fits t d) (fit ts ds) f) (and_second (named_at (texts_held texts) d) (all_named (texts_held texts) ds) a) (back_atoms s (atoms_of (texts_held texts) t d) (atoms_of_fields (texts_held texts) ts ds) h))

  matched_value : (s : Tables) (texts : List (Option (List ℕ))) (d : Datum) (t u : FieldType) → fits t d ≡ true → named_at (texts_held texts) d ≡ true → list_all (has_atom s) (atoms_of (texts_held texts) u d) ≡ true
      → names_hold_at (is_matched_text texts s.texts) d ≡ true
  matched_value s texts (child c) t u f a h = matched_tree s texts c (child_fits t c f) a h
  matched_value s texts (listed ds) t u f a h = let items = listed_fits t ds f in matched_items s texts ds items.0 items.1 items.2 a (other_atoms s (atom.count (count ds)) (atoms_of_items (texts_held texts) ds) h)
  matched_value s texts (name n) t u f a h = both (is_some (get_or texts n None)) (is_some (place_in s.texts (get_or texts n None))) a
      (any_place s.texts (get_or texts n None) (place_in s.texts (get_or texts n None)) refl (first_atom s (atom.text (get_or texts n None)) [] h))
  matched_value s texts _ t u f a h = refl

  matched_items : (s : Tables) (texts : List (Option (List ℕ))) (ds : Data) (u : Union) (holes : Bool) → items_fit u holes ds ≡ true → all_named (texts_held texts) ds ≡ true → list_all (has_atom s) (atoms_of_items (texts_held texts) ds) ≡ true
      → names_hold_in (is_matched_text texts s.texts) ds ≡ true
  matched_items s texts none u holes f a h = refl
  matched_items s texts (more d ds) u holes f a h = both (names_hold_at (is_matched_text texts s.texts) d) (names_hold_in (is_matched_text texts s.texts) ds)
      (matched_value s texts d (item_type u holes) (field.Optional Body) (and_first (fits (item_type u holes) d) (items_fit u holes ds) f) (and_first (named_at (texts_held texts) d) (all_named (texts_held texts) ds) a) (front_atoms s (atoms_of (texts_held texts) (field.Optional Body) d) (atoms_of_items (texts_held texts) ds) h))
      (matched_items s texts ds u holes (and_second (fits (item_type u holes) d) (items_fit u holes ds) f) (and_second (named_at (texts_held texts) d) (all_named (texts_held texts) ds) a) (back_atoms s (atoms_of (texts_held texts) (field.Optional Body) d) (atoms_of_items (texts_held texts) ds) h))
