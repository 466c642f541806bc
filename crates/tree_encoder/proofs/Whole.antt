-- What was written of a tree is spelled over the tables that it ends with.
use Rattle.std.proofs.Common.{◌≡◌, ℕ, ◌<◌, ◌≤◌, ◌^◌, Bool, true, false, not, List, [], ◌∷◌, ◌++◌, length, append-nil, append_assoc, Option, Some, Err, refl, sym, ap, ◌∙◌, arith}
use Rattle.std.specs.Prelude.{flat_map}
use Rattle.std.specs.Option.{unwrap_or}
use Rattle.std.proofs.lemmas.Bool.{ltb-true}
use Rattle.bast_schema.specs.declared.kind.Kind.{Kind}
use Rattle.bast_schema.specs.declared.kind.Union.{Union}
use Rattle.bast_schema.specs.declared.kind.FieldType.{FieldType}
use Rattle.bast_schema.specs.declared.kind.FieldType.TheVariants as field
use Rattle.bast_schema.specs.declared.kind.Union.TheVariants.{Body}
use Rattle.bast_schema.specs.Counts.{is_whole, is_whole_at, is_whole_in}
use Rattle.bast_schema.specs.Fields.{fields, has_lazy}
use Rattle.bast_schema.specs.Held.{Held}
use Rattle.bast_schema.specs.KindTable.{place_of}
use Rattle.bast_schema.specs.Tree as schema
use Rattle.bast_schema.specs.Tree.{Tree, branch, Datum, Data, none, more, typed, fits, fit, item_type, items_fit}
use Rattle.bast_schema.proofs.Both.{and_first, and_second}
use Rattle.container.specs.Atoms.{Atom, kind, text, atoms, atoms_of, atoms_of_fields, atoms_of_items}
use Rattle.container.specs.Container.{container}
use Rattle.var_numbers.specs.Varnum.{varnum}
use Rattle.bast_schema.specs.Eager.{is_eager, is_eager_at, are_eager}
use Rattle.container.specs.Spelled.{spelled}
use Rattle.container.specs.SpelledAtom.{spelled_atom}
use Rattle.container.specs.Tables.{Tables}
use Rattle.container.proofs.ByAtoms.{eager_is_folded, tree_by_atoms}
use Rattle.container.proofs.Values.{child_fits, listed_fits}
use Rattle.string_table.specs.Entries.{place_in}
use Rattle.string_table.proofs.Laws.{place_in-added}
use Rattle.tree_encoder.specs.File.{file, most_bytes, tables_of, used_from, with_atom}
use Rattle.tree_encoder.specs.Writing.{AllPlain, Puts, Written, so_far, with_next, written}
use Rattle.tree_encoder.proofs.Stay.{kind_placed, kind_stays, text_stays}
use Rattle.tree_encoder.specs.declared.fault.EncodeFault.{EncodeFault}
use Rattle.tree_encoder.specs.declared.fault.EncodeFault.TheVariants.{Memory, TooLarge}
use Rattle.tree_encoder.specs.declared.writer.Writer.{Writer}
use Rattle.tree_encoder.proofs.Lengths.{parts_within}
use Rattle.tree_encoder.proofs.Walk.{plain_join}

-- ---- a tree without windows and lazy kinds is plain

not_false : (b : Bool) → not b ≡ true → b ≡ false
not_false true e = cc
not_false false e = refl

whole_small : (f : FieldType) (n : ℕ) → fits f (schema.whole n) ≡ true → n < 2 ^ 53
whole_small field.Whole n is = ltb-true n (2 ^ 53) is
whole_small _ n is = cc

mutual
  pub plain_tree : (h : Held) (t : Tree) → is_whole t ≡ true → is_eager t ≡ true → typed t ≡ true → AllPlain (atoms h t)
  plain_tree h (branch k ds) no_windows eager fit_all = (not_false (has_lazy k) (and_first _ (are_eager ds) eager), plain_fields h ds (fields k) no_windows (and_second _ (are_eager ds) eager) fit_all)

  plain_fields : (h : Held) (ds : Data) (fs : List FieldType) → is_whole_in ds ≡ true → are_eager ds ≡ true → fit fs ds ≡ true → AllPlain (atoms_of_fields h fs ds)
  plain_fields h none [] no_windows eager fit_all = tt
  plain_fields h none (f ∷ fs) no_windows eager fit_all = tt
  plain_fields h (more d ds) [] no_windows eager fit_all = tt
  plain_fields h (more d ds) (f ∷ fs) no_windows eager fit_all =
      plain_join (atoms_of h f d) (atoms_of_fields h fs ds)
      (plain_value h d f f (and_first _ (is_whole_in ds) no_windows) (and_first _ (are_eager ds) eager) (and_first (fits f d) (fit fs ds) fit_all))
      (plain_fields h ds fs (and_second _ (is_whole_in ds) no_windows) (and_second _ (are_eager ds) eager) (and_second (fits f d) (fit fs ds) fit_all))

  plain_value : (h : Held) (d : Datum) (f g : FieldType) → is_whole_at d ≡ true → is_eager_at d ≡ true → fits f d ≡ true → AllPlain (atoms_of h g d)
  plain_value h (schema.child t) f g no_windows eager is = plain_tree h t no_windows eager (child_fits f t is)
  plain_value h (schema.listed ds) f g no_windows eager is = let items = listed_fits f ds is in (tt, plain_items h ds items.0 items.1 no_windows eager items.2)
  plain_value h (schema.whole n) f g no_windows eager is = (whole_small f n is, tt)
  plain_value h (schema.window from to) f g no_windows eager is = cc
  plain_value h schema.absent f g no_windows eager is = (refl, tt)
  plain_value h _ f g no_windows eager is = (tt, tt)

  plain_items : (h : Held) (ds : Data) (u : Union) (holes : Bool) → is_whole_in ds ≡ true → are_eager ds ≡ true → items_fit u holes ds ≡ true → AllPlain (atoms_of_items h ds)
  plain_items h none u holes no_windows eager is = tt
  plain_items h (more d ds) u holes no_windows eager is =
      plain_join (atoms_of h (field.Optional Body) d) (atoms_of_items h ds)
      (plain_value h d (item_type u holes) (field.Optional Body) (and_first _ (is_whole_in ds) no_windows) (and_first _ (are_eager ds) eager) (and_first (fits (item_type u holes) d) (items_fit u holes ds) is))
      (plain_items h ds u holes (and_second _ (is_whole_in ds) no_windows) (and_second _ (are_eager ds) eager) (and_second (fits (item_type u holes) d) (items_fit u holes ds) is))

-- ---- what an atom is spelled as stays when the tables grow

-- where an atom stands in the tables, so that its place is known
abbrev pub Stands : Tables → Atom → Type 0
Stands s (kind k) = (n : ℕ) × (place_of s.kinds k ≡ Some n)
Stands s (text entry) = (n : ℕ) × (place_in s.texts entry ≡ Some n)
Stands s _ = Unit {0}

pub stands_next : (s : Tables) (a : Atom) → Stands (with_atom s a) a
stands_next s (kind k) = (_, kind_placed s.kinds k)
stands_next s (text entry) = (_, place_in-added s.texts entry)
stands_next s _ = tt

kind_kept : (s : Tables) (a : Atom) (k : Kind) (n : ℕ) → place_of s.kinds k ≡ Some n → place_of (with_atom s a).kinds k ≡ Some n
kind_kept s (kind j) k n is = kind_stays s.kinds j k n is
kind_kept s _ k n is = is

text_kept : (s : Tables) (a : Atom) (entry : Option (List ℕ)) (n : ℕ) → place_in s.texts entry ≡ Some n → place_in (with_atom s a).texts entry ≡ Some n
text_kept s (text other) entry n is = text_stays s.texts other entry n is
text_kept s _ entry n is = is

same_number : (o p : Option ℕ) (n i j : ℕ) → o ≡ Some n → p ≡ Some n → varnum (unwrap_or o i) ≡ varnum (unwrap_or p j)
same_number o p n i j e f = ap (λ (x : Option ℕ). varnum (unwrap_or x i)) e ∙ sym (ap (λ (x : Option ℕ). varnum (unwrap_or x j)) f)

stands_kept : (s : Tables) (b a : Atom) → Stands s a → Stands (with_atom s b) a
stands_kept s b (kind k) there = (there.0, kind_kept s b k there.0 there.1)
stands_kept s b (text entry) there = (there.0, text_kept s b entry there.0 there.1)
stands_kept s b _ there = tt

bytes_kept : (s : Tables) (b a : Atom) → Stands s a → spelled_atom s a ≡ spelled_atom (with_atom s b) a
bytes_kept s b (kind k) there = same_number (place_of s.kinds k) (place_of (with_atom s b).kinds k) there.0 (length s.kinds) (length (with_atom s b).kinds) there.1 (kind_kept s b k there.0 there.1)
bytes_kept s b (text entry) there = same_number (place_in s.texts entry) (place_in (with_atom s b).texts entry) there.0 (length s.texts) (length (with_atom s b).texts) there.1 (text_kept s b entry there.0 there.1)
bytes_kept s b _ there = refl

pub stands_after : (s : Tables) (as' : List Atom) (a : Atom) → Stands s a → Stands (used_from s as') a
stands_after s [] a there = there
stands_after s (b ∷ as') a there = stands_after (with_atom s b) as' a (stands_kept s b a there)

bytes_after : (s : Tables) (as' : List Atom) (a : Atom) → Stands s a → spelled_atom s a ≡ spelled_atom (used_from s as') a
bytes_after s [] a there = refl
bytes_after s (b ∷ as') a there = bytes_kept s b a there ∙ bytes_after (with_atom s b) as' a (stands_kept s b a there)

abbrev ended : Tables → List ℕ → Written
ended s bytes = record { tables = s; bytes = bytes }

abbrev all_bytes : Tables → List Atom → List ℕ
all_bytes s as' = flat_map (spelled_atom s) as'

-- what was written of some atoms: the tables with what they use, and their bytes over these
written_is : (w : Written) (as' : List Atom) → written w as' ≡ ended (used_from w.tables as') (w.bytes ++ all_bytes (used_from w.tables as') as')
written_is w [] = ap (ended w.tables) (sym (append-nil w.bytes))
written_is w (a ∷ as') =
    let s = with_atom w.tables a in
    let r = used_from s as' in
    let rest = all_bytes r as' in
    written_is (with_next w a) as'
    ∙ ap (ended r) (append_assoc w.bytes (spelled_atom s a) rest ∙ ap (λ (x : List ℕ). w.bytes ++ (x ++ rest)) (bytes_after s as' a (stands_next w.tables a)))

abbrev pub start : Written
start = record { tables = record { kinds = []; texts = [] }; bytes = [] }

pub tree_written : (h : Held) (t : Tree) → typed t ≡ true → is_eager t ≡ true → written start (atoms h t) ≡ ended (tables_of h t) (spelled (tables_of h t) h t)
tree_written h t well_typed eager = written_is start (atoms h t) ∙ ap (ended (tables_of h t)) (sym (tree_by_atoms (tables_of h t) h t well_typed (eager_is_folded t eager)))

-- ---- the file

-- a tree's bytes that are too large make a file that is
pub tree_large : (fault : EncodeFault) (first new : Written) (h : Held) (t : Tree) → typed t ≡ true → is_eager t ≡ true → first ≡ start → Puts first (atoms h t) new (Err fault) → fault ≡ TooLarge → most_bytes < length (file h t)
tree_large Memory first new h t well_typed eager begins puts is = cc
tree_large TooLarge first new h t well_typed eager begins puts is =
    let same : length (written first (atoms h t)).bytes ≡ length (spelled (tables_of h t) h t) =
    ap (λ (w : Written). length (written w (atoms h t)).bytes) begins ∙ ap (λ (w : Written). length w.bytes) (tree_written h t well_typed eager) in
    let within : length (spelled (tables_of h t) h t) ≤ length (file h t) = (parts_within (tables_of h t) (spelled (tables_of h t) h t)).2 in
    let large : most_bytes < length (written first (atoms h t)).bytes = puts in
    omega arith

-- a writer that has written the tree holds its tables and bytes
pub file_of_writer : (w : Writer) (first : Written) (h : Held) (t : Tree) → typed t ≡ true → is_eager t ≡ true → first ≡ start → so_far w ≡ written first (atoms h t)
    → container (record { kinds = w.kinds; texts = w.texts }) w.bytes.items ≡ file h t
file_of_writer w first h t well_typed eager begins is =
    ap (λ (x : Written). container x.tables x.bytes) (is ∙ ap (λ (x : Written). written x (atoms h t)) begins ∙ tree_written h t well_typed eager)

pub texts_of_writer : (w : Writer) (first : Written) (h : Held) (t : Tree) → typed t ≡ true → is_eager t ≡ true → first ≡ start → so_far w ≡ written first (atoms h t) → w.texts ≡ (tables_of h t).texts
texts_of_writer w first h t well_typed eager begins is =
    ap (λ (x : Written). x.tables.texts) (is ∙ ap (λ (x : Written). written x (atoms h t)) begins ∙ tree_written h t well_typed eager)
