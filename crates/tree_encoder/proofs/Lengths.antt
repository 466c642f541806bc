-- How long a file is.
use Rattle.std.proofs.Common.{◌≡◌, ℕ, ◌+◌, ◌<◌, ◌≤◌, List, ◌++◌, length, length-append, codes, refl, ap, ◌∙◌, arith, Option, None, Bool, false, true≢false, sym, take, get_or, ◌↔◌, inl, inr, leb}
use Rattle.std.specs.Prelude.{flat_map, IsTrue}
use Rattle.std.proofs.lemmas.Bool.{cases_lt, leb-true, le-leb}
use Rattle.std.proofs.lemmas.List.Folds.{length-flat_map-take}
use Rattle.bast_schema.specs.declared.kind.Kind.{Kind}
use Rattle.bast_schema.specs.Kinds.{kind_name}
use Rattle.container.specs.Clauses.{kind_entries, text_entries}
use Rattle.container.specs.Container.{container, counted, entry_bytes, grammar, section, strings}
use Rattle.container.specs.Tables.{Tables}
use Rattle.var_numbers.specs.Varnum.{varnum}
use Rattle.tree_encoder.specs.File.{most_bytes}

section_length : (title content : List ℕ) → length (section title content) ≡ length title + 9 + length (varnum (length content)) + length content
section_length title content =
    omega (arith, length-append (title ++ codes "identity;") (counted content), length-append title (codes "identity;"), length-append (varnum (length content)) content)

one_length : length (varnum 1) ≡ 1
unfolding varnum
one_length = refl

pub container_length : (s : Tables) (tree : List ℕ) (g x : ℕ) → g ≡ length (varnum (length s.kinds)) + length (kind_entries s.kinds) → x ≡ length (varnum (length s.texts)) + length (text_entries s.texts)
    → length (container s tree) ≡ 6 + (18 + length (varnum g) + g) + (18 + length (varnum x) + x) + (15 + length (varnum (length tree)) + length tree)
unfolding container
container_length s tree g x g_is x_is =
    let head : List ℕ = codes "BINJS" ++ varnum 1 in
    let a = section (codes "[GRAMMAR]") (grammar s.kinds) in
    let b = section (codes "[STRINGS]") (strings s.texts) in
    let c = section (codes "[TREE]") tree in
    let same_g : g ≡ length (grammar s.kinds) = omega (arith, g_is, length-append (varnum (length s.kinds)) (kind_entries s.kinds)) in
    let same_x : x ≡ length (strings s.texts) = omega (arith, x_is, length-append (varnum (length s.texts)) (text_entries s.texts)) in
    rw (same_g, same_x) (omega (
      arith,
      length-append (head ++ a ++ b) c,
      length-append (head ++ a) b,
      length-append head a,
      length-append (codes "BINJS") (varnum 1),
      one_length,
      section_length (codes "[GRAMMAR]") (grammar s.kinds),
      section_length (codes "[STRINGS]") (strings s.texts),
      section_length (codes "[TREE]") tree,
    ))

-- a file is longer than each part of it
pub parts_within : (s : Tables) (tree : List ℕ) → (length (kind_entries s.kinds) ≤ length (container s tree)) × (length (text_entries s.texts) ≤ length (container s tree)) × (length tree ≤ length (container s tree))
parts_within s tree =
    let all = container_length s tree (length (varnum (length s.kinds)) + length (kind_entries s.kinds)) (length (varnum (length s.texts)) + length (text_entries s.texts)) refl refl in
    (omega (arith, all), omega (arith, all), omega (arith, all))

-- entries that are too long up to one of them are so in all
entries_past : {A : Type 0} (bytes_of : A → List ℕ) (xs : List A) (i total : ℕ) (x : A) (len : ℕ) → i < length xs → total ≡ length (flat_map (λ y. counted (bytes_of y)) (take i xs)) → len ≡ length (bytes_of (get_or xs i x))
    → most_bytes < total + length (varnum len) + len → most_bytes < length (flat_map (λ y. counted (bytes_of y)) xs)
entries_past bytes_of xs i total x len within so_far is long =
    let part = bytes_of (get_or xs i x) in
    let more : length (counted part) ≡ length (varnum len) + len = length-append (varnum (length part)) part ∙ ap (λ (n : ℕ). length (varnum n) + n) (sym is) in
    omega (arith, length-flat_map-take (λ y. counted (bytes_of y)) xs i x within, more, so_far, long)

pub names_past : (kinds : List Kind) (i total : ℕ) (k : Kind) (len : ℕ) → i < length kinds → total ≡ length (kind_entries (take i kinds)) → len ≡ length (kind_name (get_or kinds i k))
    → most_bytes < total + length (varnum len) + len → most_bytes < length (kind_entries kinds)
names_past kinds i total k len within so_far is long = entries_past kind_name kinds i total k len within so_far is long

pub texts_past : (texts : List (Option (List ℕ))) (i total len : ℕ) → i < length texts → total ≡ length (text_entries (take i texts)) → len ≡ length (entry_bytes (get_or texts i None))
    → most_bytes < total + length (varnum len) + len → most_bytes < length (text_entries texts)
texts_past texts i total len within so_far is long = entries_past entry_bytes texts i total None len within so_far is long

-- a part that is too long makes a file that is
pub too_long : (part all : ℕ) → most_bytes < part → part ≤ all → IsTrue false ↔ (all ≤ most_bytes)
too_long part all long within = (λ no. absurd (true≢false (sym no)), λ small. absurd (omega arith))

-- what a test of the length says where it fails
pub not_small : (small : Bool) (len all : ℕ) → IsTrue small ↔ (len ≤ most_bytes) → small ≡ false → len ≡ all → most_bytes < all
not_small small len all tells fails same = elim (cases_lt most_bytes len) [
  | inl long ↦ omega arith
  | inr short ↦ absurd (true≢false (sym (tells.1 short) ∙ fails))
]

pub tells_small : (n m : ℕ) → n ≡ m → IsTrue (leb n 8388608) ↔ (m ≤ most_bytes)
tells_small n m same = (λ yes. let short : n ≤ 8388608 = leb-true n 8388608 yes in omega arith, λ short. le-leb n 8388608 (omega arith))
