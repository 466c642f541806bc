-- Two trees that are spelled alike have the same atoms.
use Rattle.std.proofs.Common.{ℕ, ◌^◌, ◌<◌, ◌≡◌, Bool, true, false, ◌&&◌, List, [], ◌∷◌, ◌++◌, length, take, drop, Option, Some, None, refl, sym, ap, subst, ◌∙◌, arith, append_assoc, slice_get, cond, nat_lt}
use Rattle.std.specs.List.{list_all}
use Rattle.std.specs.Int.{w64, from_be_bytes, to_be_bytes}
use Rattle.std.proofs.lemmas.Bool.{ltb-true}
use Rattle.std.proofs.lemmas.List.{take_at, drop_at}
use Rattle.std.proofs.lemmas.Nat.{from_be_bytes-to_be_bytes_8}
use Rattle.var_numbers.specs.Pattern.{pattern}
use Rattle.var_numbers.specs.Varnum.{varnum}
use Rattle.var_numbers.proofs.PatternLemmas.{pattern-injective}
use Rattle.var_numbers.proofs.ReadLemmas.{varnum-prefix_free}
use Rattle.bast_schema.specs.declared.kind.FieldType.{FieldType}
use Rattle.bast_schema.specs.declared.kind.FieldType.TheVariants as field
use Rattle.bast_schema.specs.declared.kind.Kind.{Kind}
use Rattle.bast_schema.specs.declared.kind.Union.{Union}
use Rattle.bast_schema.specs.Counts.{is_whole}
use Rattle.bast_schema.specs.Fields.{fields}
use Rattle.bast_schema.specs.Held.{Held}
use Rattle.bast_schema.specs.Tree.{Tree, branch, depth_in, typed, Data}
use Rattle.container.specs.Atoms.{Atom, kind, count, flag, index, whole, text, window, atoms, atoms_of_fields}
use Rattle.container.specs.Folded.{folded}
use Rattle.container.specs.InFile.{has_atom}
use Rattle.container.specs.Spelled.{spelled, spelled_fields}
use Rattle.container.specs.SpelledAtom.{spelled_atom}
use Rattle.container.specs.Tables.{Tables, kind_place, text_place}
use Rattle.tree_decoder.specs.Dues.{Due, due, dues}
use Rattle.tree_decoder.proofs.Accepts.{kind_there, text_there, pattern_small, first_atom, other_atoms, front_atoms, back_atoms, sits}
use Rattle.tree_decoder.proofs.Spelling.{Terms, Spelling, ends, atom_then, node_then, KnownIn, put, row_fields, trimmed}

-- ---- one atom

-- the first atoms of two spellings are one, and so is what follows
abbrev SameStart : Atom → Atom → List ℕ → List ℕ → Type 0
SameStart a b x y = (a ≡ b) × (x ≡ y)

one_kind : (s : Tables) (j k : Kind) → has_atom s (kind j) ≡ true → has_atom s (kind k) ≡ true → kind_place s j ≡ kind_place s k → j ≡ k
one_kind s j k p q same = let both : Some j ≡ Some k = sym (kind_there s j p) ∙ ap (slice_get s.kinds) same ∙ kind_there s k q in cc

one_text : (s : Tables) (a b : Option (List ℕ)) → has_atom s (text a) ≡ true → has_atom s (text b) ≡ true → text_place s a ≡ text_place s b → a ≡ b
one_text s a b p q same = let both : Some a ≡ Some b = sym (text_there s a p) ∙ ap (slice_get s.texts) same ∙ text_there s b q in cc

kinds_same : (s : Tables) (j k : Kind) (x y : List ℕ) → has_atom s (kind j) ≡ true → has_atom s (kind k) ≡ true → varnum (kind_place s j) ++ x ≡ varnum (kind_place s k) ++ y → SameStart (kind j) (kind k) x y
kinds_same s j k x y p q e = let r = varnum-prefix_free (kind_place s j) (kind_place s k) x y e in (ap kind (one_kind s j k p q r.0), r.1)

texts_same : (s : Tables) (a b : Option (List ℕ)) (x y : List ℕ) → has_atom s (text a) ≡ true → has_atom s (text b) ≡ true → varnum (text_place s a) ++ x ≡ varnum (text_place s b) ++ y → SameStart (text a) (text b) x y
texts_same s a b x y p q e = let r = varnum-prefix_free (text_place s a) (text_place s b) x y e in (ap text (one_text s a b p q r.0), r.1)

numbers_same : (f : ℕ → Atom) (n m : ℕ) (x y : List ℕ) → varnum n ++ x ≡ varnum m ++ y → SameStart (f n) (f m) x y
numbers_same f n m x y e = let r = varnum-prefix_free n m x y e in (ap f r.0, r.1)

flags_same : (b c : Bool) (x y : List ℕ) → cond b 1 0 ∷ x ≡ cond c 1 0 ∷ y → SameStart (flag b) (flag c) x y
flags_same true true x y e = (refl, cc)
flags_same false false x y e = (refl, cc)
flags_same true false x y e = absurd cc
flags_same false true x y e = absurd cc

parts_same : (a b x y : List ℕ) → length a ≡ length b → a ++ x ≡ b ++ y → (a ≡ b) × (x ≡ y)
parts_same a b x y long e = (
  sym (take_at a x (length a) refl) ∙ ap (take (length a)) e ∙ take_at b y (length a) (sym long),
  sym (drop_at a x (length a) refl) ∙ ap (drop (length a)) e ∙ drop_at b y (length a) (sym long),
)

wholes_same : (n m : ℕ) (x y : List ℕ) → nat_lt n 9007199254740992 ≡ true → nat_lt m 9007199254740992 ≡ true → to_be_bytes w64 (pattern n) ++ x ≡ to_be_bytes w64 (pattern m) ++ y → SameStart (whole n) (whole m) x y
wholes_same n m x y p q e =
    let n_less : n < 2 ^ 53 = ltb-true _ _ p in
    let m_less : m < 2 ^ 53 = ltb-true _ _ q in
    let r = parts_same (to_be_bytes w64 (pattern n)) (to_be_bytes w64 (pattern m)) x y refl e in
    let bits : pattern n ≡ pattern m = sym (from_be_bytes-to_be_bytes_8 (pattern n) (pattern_small n n_less)) ∙ ap (from_be_bytes w64) r.0 ∙ from_be_bytes-to_be_bytes_8 (pattern m) (pattern_small m m_less) in
    (ap whole (pattern-injective n m n_less m_less bits), r.1)

-- bytes behind their length
windows_apart : (a b x y : List ℕ) → (varnum (length a) ++ a) ++ x ≡ (varnum (length b) ++ b) ++ y → (a ≡ b) × (x ≡ y)
windows_apart a b x y e =
    let apart : varnum (length a) ++ (a ++ x) ≡ varnum (length b) ++ (b ++ y) = sym (append_assoc (varnum (length a)) a x) ∙ e ∙ append_assoc (varnum (length b)) b y in
    let r = varnum-prefix_free (length a) (length b) (a ++ x) (b ++ y) apart in
    parts_same a b x y r.0 r.1

below_bound : (b : Bool) (es : List Due) → cond b (Some []) None ≡ Some es → b ≡ true
below_bound true es e = refl
below_bound false es e = absurd cc

one_atom : (s : Tables) (t : FieldType) (d : ℕ) (w : Bool) (a b : Atom) (es fs : List Due) (x y : List ℕ) → put t d w a ≡ Some es → put t d w b ≡ Some fs → has_atom s a ≡ true → has_atom s b ≡ true → spelled_atom s a ++ x ≡ spelled_atom s b ++ y → SameStart a b x y
one_atom s (field.Node u) d w (kind j) (kind k) es fs x y p q ha hb e = kinds_same s j k x y ha hb e
one_atom s (field.Optional u) d w (kind j) (kind k) es fs x y p q ha hb e = kinds_same s j k x y ha hb e
one_atom s (field.List u holes filled) d w (count n) (count m) es fs x y p q ha hb e = numbers_same count n m x y e
one_atom s field.Bool d w (flag b) (flag c) es fs x y p q ha hb e = flags_same b c x y e
one_atom s field.Index d w (index n) (index m) es fs x y p q ha hb e = numbers_same index n m x y e
one_atom s field.Whole d w (whole n) (whole m) es fs x y p q ha hb e = wholes_same n m x y (below_bound (nat_lt n 9007199254740992) es p) (below_bound (nat_lt m 9007199254740992) fs q) e
one_atom s field.Text d w (text a) (text b) es fs x y p q ha hb e = texts_same s a b x y ha hb e
one_atom s field.Name d w (text a) (text b) es fs x y p q ha hb e = texts_same s a b x y ha hb e
one_atom s field.Label d w (text a) (text b) es fs x y p q ha hb e = texts_same s a b x y ha hb e
one_atom s (field.Choice set) d w (text a) (text b) es fs x y p q ha hb e = texts_same s a b x y ha hb e
one_atom s (field.Lazy u) d w (window a) (window b) es fs x y p q ha hb e = let r = windows_apart a b x y e in (ap window r.0, r.1)
one_atom s _ d w _ _ es fs x y p q ha hb e = absurd cc

-- ---- atom after atom

-- for a lazy field no atom but a window is due
window_shut : (limit : ℕ) (windows : Bool) (t : FieldType) (u : Union) (d : ℕ) (w : Bool) (size : ℕ) (a : Atom) (es : List Due) → t ≡ field.Lazy u → put t d w a ≡ Some es → sits limit windows d size a ≡ true → windows ≡ true
window_shut limit windows t u d w size (window b) es is p fine = fine
window_shut limit windows t u d w size a es is p fine = let q : put (field.Lazy u) d w a ≡ Some es = subst (λ (f : FieldType). put f d w a ≡ Some es) is p in absurd cc

not_both : (a b : Bool) → (a && b) ≡ false → a ≡ true → b ≡ true → {A : Type 0} → A
not_both a b apart p q = let both : (a && b) ≡ true = rw (p, q) refl in absurd cc

-- Two rows for the same dues with one spelling have the same atoms, where none has a node for a lazy field and the other a window.
one_row : (s : Tables) (p q : Terms) → (p.nodes && q.windows) ≡ false → (p.windows && q.nodes) ≡ false → (ds : List Due) (a : List ℕ) (xs : List Atom) → Spelling s p ds a xs [] → (b : List ℕ) (ys : List Atom) → Spelling s q ds b ys []
    → list_all (has_atom s) xs ≡ true → list_all (has_atom s) ys ≡ true → a ≡ b → xs ≡ ys
one_row s p q apart on _ _ _ (ends _) _ _ (ends _) hx hy e = refl
one_row s p q apart on _ _ _ (atom_then x ds a es xb xs _ is _ fine row) _ _ (atom_then _ _ b fs yb ys _ is2 _ fine2 row2) hx hy e =
    let r = one_atom s x.type x.depth x.inside a b es fs xb yb is is2 (first_atom s a xs hx) (first_atom s b ys hy) e in
    let both : Some fs ≡ Some es = sym is2 ∙ ap (put x.type x.depth x.inside) (sym r.0) ∙ is in
    let same : fs ≡ es = cc in
    let others = one_row s p q apart on (es ++ ds) xb xs row yb ys (subst (λ (gs : List Due). Spelling s q (gs ++ ds) yb ys []) same row2) (other_atoms s a xs hx) (other_atoms s b ys hy) r.1 in
    ap (λ (z : Atom). z ∷ xs) r.0 ∙ ap (λ (zs : List Atom). b ∷ zs) others
one_row s p q apart on _ _ _ (atom_then x ds a es xb xs _ is _ fine row) _ _ (node_then _ u _ inner yb within ys _ lazy opens row2 rest2) hx hy e =
    not_both p.windows q.nodes on (window_shut p.limit p.windows x.type u x.depth x.inside (length xb) a es lazy is fine) opens
one_row s p q apart on _ _ _ (node_then x u ds inner xb within xs _ lazy opens row rest) _ _ (atom_then _ _ b fs yb ys _ is2 _ fine2 row2) hx hy e =
    not_both p.nodes q.windows apart opens (window_shut q.limit q.windows x.type u x.depth x.inside (length yb) b fs lazy is2 fine2)
one_row s p q apart on _ _ _ (node_then x u ds inner xb within xs _ lazy opens row rest) _ _ (node_then _ v _ inner2 yb within2 ys _ lazy2 opens2 row2 rest2) hx hy e =
    let both : field.Lazy v ≡ field.Lazy u = sym lazy2 ∙ lazy in
    let same : v ≡ u = cc in
    let r = windows_apart inner inner2 xb yb e in
    let first = one_row s p q apart on (due (field.Node u) x.depth x.inside ∷ []) inner within row inner2 within2 (subst (λ (z : Union). Spelling s q (due (field.Node z) x.depth x.inside ∷ []) inner2 within2 []) same row2) (front_atoms s within xs hx) (front_atoms s within2 ys hy) r.0 in
    ap (λ (z : List Atom). z ++ xs) first ∙ ap (λ (z : List Atom). within2 ++ z) (one_row s p q apart on ds xb xs rest yb ys rest2 (back_atoms s within xs hx) (back_atoms s within2 ys hy) r.1)

-- ---- trees

abbrev any_names : Bool → Bool → ℕ → Terms
any_names nodes windows n = record { limit = n; lax = true; nodes = nodes; windows = windows }

-- a well-typed tree over the table, where a lazy field may hold a node, or a window
record Over (s : Tables) (h : Held) (t : Tree) (nodes windows : Bool) : Type 0 where
  has : list_all (has_atom s) (atoms h t) ≡ true
  typed : typed t ≡ true
  folded : nodes ≡ false → folded t ≡ true
  whole : windows ≡ false → is_whole t ≡ true

fields_row : (s : Tables) (h : Held) (k : Kind) (ds : Data) (nodes windows : Bool) → Over s h (branch k ds) nodes windows → Spelling s (any_names nodes windows (depth_in ds)) (dues (fields k) 0 false ++ []) (spelled_fields s h (fields k) ds) (atoms_of_fields h (fields k) ds) []
fields_row s h k ds nodes windows over =
    let known : KnownIn (any_names nodes windows (depth_in ds)) h (fields k) 0 false ds = record { fits = over.typed; named = λ e. absurd cc; eager = λ e. absurd cc; deep = omega arith; folded = over.folded; whole = over.whole } in
    trimmed s (any_names nodes windows (depth_in ds)) _ _ _ [] (row_fields s (any_names nodes windows (depth_in ds)) h ds (fields k) 0 false known [] [] [] [] (ends []))

one_spelling : (s : Tables) (h g : Held) (t u : Tree) (o c p q : Bool) → (o && q) ≡ false → (c && p) ≡ false → Over s h t o c → Over s g u p q → spelled s h t ≡ spelled s g u → atoms h t ≡ atoms g u
one_spelling s h g (branch k ds) (branch j es) o c p q apart on x y e =
    let r = varnum-prefix_free (kind_place s k) (kind_place s j) (spelled_fields s h (fields k) ds) (spelled_fields s g (fields j) es) e in
    let same = one_kind s k j (first_atom s (kind k) (atoms_of_fields h (fields k) ds) x.has) (first_atom s (kind j) (atoms_of_fields g (fields j) es) y.has) r.0 in
    let row = fields_row s g j es p q y in
    let others = one_row s (any_names o c (depth_in ds)) (any_names p q (depth_in es)) apart on (dues (fields k) 0 false ++ []) _ _ (fields_row s h k ds o c x) (spelled_fields s g (fields j) es) (atoms_of_fields g (fields j) es)
    (subst (λ (i : Kind). Spelling s (any_names p q (depth_in es)) (dues (fields i) 0 false ++ []) (spelled_fields s g (fields j) es) (atoms_of_fields g (fields j) es) []) (sym same) row)
    (other_atoms s (kind k) (atoms_of_fields h (fields k) ds) x.has) (other_atoms s (kind j) (atoms_of_fields g (fields j) es) y.has) r.1 in
    ap (λ (i : Kind). kind i ∷ atoms_of_fields h (fields k) ds) same ∙ ap (λ (z : List Atom). kind j ∷ z) others

-- whole trees
pub one_tree : (s : Tables) (h g : Held) (t u : Tree) → list_all (has_atom s) (atoms h t) ≡ true → list_all (has_atom s) (atoms g u) ≡ true → typed t ≡ true → typed u ≡ true → is_whole t ≡ true → is_whole u ≡ true → spelled s h t ≡ spelled s g u → atoms h t ≡ atoms g u
one_tree s h g t u ht hu tt1 tu wt wu e =
    one_spelling s h g t u true false true false refl refl (record { has = ht; typed = tt1; folded = λ n. absurd cc; whole = λ n. wt }) (record { has = hu; typed = tu; folded = λ n. absurd cc; whole = λ n. wu }) e

-- a tree without windows whose lazy contents would be windows is the only one with its spelling
pub one_eager_tree : (s : Tables) (h g : Held) (t u : Tree) → list_all (has_atom s) (atoms h t) ≡ true → list_all (has_atom s) (atoms g u) ≡ true → typed t ≡ true → typed u ≡ true → is_whole t ≡ true → folded t ≡ true → spelled s h t ≡ spelled s g u → atoms h t ≡ atoms g u
one_eager_tree s h g t u ht hu tt1 tu wt ft e =
    one_spelling s h g t u false false true true refl refl (record { has = ht; typed = tt1; folded = λ n. ft; whole = λ n. wt }) (record { has = hu; typed = tu; folded = λ n. absurd cc; whole = λ n. absurd cc }) e

-- so are trees whose lazy contents are windows
pub one_folded_tree : (s : Tables) (h g : Held) (t u : Tree) → list_all (has_atom s) (atoms h t) ≡ true → list_all (has_atom s) (atoms g u) ≡ true → typed t ≡ true → typed u ≡ true → folded t ≡ true → folded u ≡ true → spelled s h t ≡ spelled s g u → atoms h t ≡ atoms g u
one_folded_tree s h g t u ht hu tt1 tu ft fu e =
    one_spelling s h g t u false true false true refl refl (record { has = ht; typed = tt1; folded = λ n. ft; whole = λ n. absurd cc }) (record { has = hu; typed = tu; folded = λ n. fu; whole = λ n. absurd cc }) e
