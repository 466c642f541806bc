-- The atoms of dues are read again from their spelling.
use Rattle.std.proofs.Common.{ℕ, zero, suc, ◌+◌, ◌-◌, ◌^◌, ◌<◌, ◌≤◌, ◌≡◌, Bool, true, false, not, ◌&&◌, ◌||◌, cond, ltb, eqb, List, [], ◌∷◌, ◌++◌, length, take, drop, Option, Some, None, Ok, refl, sym, ap, subst, ◌∙◌, arith, slice_get, slice_index, slice_range, append_assoc}
use Rattle.std.specs.Prelude.{nat_le}
use Rattle.std.specs.List.{list_all, list_any, position_from}
use Rattle.std.specs.Option.{is_some, unwrap_or}
use Rattle.std.specs.Int.{w64, from_be_bytes, to_be_bytes}
use Rattle.std.proofs.lemmas.Bool.{ltb-true, lt-ltb, le-ltb}
use Rattle.std.proofs.lemmas.Bool.Decides.{nat_tests}
use Rattle.std.proofs.lemmas.List.{take_at, drop_at, length-append}
use Rattle.std.proofs.lemmas.List.Folds.{list_all-append}
use Rattle.std.proofs.lemmas.Nat.{from_be_bytes-to_be_bytes_8}
use Rattle.std.proofs.lemmas.Option.{slice_get_within}
use Rattle.var_numbers.specs.Pattern.{pattern}
use Rattle.var_numbers.specs.Varnum.{varnum}
use Rattle.var_numbers.proofs.PatternLemmas.{pattern-zero, parts_of}
use Rattle.var_numbers.proofs.RangeLemmas.{range-length, only-spelled}
use Rattle.bast_schema.specs.declared.kind.EnumId.{EnumId}
use Rattle.bast_schema.specs.declared.kind.FieldType.{FieldType}
use Rattle.bast_schema.specs.declared.kind.FieldType.TheVariants as field
use Rattle.bast_schema.specs.declared.kind.Kind.{Kind}
use Rattle.bast_schema.specs.declared.kind.Kind.TheVariants.{Null}
use Rattle.bast_schema.specs.declared.kind.Union.{Union}
use Rattle.bast_schema.specs.Choices.{choice_of_text}
use Rattle.bast_schema.specs.Fields.{fields, has_lazy}
use Rattle.bast_schema.specs.Kinds.{counted, same_kind}
use Rattle.bast_schema.specs.Tree.{Datum, flag, index, whole, name, no_name, choice, window, item_type}
use Rattle.bast_schema.specs.Unions.{allowed}
use Rattle.bast_schema.proofs.Both.{and_first, and_second}
use Rattle.bast_schema.proofs.Distinct.{kind_at_place, few_kinds}
use Rattle.string_table.specs.Entries.{place_in, is_same}
use Rattle.string_table.proofs.Laws.{slice_get-place_in}
use Rattle.string_table.proofs.Search.{position-from}
use Rattle.container.specs.Answers.{◌>>=◌}
use Rattle.container.specs.Atoms as atom
use Rattle.container.specs.Atoms.{Atom, kind, text}
use Rattle.container.specs.InFile.{has_atom}
use Rattle.container.specs.SpelledAtom.{spelled_atom}
use Rattle.container.specs.Tables.{Tables, kind_place, text_place}
use Rattle.container.proofs.Ranges.{range_split}
use Rattle.tree_decoder.specs.Dues.{Due, dues, times, below, children, taken, atom_of}
use Rattle.tree_decoder.specs.Left.{puts}
use Rattle.tree_decoder.specs.Numbers.{number_from, judged, kind_of_number, kind_at, count_at, name_of, label_of, variant_of, choice_at, flag_at, numbered, leaf_at, is_leaf}
use Rattle.tree_decoder.specs.Range.{Range, IsSound, left}
use Rattle.tree_decoder.specs.Windows.{windows_at}
use Rattle.tree_decoder.proofs.EagerWhole.{not_true}
use Rattle.tree_decoder.proofs.Nodes.{kind_atom, count_atom}
use Rattle.tree_decoder.proofs.Single.{leaf_atom, first_byte, whole_here, is_ok, range_drop, left_length}

-- ---- parts of the bytes

-- a part lies within the range
pub part_within : (r : Range) (part rest : List ℕ) (at : ℕ) → IsSound r → at ≤ r.end → left r at ≡ part ++ rest → at + length part ≤ r.end
part_within r part rest at sound order e =
    let whole : length (left r at) ≡ r.end - at = left_length r at sound order in
    let parts : length (left r at) ≡ length part + length rest = ap length e ∙ length-append part rest in
    omega arith

-- what begins with a part goes on behind it
pub part_rest : (r : Range) (part rest : List ℕ) (at : ℕ) → IsSound r → at ≤ r.end → left r at ≡ part ++ rest → left r (at + length part) ≡ rest
part_rest r part rest at sound order e =
    sym (range_drop r.tape at (length part) r.end (part_within r part rest at sound order e)) ∙ ap (drop (length part)) e ∙ drop_at part rest (length part) refl

part_first : (r : Range) (part rest : List ℕ) (at : ℕ) → IsSound r → at ≤ r.end → left r at ≡ part ++ rest → slice_range r.tape at (at + length part) ≡ part
part_first r part rest at sound order e =
    let far : at + length part ≤ r.end = part_within r part rest at sound order e in
    let within : r.end ≤ length r.tape = sound.within in
    let n : length (slice_range r.tape at (at + length part)) ≡ length part = range-length r.tape at (at + length part) (omega arith) (omega arith) ∙ (let k : at + length part - at ≡ length part = omega arith in k) in
    sym (take_at (slice_range r.tape at (at + length part)) (left r (at + length part)) (length part) n)
    ∙ ap (take (length part)) (sym (range_split r.tape at (at + length part) r.end (omega arith) far) ∙ e)
    ∙ take_at part rest (length part) refl

number_again : (r : Range) (at n : ℕ) (rest : List ℕ) → n < 2 ^ 32 → left r at ≡ varnum n ++ rest → number_from r at ≡ is_ok (n, at + length (varnum n))
number_again r at n rest lt e = only-spelled (left r at) at n rest lt e

-- ---- kinds and texts that are in the tables

any_first : {A : Type 0} (p : A → Bool) (i : ℕ) (xs : List A) (b : Bool) → (b || list_any p xs) ≡ true → (list_any p xs ≡ true → (n : ℕ) × (position_from p (i + 1) xs ≡ Some n)) → (n : ℕ) × (cond b (Some i) (position_from p (i + 1) xs) ≡ Some n)
any_first p i xs true e rest = (i, refl)
any_first p i xs false e rest = rest e

pub any_place : {A : Type 0} (p : A → Bool) (i : ℕ) (xs : List A) → list_any p xs ≡ true → (n : ℕ) × (position_from p i xs ≡ Some n)
any_place p i [] e = absurd cc
any_place p i (x ∷ xs) e = any_first p i xs (p x) e (any_place p (i + 1) xs)

pub kind_there : (s : Tables) (k : Kind) → has_atom s (kind k) ≡ true → slice_get s.kinds (kind_place s k) ≡ Some k
kind_there s k e =
    let found = any_place (λ j. same_kind j k) 0 s.kinds e in
    let same : found.0 ≡ kind_place s k = sym (ap (λ (o : Option ℕ). unwrap_or o (length s.kinds)) found.1) in
    ap (slice_get s.kinds) (sym same) ∙ kind_at_place s.kinds k found.0 found.1

pub text_there : (s : Tables) (entry : Option (List ℕ)) → has_atom s (text entry) ≡ true → slice_get s.texts (text_place s entry) ≡ Some entry
text_there s entry e =
    let found = any_place (is_same entry) 0 s.texts e in
    let place : place_in s.texts entry ≡ Some found.0 = position-from (is_same entry) s.texts ∙ found.1 in
    let same : found.0 ≡ text_place s entry = sym (ap (λ (o : Option ℕ). unwrap_or o (length s.texts)) place) in
    ap (slice_get s.texts) (sym same) ∙ slice_get-place_in s.texts entry found.0 place

pub record HasKind (r : Range) (k : Kind) : Type 0 where
  pub there : slice_get r.tables.kinds (kind_place r.tables k) ≡ Some k
  pub small : kind_place r.tables k < 2 ^ 32

has_kind : (r : Range) (k : Kind) → IsSound r → list_any (λ j. same_kind j k) r.tables.kinds ≡ true → HasKind r k
has_kind r k sound e =
    let there = kind_there r.tables k e in
    let lt : kind_place r.tables k < length r.tables.kinds = slice_get_within r.tables.kinds (kind_place r.tables k) k there in
    let few : length r.tables.kinds ≤ 82 = few_kinds r.tables.kinds sound.kinds in
    record { there = there; small = omega arith }

pub record HasText (r : Range) (entry : Option (List ℕ)) : Type 0 where
  pub there : slice_get r.tables.texts (text_place r.tables entry) ≡ Some entry
  pub small : text_place r.tables entry < 2 ^ 32

has_text : (r : Range) (entry : Option (List ℕ)) → IsSound r → list_any (is_same entry) r.tables.texts ≡ true → HasText r entry
has_text r entry sound e =
    let there = text_there r.tables entry e in
    let lt : text_place r.tables entry < length r.tables.texts = slice_get_within r.tables.texts (text_place r.tables entry) entry there in
    let few : length r.tables.texts < 2 ^ 32 = sound.few in
    record { there = there; small = omega arith }

pub first_atom : (s : Tables) (a : Atom) (xs : List Atom) → list_all (has_atom s) (a ∷ xs) ≡ true → has_atom s a ≡ true
first_atom s a xs e = and_first (has_atom s a) (list_all (has_atom s) xs) e

pub other_atoms : (s : Tables) (a : Atom) (xs : List Atom) → list_all (has_atom s) (a ∷ xs) ≡ true → list_all (has_atom s) xs ≡ true
other_atoms s a xs e = and_second (has_atom s a) (list_all (has_atom s) xs) e

pub front_atoms : (s : Tables) (xs ys : List Atom) → list_all (has_atom s) (xs ++ ys) ≡ true → list_all (has_atom s) xs ≡ true
front_atoms s xs ys e = and_first (list_all (has_atom s) xs) (list_all (has_atom s) ys) (sym (list_all-append (has_atom s) xs ys) ∙ e)

pub back_atoms : (s : Tables) (xs ys : List Atom) → list_all (has_atom s) (xs ++ ys) ≡ true → list_all (has_atom s) ys ≡ true
back_atoms s xs ys e = and_second (list_all (has_atom s) xs) (list_all (has_atom s) ys) (sym (list_all-append (has_atom s) xs ys) ∙ e)

-- ---- values with no parts

-- what is read where an atom of a due is spelled: what it puts in the due's place, and the place behind it
abbrev Again : Range → FieldType → ℕ → Bool → ℕ → Atom → List Due → Type 0
Again r t d w at a es = (ws : List (ℕ × ℕ)) × (atom_of r t d w at ≡ is_ok (taken es ws (at + length (spelled_atom r.tables a))))

same_some : (ds es : List Due) → Some ds ≡ Some es → ds ≡ es
same_some ds es e = cc

if_some : (b : Bool) (ds es : List Due) → cond b (Some ds) None ≡ Some es → (b ≡ true) × (ds ≡ es)
if_some true ds es e = (refl, cc)
if_some false ds es e = absurd cc

if_none : (b : Bool) (ds es : List Due) → cond b None (Some ds) ≡ Some es → (b ≡ false) × (ds ≡ es)
if_none true ds es e = absurd cc
if_none false ds es e = (refl, cc)

leaf_again : (r : Range) (t : FieldType) (d : ℕ) (w : Bool) (at : ℕ) (a : Atom) (es : List Due) (v : Datum) → is_leaf t ≡ true → [] ≡ es → leaf_at r t at ≡ is_ok (v, at + length (spelled_atom r.tables a)) → Again r t d w at a es
leaf_again r t d w at a es v leaf none e =
    subst (λ (ds : List Due). Again r t d w at a ds) none (windows_at v, leaf_atom r t d w at (Ok (v, at + length (spelled_atom r.tables a))) leaf e)

name_again : (at n next : ℕ) (o : Option (Option (List ℕ))) (entry : Option (List ℕ)) → o ≡ Some entry → is_some entry ≡ true → name_of at n next o ≡ is_ok (name n, next)
name_again at n next o (Some t) e some = rw e refl
name_again at n next o None e some = cc

label_again : (at n next : ℕ) (o : Option (Option (List ℕ))) (entry : Option (List ℕ)) → o ≡ Some entry → (v : Datum) × (label_of at n next o ≡ is_ok (v, next))
label_again at n next o (Some t) e = (name n, rw e refl)
label_again at n next o None e = (no_name, rw e refl)

choice_again : (set : EnumId) (at next : ℕ) (o : Option (Option (List ℕ))) (bytes : List ℕ) (c : Option ℕ) → o ≡ Some (Some bytes) → choice_of_text set bytes ≡ c → is_some c ≡ true → (v : Datum) × (choice_at set at next o ≡ is_ok (v, next))
choice_again set at next o bytes (Some c) e found some = (choice c, ap (choice_at set at next) e ∙ ap (variant_of at next) found)
choice_again set at next o bytes None e found some = cc

-- by the number that is spelled
by_number : (r : Range) (t : FieldType) (at n : ℕ) (v : Datum) (rest : List ℕ) → n < 2 ^ 32 → left r at ≡ varnum n ++ rest
    → leaf_at r t at ≡ (number_from r at >>= λ x. numbered r t at x.0 x.1) → numbered r t at n (at + length (varnum n)) ≡ is_ok (v, at + length (varnum n)) → leaf_at r t at ≡ is_ok (v, at + length (varnum n))
by_number r t at n v rest lt e reads is = reads ∙ ap (λ p. p >>= λ x. numbered r t at x.0 x.1) (number_again r at n rest lt e) ∙ is

lazy_again : (r : Range) (u : Union) (at : ℕ) (bytes rest : List ℕ) → IsSound r → at ≤ r.end → left r at ≡ (varnum (length bytes) ++ bytes) ++ rest → (v : Datum) × (leaf_at r (field.Lazy u) at ≡ is_ok (v, at + length (varnum (length bytes) ++ bytes)))
lazy_again r u at bytes rest sound order e =
    let next = at + length (varnum (length bytes)) in
    let size : length (varnum (length bytes) ++ bytes) ≡ length (varnum (length bytes)) + length bytes = length-append (varnum (length bytes)) bytes in
    let far : at + length (varnum (length bytes) ++ bytes) ≤ r.end = part_within r (varnum (length bytes) ++ bytes) rest at sound order e in
    let inside : r.end ≤ length r.tape = sound.within in
    let short : length r.tape ≤ 8388608 = sound.short in
    let read = number_again r at (length bytes) (bytes ++ rest) (omega arith) (e ∙ append_assoc (varnum (length bytes)) bytes rest) in
    let fits_in : ltb r.end (at + length (varnum (length bytes)) + length bytes) ≡ false = le-ltb _ _ (omega arith) in
    let to : at + length (varnum (length bytes)) + length bytes ≡ at + length (varnum (length bytes) ++ bytes) = omega arith in
    (window next (next + length bytes), ap (λ p. p >>= λ x. numbered r (field.Lazy u) at x.0 x.1) read ∙ rw fits_in (ap (λ (k : ℕ). is_ok (window next (next + length bytes), k)) to))

-- ---- by bytes

flag_is : (r : Range) (at : ℕ) (b : Bool) → at < r.end → slice_index r.tape at ≡ cond b 1 0 → flag_at r at ≡ is_ok (flag b, at + 1)
unfolding flag_at
flag_is r at true lt same = rw (lt-ltb at r.end lt, same) refl
flag_is r at false lt same = rw (lt-ltb at r.end lt, same) refl

flag_again : (r : Range) (at : ℕ) (b : Bool) (rest : List ℕ) → IsSound r → at ≤ r.end → left r at ≡ cond b 1 0 ∷ rest → flag_at r at ≡ is_ok (flag b, at + 1)
flag_again r at b rest sound order e =
    let far : at + 1 ≤ r.end = part_within r (cond b 1 0 ∷ []) rest at sound order e in
    let same : slice_index r.tape at ∷ left r (at + 1) ≡ cond b 1 0 ∷ rest = sym (first_byte r at sound (omega arith)) ∙ e in
    flag_is r at b (omega arith) cc

pub pattern_small : (n : ℕ) → n < 2 ^ 53 → pattern n < 2 ^ 64
pattern_small zero lt = rw pattern-zero (omega arith)
pattern_small (suc n) lt =
    let p = parts_of (suc n) (omega arith) lt in
    let small = p.small in
    let biased = p.biased in
    omega arith

whole_again : (r : Range) (at n : ℕ) (rest : List ℕ) → IsSound r → at ≤ r.end → n < 2 ^ 53 → left r at ≡ to_be_bytes w64 (pattern n) ++ rest → leaf_at r field.Whole at ≡ is_ok (whole n, at + 8)
whole_again r at n rest sound order lt e =
    let far : at + 8 ≤ r.end = part_within r (to_be_bytes w64 (pattern n)) rest at sound order e in
    let bytes : slice_range r.tape at (at + 8) ≡ to_be_bytes w64 (pattern n) = part_first r (to_be_bytes w64 (pattern n)) rest at sound order e in
    let bits : pattern n ≡ from_be_bytes w64 (slice_range r.tape at (at + 8)) = sym (ap (from_be_bytes w64) bytes ∙ from_be_bytes-to_be_bytes_8 (pattern n) (pattern_small n lt)) in
    whole_here r at (pattern n) n far bits lt refl

-- ---- kinds and counts

judged_again : (u : Union) (d : ℕ) (w : Bool) (at next : ℕ) (k : Kind) → (allowed u k && not (w && has_lazy k)) ≡ true → not (counted k && ltb 512 d) ≡ true → judged u d w at next k ≡ is_ok (Some k, next)
judged_again u d w at next k may shallow =
    rw (and_first (allowed u k) (not (w && has_lazy k)) may, not_true (w && has_lazy k) (and_second (allowed u k) (not (w && has_lazy k)) may), not_true (counted k && ltb 512 d) shallow) refl

-- a kind, or none where it is that of an absent node
abbrev Chosen : Union → Bool → ℕ → Bool → ℕ → ℕ → Kind → List Due → Type 0
Chosen u optional d w at next k es = (o : Option Kind) × (kind_of_number u optional d w at next (Some k) ≡ is_ok (o, next)) × (children o d w ≡ es)

kind_chosen : (u : Union) (d : ℕ) (w : Bool) (at next : ℕ) (k : Kind) (es : List Due) → puts (field.Node u) d w (kind k) ≡ Some es → not (counted k && ltb 512 d) ≡ true → Chosen u false d w at next k es
kind_chosen u d w at next k es e shallow =
    let g = if_some (allowed u k && not (w && has_lazy k)) (dues (fields k) (below k d) w) es e in
    (Some k, judged_again u d w at next k g.0 shallow, g.1)

optional_chosen : (u : Union) (d : ℕ) (w : Bool) (at next : ℕ) (k : Kind) (es : List Due) (b : Bool) → same_kind k Null ≡ b → cond b (Some []) (puts (field.Node u) d w (kind k)) ≡ Some es → not (counted k && ltb 512 d) ≡ true → Chosen u true d w at next k es
optional_chosen u d w at next k es true is e shallow = (None, rw is refl, same_some [] es e)
optional_chosen u d w at next k es false is e shallow = let c = kind_chosen u d w at next k es e shallow in (c.0, rw is c.1, c.2)

kind_again : (r : Range) (u : Union) (optional : Bool) (d : ℕ) (w : Bool) (at : ℕ) (k : Kind) (es : List Due) (rest : List ℕ) → HasKind r k → Chosen u optional d w at (at + length (varnum (kind_place r.tables k))) k es → left r at ≡ varnum (kind_place r.tables k) ++ rest → Again r (item_type u optional) d w at (kind k) es
unfolding kind_at
kind_again r u optional d w at k es rest has o e =
    let next = at + length (varnum (kind_place r.tables k)) in
    let read = ap (λ p. p >>= λ x. kind_of_number u optional d w at x.1 (slice_get r.tables.kinds x.0)) (number_again r at (kind_place r.tables k) rest has.small e) ∙ ap (kind_of_number u optional d w at next) has.there ∙ o.1 in
    ([], kind_atom r u optional d w at (is_ok (o.0, next)) read ∙ ap (λ (ds : List Due). is_ok (taken ds [] next)) o.2)

count_again : (r : Range) (filled : Bool) (at n : ℕ) (rest : List ℕ) → n < 2 ^ 32 → (filled && eqb n 0) ≡ false → left r at ≡ varnum n ++ rest → count_at r filled at ≡ is_ok (n, at + length (varnum n))
unfolding count_at
count_again r filled at n rest lt enough e = rw (number_again r at n rest lt e, enough) refl

le_is : (m n : ℕ) → nat_le m n ≡ true → m ≤ n
le_is m n e = grind (arith, nat_tests)

list_again : (r : Range) (u : Union) (holes filled : Bool) (d : ℕ) (w : Bool) (at n : ℕ) (es : List Due) (rest : List ℕ) → IsSound r → at ≤ r.end → puts (field.List u holes filled) d w (atom.count n) ≡ Some es → nat_le n (length rest) ≡ true → left r at ≡ varnum n ++ rest → Again r (field.List u holes filled) d w at (atom.count n) es
list_again r u holes filled d w at n es rest sound order e few is =
    let g = if_none (filled && eqb n 0) (dues (times n (item_type u holes)) d w) es e in
    let whole : length (left r at) ≡ r.end - at = left_length r at sound order in
    let parts : length (left r at) ≡ length (varnum n) + length rest = ap length is ∙ length-append (varnum n) rest in
    let inside : r.end ≤ length r.tape = sound.within in
    let short : length r.tape ≤ 8388608 = sound.short in
    let many : n ≤ length rest = le_is n (length rest) few in
    let next = at + length (varnum n) in
    ([], count_atom r u holes filled d w at (is_ok (n, next)) (count_again r filled at n rest (omega arith) g.0 is) ∙ ap (λ (ds : List Due). is_ok (taken ds [] next)) g.1)

-- ---- all of them

-- a node is not too deep, a count is no larger than the bytes behind it, and a window is allowed
abbrev pub sits : ℕ → Bool → ℕ → ℕ → Atom → Bool
sits limit windows d size (kind k) = not (counted k && ltb limit d)
sits limit windows d size (atom.count n) = nat_le n size
sits limit windows d size (atom.window bytes) = windows
sits limit windows d size _ = true

pub again : (r : Range) (t : FieldType) (d : ℕ) (w : Bool) (at : ℕ) (a : Atom) (es : List Due) (rest : List ℕ) → IsSound r → at ≤ r.end → puts t d w a ≡ Some es → sits 512 true d (length rest) a ≡ true → has_atom r.tables a ≡ true → left r at ≡ spelled_atom r.tables a ++ rest → Again r t d w at a es
again r (field.Node u) d w at (kind k) es rest sound order p fine has e = kind_again r u false d w at k es rest (has_kind r k sound has) (kind_chosen u d w at _ k es p fine) e
again r (field.Optional u) d w at (kind k) es rest sound order p fine has e = kind_again r u true d w at k es rest (has_kind r k sound has) (optional_chosen u d w at _ k es (same_kind k Null) refl p fine) e
again r (field.List u holes filled) d w at (atom.count n) es rest sound order p fine has e = list_again r u holes filled d w at n es rest sound order p fine e
again r field.Bool d w at (atom.flag b) es rest sound order p fine has e = leaf_again r field.Bool d w at (atom.flag b) es (flag b) refl (same_some [] es p) (flag_again r at b rest sound order e)
again r field.Index d w at (atom.index n) es rest sound order p fine has e =
    let g = if_some (ltb n 4294967296) [] es p in
    leaf_again r field.Index d w at (atom.index n) es (index n) refl g.1 (by_number r field.Index at n (index n) rest (ltb-true _ _ g.0) e refl refl)
again r field.Whole d w at (atom.whole n) es rest sound order p fine has e =
    let g = if_some (ltb n 9007199254740992) [] es p in
    leaf_again r field.Whole d w at (atom.whole n) es (whole n) refl g.1 (whole_again r at n rest sound order (ltb-true _ _ g.0) e)
again r field.Text d w at (text entry) es rest sound order p fine has e =
    let g = if_some (is_some entry) [] es p in
    let there = has_text r entry sound has in
    leaf_again r field.Text d w at (text entry) es _ refl g.1 (by_number r field.Text at _ _ rest there.small e refl (name_again at _ _ _ entry there.there g.0))
again r field.Name d w at (text entry) es rest sound order p fine has e =
    let g = if_some (is_some entry) [] es p in
    let there = has_text r entry sound has in
    leaf_again r field.Name d w at (text entry) es _ refl g.1 (by_number r field.Name at _ _ rest there.small e refl (name_again at _ _ _ entry there.there g.0))
again r field.Label d w at (text entry) es rest sound order p fine has e =
    let there = has_text r entry sound has in
    let v = label_again at (text_place r.tables entry) (at + length (varnum (text_place r.tables entry))) _ entry there.there in
    leaf_again r field.Label d w at (text entry) es v.0 refl (same_some [] es p) (by_number r field.Label at _ v.0 rest there.small e refl v.1)
again r (field.Choice set) d w at (text (Some bytes)) es rest sound order p fine has e =
    let g = if_some (is_some (choice_of_text set bytes)) [] es p in
    let there = has_text r (Some bytes) sound has in
    let v = choice_again set at (at + length (varnum (text_place r.tables (Some bytes)))) _ bytes (choice_of_text set bytes) there.there refl g.0 in
    leaf_again r (field.Choice set) d w at (text (Some bytes)) es v.0 refl g.1 (by_number r (field.Choice set) at _ v.0 rest there.small e refl v.1)
again r (field.Lazy u) d w at (atom.window bytes) es rest sound order p fine has e =
    let v = lazy_again r u at bytes rest sound order e in leaf_again r (field.Lazy u) d w at (atom.window bytes) es v.0 refl (same_some [] es p) v.1
again r _ d w at _ es rest sound order p fine has e = absurd cc
