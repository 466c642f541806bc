-- What is shown of the lines of fields and of items, one after another, and at depths that are indented alike.
use Rattle.std.proofs.Common.{ℕ, List, [], ◌∷◌, ◌++◌, ◌≡◌, ◌<◌, ◌≤◌, ◌+◌, ◌*◌, min, replicate, zero, suc, length, get_or, drop, refl, ap, sym, ◌∙◌, arith, add-one, append_assoc, true, Option, Some, codes, decimal}
use Rattle.std.specs.List.{slice_get}
use Rattle.std.proofs.lemmas.Grind.{flat_map-append}
use Rattle.std.proofs.lemmas.Option.{slice_get-get_or}
use Rattle.bast_schema.specs.declared.kind.FieldType.{FieldType}
use Rattle.bast_schema.specs.declared.kind.Kind.{Kind}
use Rattle.bast_schema.specs.declared.node.Value.{Value}
use Rattle.bast_schema.specs.Counts.{is_whole_at, is_whole_in}
use Rattle.bast_schema.specs.Fields.{fields, field_names}
use Rattle.bast_schema.specs.Kinds.{kind_name}
use Rattle.bast_schema.specs.Tree.{Tree, branch, Datum, child, absent, listed as list_of, flag, index, whole, name, no_name, choice, window, Data, none, more, count, fit, fits}
use Rattle.bast_schema.specs.View.{datum, data_of}
use Rattle.bast_schema.proofs.Both.{and_first, and_second}
use Rattle.bast_schema.proofs.Lists.{count_data_of, count_fit, data_of_drop, value_at_data_of}
use Rattle.bast_schema.proofs.Typed.{fits_at}
use Rattle.js_printer.specs.Listing.{Line, line, shown, shown_all, node_lines, fields_lines, field_lines, items_lines, item_lines, value_text}
use Rattle.js_printer.specs.Names.{is_named_at, is_named_in}

-- the lines of two lists, one list after the other
pub shown_append : (xs ys : List Line) → shown_all (xs ++ ys) ≡ shown_all xs ++ shown_all ys
shown_append xs ys = flat_map-append shown xs ys

both : (xs ys us vs : List Line) → shown_all xs ≡ shown_all us → shown_all ys ≡ shown_all vs → shown_all (xs ++ ys) ≡ shown_all (us ++ vs)
both xs ys us vs p q = shown_append xs ys ∙ ap (λ x. x ++ shown_all ys) p ∙ ap (λ x. shown_all us ++ x) q ∙ sym (shown_append us vs)

-- depths that are indented alike show the same
line_same : (d e : ℕ) (x : List ℕ) (ls : List Line) → min d 16 ≡ min e 16 → shown_all (line d x ∷ ls) ≡ shown_all (line e x ∷ ls)
line_same d e x ls h = ap (λ m. (replicate (2 * m) 32 ++ x ++ codes "\n") ++ shown_all ls) h

mutual
  pub node_same : (s : List (Option (List ℕ))) (d e : ℕ) (head : List ℕ) (t : Tree) → min d 16 ≡ min e 16 → shown_all (node_lines s d head t) ≡ shown_all (node_lines s e head t)
  node_same s d e head (branch k ds) h =
      line_same d e (head ++ kind_name k) (fields_lines s (d + 1) (fields k) (field_names k) ds) h
      ∙ ap (λ x. shown (line e (head ++ kind_name k)) ++ x) (fields_same s (d + 1) (e + 1) (fields k) (field_names k) ds (omega arith))

  pub fields_same : (s : List (Option (List ℕ))) (d e : ℕ) (ts : List FieldType) (ns : List (List ℕ)) (ds : Data) → min d 16 ≡ min e 16 → shown_all (fields_lines s d ts ns ds) ≡ shown_all (fields_lines s e ts ns ds)
  fields_same s d e [] ns ds h = refl
  fields_same s d e (t ∷ ts) [] ds h = refl
  fields_same s d e (t ∷ ts) (n ∷ ns) none h = refl
  fields_same s d e (t ∷ ts) (n ∷ ns) (more v ds) h =
      both (field_lines s d t n v) (fields_lines s d ts ns ds) (field_lines s e t n v) (fields_lines s e ts ns ds) (field_same s d e t n v h) (fields_same s d e ts ns ds h)

  pub field_same : (s : List (Option (List ℕ))) (d e : ℕ) (t : FieldType) (n : List ℕ) (v : Datum) → min d 16 ≡ min e 16 → shown_all (field_lines s d t n v) ≡ shown_all (field_lines s e t n v)
  field_same s d e t n (child c) h = node_same s d e (n ++ codes ": ") c h
  field_same s d e t n absent h = line_same d e (n ++ codes ": none") [] h
  field_same s d e t n (list_of ds) h =
      line_same d e (n ++ codes ": [" ++ decimal (count ds) ++ codes "]") (items_lines s (d + 1) ds) h
      ∙ ap (λ x. shown (line e (n ++ codes ": [" ++ decimal (count ds) ++ codes "]")) ++ x) (items_same s (d + 1) (e + 1) ds (omega arith))
  field_same s d e t n (flag b) h = line_same d e (n ++ codes " = " ++ value_text s t (flag b)) [] h
  field_same s d e t n (index i) h = line_same d e (n ++ codes " = " ++ value_text s t (index i)) [] h
  field_same s d e t n (whole i) h = line_same d e (n ++ codes " = " ++ value_text s t (whole i)) [] h
  field_same s d e t n (name i) h = line_same d e (n ++ codes " = " ++ value_text s t (name i)) [] h
  field_same s d e t n no_name h = line_same d e (n ++ codes " = " ++ value_text s t no_name) [] h
  field_same s d e t n (choice i) h = line_same d e (n ++ codes " = " ++ value_text s t (choice i)) [] h
  field_same s d e t n (window from to) h = line_same d e (n ++ codes " = " ++ value_text s t (window from to)) [] h

  pub items_same : (s : List (Option (List ℕ))) (d e : ℕ) (ds : Data) → min d 16 ≡ min e 16 → shown_all (items_lines s d ds) ≡ shown_all (items_lines s e ds)
  items_same s d e none h = refl
  items_same s d e (more v ds) h =
      both (item_lines s d v) (items_lines s d ds) (item_lines s e v) (items_lines s e ds) (item_same s d e v h) (items_same s d e ds h)

  pub item_same : (s : List (Option (List ℕ))) (d e : ℕ) (v : Datum) → min d 16 ≡ min e 16 → shown_all (item_lines s d v) ≡ shown_all (item_lines s e v)
  item_same s d e (child c) h = node_same s d e [] c h
  item_same s d e _ h = line_same d e (codes "none") [] h

-- a depth that stands still at the end of its type is indented as the depth one deeper
pub saturated : (d m : ℕ) → 16 ≤ m → min (min (d + 1) m) 16 ≡ min (d + 1) 16
saturated d m h = omega arith

fields_step : (s : List (Option (List ℕ))) (d : ℕ) (ts : List FieldType) (ns : List (List ℕ)) (vs : List Value) (i : ℕ) (t : FieldType) (n : List ℕ) (v : Value)
    → i < length ts → slice_get ns i ≡ Some n → i < length vs → v ≡ get_or vs i v
    → fields_lines s d (drop i ts) (drop i ns) (data_of (drop i vs))
    ≡ field_lines s d (get_or ts i t) n (datum v) ++ fields_lines s d (drop (suc i) ts) (drop (suc i) ns) (data_of (drop (suc i) vs))
fields_step s d [] ns vs i t n v less named within is = absurd (omega arith)
fields_step s d (u ∷ ts) [] vs i t n v less named within is = cc
fields_step s d (u ∷ ts) (m ∷ ns) [] i t n v less named within is = absurd (omega arith)
fields_step s d (u ∷ ts) (m ∷ ns) (w ∷ vs) zero t n v less named within is =
    let same : m ≡ n = cc
    in ap (λ x. field_lines s d u x (datum w) ++ fields_lines s d ts ns (data_of vs)) same
    ∙ ap (λ x. field_lines s d u n (datum x) ++ fields_lines s d ts ns (data_of vs)) (sym is)
fields_step s d (u ∷ ts) (m ∷ ns) (w ∷ vs) (suc i) t n v less named within is = fields_step s d ts ns vs i t n v (omega arith) named (omega arith) is

-- what is shown from a field on is the field and what is behind it
pub fields_drop : (s : List (Option (List ℕ))) (d : ℕ) (ts : List FieldType) (ns : List (List ℕ)) (vs : List Value) (i : ℕ) (t : FieldType) (n : List ℕ) (v : Value)
    → i < length ts → slice_get ns i ≡ Some n → i < length vs → v ≡ get_or vs i v
    → shown_all (fields_lines s d (drop i ts) (drop i ns) (data_of (drop i vs)))
    ≡ shown_all (field_lines s d (get_or ts i t) n (datum v)) ++ shown_all (fields_lines s d (drop (i + 1) ts) (drop (i + 1) ns) (data_of (drop (i + 1) vs)))
fields_drop s d ts ns vs i t n v less named within is =
    rw add-one (ap shown_all (fields_step s d ts ns vs i t n v less named within is)
    ∙ shown_append (field_lines s d (get_or ts i t) n (datum v)) (fields_lines s d (drop (suc i) ts) (drop (suc i) ns) (data_of (drop (suc i) vs))))

pub items_drop : (s : List (Option (List ℕ))) (d : ℕ) (vs : List Value) (i : ℕ) (v : Value) → v ≡ get_or vs i v → i < length vs
    → shown_all (items_lines s d (data_of (drop i vs))) ≡ shown_all (item_lines s d (datum v)) ++ shown_all (items_lines s d (data_of (drop (i + 1) vs)))
items_drop s d vs i v is within =
    ap (λ ds. shown_all (items_lines s d ds)) (data_of_drop vs i v is within)
    ∙ shown_append (item_lines s d (datum v)) (items_lines s d (data_of (drop (i + 1) vs)))

-- what is written next moves from what is still to be written to what stands
pub goes_on : (new out next rest all full : List ℕ) → new ≡ out ++ next → all ≡ next ++ rest → out ++ all ≡ full → new ++ rest ≡ full
goes_on new out next rest all full put is before = ap (λ o. o ++ rest) put ∙ append_assoc out next rest ∙ ap (λ x. out ++ x) (sym is) ∙ before

-- a value of a list is as whole and as named as the list
pub whole_member : (vs : List Value) (i : ℕ) (v : Value) → v ≡ get_or vs i v → i < length vs → is_whole_in (data_of vs) ≡ true → is_whole_at (datum v) ≡ true
whole_member [] i v is within h = absurd (omega arith)
whole_member (w ∷ vs) zero v is within h = ap (λ x. is_whole_at (datum x)) is ∙ and_first (is_whole_at (datum w)) (is_whole_in (data_of vs)) h
whole_member (w ∷ vs) (suc i) v is within h = whole_member vs i v is (omega arith) (and_second (is_whole_at (datum w)) (is_whole_in (data_of vs)) h)

pub named_member : (s : List (Option (List ℕ))) (vs : List Value) (i : ℕ) (v : Value) → v ≡ get_or vs i v → i < length vs → is_named_in s (data_of vs) ≡ true → is_named_at s (datum v) ≡ true
named_member s [] i v is within h = absurd (omega arith)
named_member s (w ∷ vs) zero v is within h = ap (λ x. is_named_at s (datum x)) is ∙ and_first (is_named_at s (datum w)) (is_named_in s (data_of vs)) h
named_member s (w ∷ vs) (suc i) v is within h = named_member s vs i v is (omega arith) (and_second (is_named_at s (datum w)) (is_named_in s (data_of vs)) h)

-- fields that fit have as many values as types, each of its type
pub fit_length : (ts : List FieldType) (vs : List Value) → fit ts (data_of vs) ≡ true → length vs ≡ length ts
fit_length ts vs h = sym (count_data_of vs) ∙ count_fit ts (data_of vs) h

pub fits_here : (ts us : List FieldType) (vs : List Value) (i : ℕ) (t : FieldType) (v : Value) → us ≡ ts → fit ts (data_of vs) ≡ true → i < length us → i < length vs → v ≡ get_or vs i v
    → fits (get_or us i t) (datum v) ≡ true
fits_here ts us vs i t v same h less within is =
    fits_at ts (data_of vs) i (get_or us i t) (datum v) h (ap (λ x. slice_get x i) (sym same) ∙ slice_get-get_or us i t less) (value_at_data_of vs i v is within)

-- a line is there, and lines are left to show
line_left : (a b rest : List ℕ) (l : Line) → b ≡ a ++ shown_all (l ∷ []) → a ++ (shown l ++ rest) ≡ b ++ rest
line_left a b rest l put = rw put (simp append_assoc)

-- a node's first line is there, and its fields are left to show
pub node_left : (s : List (Option (List ℕ))) (d e : ℕ) (head : List ℕ) (k : Kind) (vs : List Value) (node : Tree) (a b : List ℕ) → branch k (data_of vs) ≡ node → min e 16 ≡ min (d + 1) 16
    → b ≡ a ++ shown_all (line d (head ++ kind_name k) ∷ [])
    → a ++ shown_all (node_lines s d head node) ≡ b ++ shown_all (fields_lines s e (fields k) (field_names k) (data_of vs))
node_left s d e head k vs node a b tree same put =
    ap (λ t. a ++ shown_all (node_lines s d head t)) (sym tree)
    ∙ ap (λ x. a ++ (shown (line d (head ++ kind_name k)) ++ x)) (sym (fields_same s e (d + 1) (fields k) (field_names k) (data_of vs) same))
    ∙ line_left a b (shown_all (fields_lines s e (fields k) (field_names k) (data_of vs))) (line d (head ++ kind_name k)) put

-- a list's line is there, and its items are left to show
pub list_left : (s : List (Option (List ℕ))) (d e : ℕ) (t : FieldType) (n : List ℕ) (vs : List Value) (ds : Data) (a b : List ℕ) → data_of vs ≡ ds → min e 16 ≡ min (d + 1) 16
    → b ≡ a ++ shown_all (line d (n ++ codes ": [" ++ decimal (length vs) ++ codes "]") ∷ [])
    → a ++ shown_all (field_lines s d t n (list_of ds)) ≡ b ++ shown_all (items_lines s e (data_of vs))
list_left s d e t n vs ds a b is same put =
    ap (λ xs. a ++ shown_all (field_lines s d t n (list_of xs))) (sym is)
    ∙ ap (λ i. a ++ (shown (line d (n ++ codes ": [" ++ decimal i ++ codes "]")) ++ shown_all (items_lines s (d + 1) (data_of vs)))) (count_data_of vs)
    ∙ ap (λ x. a ++ (shown (line d (n ++ codes ": [" ++ decimal (length vs) ++ codes "]")) ++ x)) (sym (items_same s e (d + 1) (data_of vs) same))
    ∙ line_left a b (shown_all (items_lines s e (data_of vs))) (line d (n ++ codes ": [" ++ decimal (length vs) ++ codes "]")) put
