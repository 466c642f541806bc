-- Trees with the same atoms are the same but for the numbers of names and the places of windows.
use Rattle.std.proofs.Common.{ℕ, zero, suc, ◌≡◌, Bool, true, false, not, ◌&&◌, ◌||◌, List, [], ◌∷◌, ◌++◌, length, nat_lt, Option, Some, None, is_some, get_or, refl, sym, ap, subst, ◌∙◌, append_assoc, slice_get}
use Rattle.std.specs.List.{list_all}
use Rattle.bast_schema.specs.declared.kind.FieldType.{FieldType}
use Rattle.bast_schema.specs.declared.kind.FieldType.TheVariants as field
use Rattle.bast_schema.specs.declared.kind.EnumId.{EnumId}
use Rattle.bast_schema.specs.declared.kind.Kind.{Kind}
use Rattle.bast_schema.specs.declared.kind.Kind.TheVariants.{Null}
use Rattle.bast_schema.specs.declared.kind.Union.{Union}
use Rattle.bast_schema.specs.declared.kind.Union.TheVariants.{Body}
use Rattle.bast_schema.specs.Choices.{choice_texts, choice_of_text}
use Rattle.bast_schema.specs.Fields.{fields}
use Rattle.bast_schema.specs.Held.{Held, text_of}
use Rattle.bast_schema.specs.Tree.{Tree, branch, Datum, child, absent, listed, flag, index, whole, name, no_name, choice, window, Data, none, more, typed, fits, fit, items_fit, item_type, is_none, count}
use Rattle.bast_schema.specs.Unions.{allowed}
use Rattle.bast_schema.proofs.Both.{and_first, and_second, both}
use Rattle.container.specs.Atoms as atom
use Rattle.container.specs.Atoms.{Atom, atoms, atoms_of, atoms_of_fields, atoms_of_items}
use Rattle.container.specs.Named.{named, named_at, all_named}
use Rattle.tree_decoder.specs.SameTree.{IsSameTree, IsSame, AreSame}
use Rattle.tree_decoder.proofs.Spelling.{choice_text_of, fits_times}
use Rattle.tree_decoder.specs.Dues.{times}
use Rattle.tree_decoder.proofs.Nodes.{times_atoms}
use Rattle.bast_schema.specs.Kinds.{kinds, number}
use Rattle.bast_schema.proofs.EachKind.{kind_at_number}

-- ---- no field may hold a node of the absent kind

abbrev pub no_null : FieldType → Bool
no_null (field.Node u) = not (allowed u Null)
no_null (field.Optional u) = not (allowed u Null)
no_null (field.List u holes filled) = not (allowed u Null)
no_null (field.Lazy u) = not (allowed u Null)
no_null _ = true

every : {A : Type 0} (p : A → Bool) (xs : List A) (n : ℕ) (x : A) → list_all p xs ≡ true → slice_get xs n ≡ Some x → p x ≡ true
every p [] n x all is = absurd cc
every p (y ∷ ys) zero x all is = let same : y ≡ x = cc in sym (ap p same) ∙ and_first (p y) (list_all p ys) all
every p (y ∷ ys) (suc n) x all is = every p ys n x (and_second (p y) (list_all p ys) all) is

table_no_null : list_all (λ (k : Kind). list_all no_null (fields k)) kinds ≡ true
table_no_null = refl

pub fields_no_null : (k : Kind) → list_all no_null (fields k) ≡ true
fields_no_null k = every (λ (j : Kind). list_all no_null (fields j)) kinds (number k) k table_no_null (kind_at_number k)

pub item_no_null : (u : Union) (holes : Bool) → not (allowed u Null) ≡ true → no_null (item_type u holes) ≡ true
item_no_null u true e = e
item_no_null u false e = e

pub not_null : (u : Union) (j : Kind) → not (allowed u Null) ≡ true → allowed u j ≡ true → Null ≡ j → {A : Type 0} → A
not_null u j never may same = let null : allowed u Null ≡ true = ap (allowed u) same ∙ may in let b : not true ≡ true = rw null at never in absurd cc

-- ----

pub one_choice : (e : EnumId) (n m : ℕ) → nat_lt n (length (choice_texts e)) ≡ true → nat_lt m (length (choice_texts e)) ≡ true → get_or (choice_texts e) n [] ≡ get_or (choice_texts e) m [] → n ≡ m
one_choice e n m p q same = let both : Some n ≡ Some m = sym (choice_text_of e n p) ∙ ap (choice_of_text e) same ∙ choice_text_of e m q in cc

-- ---- two values with the same atoms, one after the other

record Alike (h g : Held) (v o : Datum) (x y : List Atom) : Type 0 where
  pub same : IsSame h g v o
  pub rest : x ≡ y

record AlikeIn (h g : Held) (ds es : Data) (x y : List Atom) : Type 0 where
  pub same : AreSame h g ds es
  pub rest : x ≡ y

record KnownIn (h : Held) (ts : List FieldType) (ds : Data) : Type 0 where
  pub fits : fit ts ds ≡ true
  pub named : all_named h ds ≡ true

first_same : (a b : Atom) (xs ys : List Atom) → a ∷ xs ≡ b ∷ ys → (a ≡ b) × (xs ≡ ys)
first_same a b xs ys e = (cc, cc)

-- ---- nodes

-- the fields of one kind, where they have the same atoms
abbrev FieldsAlike : Held → Held → Kind → Data → Data → List Atom → List Atom → Type 0
FieldsAlike h g k ds es x y = KnownIn g (fields k) es → atoms_of_fields h (fields k) ds ++ x ≡ atoms_of_fields g (fields k) es ++ y → AlikeIn h g ds es x y

node_alike : (h g : Held) (k j : Kind) (ds es : Data) (x y : List Atom) → KnownIn g (fields j) es → atoms h (branch k ds) ++ x ≡ atoms g (branch j es) ++ y → FieldsAlike h g k ds es x y → Alike h g (child (branch k ds)) (child (branch j es)) x y
node_alike h g k j ds es x y known e below =
    let front = atoms_of_fields h (fields k) ds in
    let parts = first_same (atom.kind k) (atom.kind j) (front ++ x) (atoms_of_fields g (fields j) es ++ y) e in
    let kinds : atom.kind k ≡ atom.kind j = parts.0 in
    let same : k ≡ j = cc in
    let known' : KnownIn g (fields k) es = subst (λ (i : Kind). KnownIn g (fields i) es) (sym same) known in
    let e' : front ++ x ≡ atoms_of_fields g (fields k) es ++ y = subst (λ (i : Kind). front ++ x ≡ atoms_of_fields g (fields i) es ++ y) (sym same) parts.1 in
    let inner = below known' e' in
    record { same = (same, inner.same); rest = inner.rest }

node_known : (h : Held) (u : Union) (k : Kind) (ds : Data) → (allowed u k && fit (fields k) ds) ≡ true → all_named h ds ≡ true → KnownIn h (fields k) ds
node_known h u k ds p n = record { fits = and_second (allowed u k) (fit (fields k) ds) p; named = n }

-- an absent node has the atom of no node that is there
absent_apart : (u : Union) (j : Kind) (xs ys : List Atom) → not (allowed u Null) ≡ true → allowed u j ≡ true → atom.kind Null ∷ xs ≡ atom.kind j ∷ ys → {A : Type 0} → A
absent_apart u j xs ys never may e =
    let kinds : atom.kind Null ≡ atom.kind j = (first_same (atom.kind Null) (atom.kind j) xs ys e).0 in
    let same : Null ≡ j = cc in
    not_null u j never may same

-- ---- values with no parts

-- a name with a text has the atom of no absent label
label_apart : (o : Option (List ℕ)) (xs ys : List Atom) → is_some o ≡ true → atom.text o ∷ xs ≡ atom.text None ∷ ys → {A : Type 0} → A
label_apart (Some words) xs ys is e = absurd cc
label_apart None xs ys is e = absurd cc

choice_same : (h g : Held) (set : EnumId) (n m : ℕ) (x y : List Atom) → nat_lt n (length (choice_texts set)) ≡ true → nat_lt m (length (choice_texts set)) ≡ true → atom.text (Some (get_or (choice_texts set) n [])) ∷ x ≡ atom.text (Some (get_or (choice_texts set) m [])) ∷ y → Alike h g (choice n) (choice m) x y
choice_same h g set n m x y p q e =
    let parts = first_same (atom.text (Some (get_or (choice_texts set) n []))) (atom.text (Some (get_or (choice_texts set) m []))) x y e in
    let texts : atom.text (Some (get_or (choice_texts set) n [])) ≡ atom.text (Some (get_or (choice_texts set) m [])) = parts.0 in
    let words : get_or (choice_texts set) n [] ≡ get_or (choice_texts set) m [] = cc in
    record { same = ap choice (one_choice set n m p q words); rest = parts.1 }

times_no_null : (n : ℕ) (t : FieldType) → no_null t ≡ true → list_all no_null (times n t) ≡ true
times_no_null zero t never = refl
times_no_null (suc n) t never = both (no_null t) (list_all no_null (times n t)) never (times_no_null n t never)

mutual
  value_alike : (h g : Held) (v : Datum) (t : FieldType) (o : Datum) (x y : List Atom) → no_null t ≡ true → fits t v ≡ true → fits t o ≡ true → named_at h v ≡ true → named_at g o ≡ true → atoms_of h t v ++ x ≡ atoms_of g t o ++ y → Alike h g v o x y
  value_alike h g (child (branch k ds)) (field.Node u) (child (branch j es)) x y never p q mv mo e =
      node_alike h g k j ds es x y (node_known g u j es q mo) e (λ known is. fields_alike h g ds (fields k) es x y (fields_no_null k) (node_known h u k ds p mv) known is)
  value_alike h g (child (branch k ds)) (field.Optional u) (child (branch j es)) x y never p q mv mo e =
      node_alike h g k j ds es x y (node_known g u j es q mo) e (λ known is. fields_alike h g ds (fields k) es x y (fields_no_null k) (node_known h u k ds p mv) known is)
  value_alike h g (child (branch k ds)) (field.Lazy u) (child (branch j es)) x y never p q mv mo e =
      node_alike h g k j ds es x y (node_known g u j es q mo) e (λ known is. fields_alike h g ds (fields k) es x y (fields_no_null k) (node_known h u k ds p mv) known is)
  value_alike h g absent (field.Optional u) absent x y never p q mv mo e = record { same = refl; rest = cc }
  value_alike h g absent (field.Optional u) (child (branch j es)) x y never p q mv mo e =
      absent_apart u j x (atoms_of_fields g (fields j) es ++ y) never (and_first (allowed u j) (fit (fields j) es) q) e
  value_alike h g (child (branch k ds)) (field.Optional u) absent x y never p q mv mo e =
      absent_apart u k y (atoms_of_fields h (fields k) ds ++ x) never (and_first (allowed u k) (fit (fields k) ds) p) (sym e)
  value_alike h g (window a b) (field.Lazy u) (window c d) x y never p q mv mo e = record { same = cc; rest = cc }
  value_alike h g (window a b) (field.Lazy u) (child (branch j es)) x y never p q mv mo e = absurd cc
  value_alike h g (child (branch k ds)) (field.Lazy u) (window c d) x y never p q mv mo e = absurd cc
  value_alike h g (listed ds) (field.List u holes filled) (listed es) x y never p q mv mo e =
      let parts = first_same (atom.count (count ds)) (atom.count (count es)) (atoms_of_items h ds ++ x) (atoms_of_items g es ++ y) e in
      let counts : atom.count (count ds) ≡ atom.count (count es) = parts.0 in
      let many : count ds ≡ count es = cc in
      let ts = times (count ds) (item_type u holes) in
      let fit_ds : fit (times (count ds) (item_type u holes)) ds ≡ true = fits_times u holes ds (and_second (not filled || not (is_none ds)) (items_fit u holes ds) p) in
      let fit_es : fit (times (count ds) (item_type u holes)) es ≡ true =
      subst (λ (n : ℕ). fit (times n (item_type u holes)) es ≡ true) (sym many) (fits_times u holes es (and_second (not filled || not (is_none es)) (items_fit u holes es) q)) in
      let is = ap (λ (z : List Atom). z ++ x) (times_atoms h (count ds) u holes ds fit_ds) ∙ parts.1 ∙ ap (λ (z : List Atom). z ++ y) (sym (times_atoms g (count ds) u holes es fit_es)) in
      let items = fields_alike h g ds ts es x y (times_no_null (count ds) (item_type u holes) (item_no_null u holes never)) (record { fits = fit_ds; named = mv }) (record { fits = fit_es; named = mo }) is in
      record { same = items.same; rest = items.rest }
  value_alike h g (flag b) field.Bool (flag c) x y never p q mv mo e = record { same = cc; rest = cc }
  value_alike h g (index n) field.Index (index m) x y never p q mv mo e = record { same = cc; rest = cc }
  value_alike h g (whole n) field.Whole (whole m) x y never p q mv mo e = record { same = cc; rest = cc }
  value_alike h g (name n) field.Text (name m) x y never p q mv mo e = record { same = cc; rest = cc }
  value_alike h g (name n) field.Name (name m) x y never p q mv mo e = record { same = cc; rest = cc }
  value_alike h g (name n) field.Label (name m) x y never p q mv mo e = record { same = cc; rest = cc }
  value_alike h g no_name field.Label no_name x y never p q mv mo e = record { same = refl; rest = cc }
  value_alike h g (name n) field.Label no_name x y never p q mv mo e = label_apart (text_of h n) x y mv e
  value_alike h g no_name field.Label (name m) x y never p q mv mo e = label_apart (text_of g m) y x mo (sym e)
  value_alike h g (choice n) (field.Choice set) (choice m) x y never p q mv mo e = choice_same h g set n m x y p q e
  value_alike h g _ _ _ x y never p q mv mo e = absurd cc

  fields_alike : (h g : Held) (ds : Data) (ts : List FieldType) (es : Data) (x y : List Atom) → list_all no_null ts ≡ true → KnownIn h ts ds → KnownIn g ts es → atoms_of_fields h ts ds ++ x ≡ atoms_of_fields g ts es ++ y → AlikeIn h g ds es x y
  fields_alike h g none [] none x y never p q e = record { same = tt; rest = e }
  fields_alike h g none [] (more o es) x y never p q e = let bad : false ≡ true = q.fits in absurd cc
  fields_alike h g none (t ∷ ts) es x y never p q e = let bad : false ≡ true = p.fits in absurd cc
  fields_alike h g (more v ds) [] es x y never p q e = let bad : false ≡ true = p.fits in absurd cc
  fields_alike h g (more v ds) (t ∷ ts) none x y never p q e = let bad : false ≡ true = q.fits in absurd cc
  fields_alike h g (more v ds) (t ∷ ts) (more o es) x y never p q e =
      let is = sym (append_assoc (atoms_of h t v) (atoms_of_fields h ts ds) x) ∙ e ∙ append_assoc (atoms_of g t o) (atoms_of_fields g ts es) y in
      let first = value_alike h g v t o (atoms_of_fields h ts ds ++ x) (atoms_of_fields g ts es ++ y) (and_first (no_null t) (list_all no_null ts) never)
      (and_first (fits t v) (fit ts ds) p.fits) (and_first (fits t o) (fit ts es) q.fits) (and_first (named_at h v) (all_named h ds) p.named) (and_first (named_at g o) (all_named g es) q.named) is in
      let rest = fields_alike h g ds ts es x y (and_second (no_null t) (list_all no_null ts) never)
      (record { fits = and_second (fits t v) (fit ts ds) p.fits; named = and_second (named_at h v) (all_named h ds) p.named })
      (record { fits = and_second (fits t o) (fit ts es) q.fits; named = and_second (named_at g o) (all_named g es) q.named }) first.rest in
      record { same = (first.same, rest.same); rest = rest.rest }

-- the roots
pub same_tree : (h g : Held) (t u : Tree) → typed t ≡ true → typed u ≡ true → named h t ≡ true → named g u ≡ true → atoms h t ≡ atoms g u → IsSameTree h g t u
same_tree h g (branch k ds) (branch j es) p q n m e =
    (node_alike h g k j ds es [] [] (record { fits = q; named = m }) (ap (λ (z : List Atom). z ++ []) e)
    (λ known is. fields_alike h g ds (fields k) es [] [] (fields_no_null k) (record { fits = p; named = n }) known is)).same

-- ---- and back

mutual
  pub atoms_same : (h g : Held) (t u : Tree) → IsSameTree h g t u → atoms h t ≡ atoms g u
  atoms_same h g (branch k ds) (branch j es) s =
      ap (λ (z : List Atom). atom.kind k ∷ z) (fields_atoms h g (fields k) ds es s.1) ∙ ap (λ (i : Kind). atom.kind i ∷ atoms_of_fields g (fields i) es) s.0

  value_atoms : (h g : Held) (t : FieldType) (v o : Datum) → IsSame h g v o → atoms_of h t v ≡ atoms_of g t o
  value_atoms h g t (child c) (child u) s = atoms_same h g c u s
  value_atoms h g t (listed ds) (listed es) s = ap (λ (n : ℕ). atom.count n ∷ atoms_of_items h ds) (counts_same h g ds es s) ∙ ap (λ (z : List Atom). atom.count (count es) ∷ z) (items_atoms h g ds es s)
  value_atoms h g t (name n) (name m) s = ap (λ (o : Option (List ℕ)). atom.text o ∷ []) s
  value_atoms h g t (window a b) (window c d) s = ap (λ (z : List ℕ). atom.window z ∷ []) s
  value_atoms h g t absent absent s = refl
  value_atoms h g t no_name no_name s = refl
  value_atoms h g t (flag b) (flag c) s = let same : b ≡ c = cc in ap (λ (x : Bool). atom.flag x ∷ []) same
  value_atoms h g t (index n) (index m) s = let same : n ≡ m = cc in ap (λ (x : ℕ). atom.index x ∷ []) same
  value_atoms h g t (whole n) (whole m) s = let same : n ≡ m = cc in ap (λ (x : ℕ). atom.whole x ∷ []) same
  value_atoms h g t (choice n) (choice m) s = let same : n ≡ m = cc in ap (λ (x : ℕ). atom.text (atom.chosen t x) ∷ []) same
  value_atoms h g t _ _ s = absurd cc

  counts_same : (h g : Held) (ds es : Data) → AreSame h g ds es → count ds ≡ count es
  counts_same h g none none s = refl
  counts_same h g (more v ds) (more o es) s = ap suc (counts_same h g ds es s.1)
  counts_same h g none (more o es) s = absurd s
  counts_same h g (more v ds) none s = absurd s

  fields_atoms : (h g : Held) (ts : List FieldType) (ds es : Data) → AreSame h g ds es → atoms_of_fields h ts ds ≡ atoms_of_fields g ts es
  fields_atoms h g [] none none s = refl
  fields_atoms h g (t ∷ ts) none none s = refl
  fields_atoms h g [] (more v ds) (more o es) s = refl
  fields_atoms h g (t ∷ ts) (more v ds) (more o es) s = ap (λ (z : List Atom). z ++ atoms_of_fields h ts ds) (value_atoms h g t v o s.0) ∙ ap (λ (z : List Atom). atoms_of g t o ++ z) (fields_atoms h g ts ds es s.1)
  fields_atoms h g ts none (more o es) s = absurd s
  fields_atoms h g ts (more v ds) none s = absurd s

  items_atoms : (h g : Held) (ds es : Data) → AreSame h g ds es → atoms_of_items h ds ≡ atoms_of_items g es
  items_atoms h g none none s = refl
  items_atoms h g (more v ds) (more o es) s = ap (λ (z : List Atom). z ++ atoms_of_items h ds) (value_atoms h g (field.Optional Body) v o s.0) ∙ ap (λ (z : List Atom). atoms_of g (field.Optional Body) o ++ z) (items_atoms h g ds es s.1)
  items_atoms h g none (more o es) s = absurd s
  items_atoms h g (more v ds) none s = absurd s
