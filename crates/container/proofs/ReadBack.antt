-- A container is read as what it is made of.
use Rattle.std.proofs.Common.{◌≡◌, ℕ, suc, ◌+◌, ◌-◌, ◌<◌, ◌≤◌, ◌^◌, List, [], ◌∷◌, ◌++◌, length, slice_range, codes, Option, Ok, Result, append-nil, append_assoc, length-append, refl, sym, ap, subst, ◌∙◌, arith, lit<}
use Rattle.std.specs.Prelude.{flat_map}
use Rattle.std.specs.List.{AllByRecursion, IsDistinct}
use Rattle.std.proofs.lemmas.Bool.{eq-eqb}
use Rattle.bast_base.specs.declared.errors.FormatFault.{FormatFault}
use Rattle.bast_base.specs.declared.errors.Why.{Why}
use Rattle.bast_base.specs.declared.errors.Why.TheVariants.{BadMagic, BadSection, NotIdentity}
use Rattle.bast_schema.specs.declared.kind.Kind.{Kind}
use Rattle.bast_schema.specs.Kinds.{kind_name, same_kind}
use Rattle.string_table.specs.Entries.{AreDistinct}
use Rattle.var_numbers.specs.Varnum.{varnum}
use Rattle.var_numbers.proofs.RangeLemmas.{only-spelled, range-length}
use Rattle.var_numbers.proofs.VarnumLemmas.{varnum-nonempty}
use Rattle.container.specs.declared.layout.Layout.{Layout}
use Rattle.container.specs.Clauses.{head_at, section_at, whole_table}
use Rattle.container.specs.Container.{container, counted, entry_bytes, grammar, section, strings}
use Rattle.container.specs.Entries.{Judge, entries_at, entry_at, more_kinds, more_texts, table_at}
use Rattle.container.specs.InFile.{IsEntry}
use Rattle.container.specs.IsContainer.{IsFileOf, layout_in}
use Rattle.container.specs.Layout.{layout_of}
use Rattle.container.specs.Parts.{agreeing, counted_at, done_at, fixed_at}
use Rattle.container.specs.Tables.{Tables}
use Rattle.container.proofs.Counted.{counted_stands, not_less, version_stands}
use Rattle.container.proofs.Fixed.{fixed_stands}
use Rattle.container.proofs.Fresh.{Fresh, kinds_fresh, texts_fresh}
use Rattle.container.proofs.LayoutLemmas.{layout_stands}
use Rattle.container.proofs.Ranges.{range_to_end, split}
use Rattle.container.proofs.Reached.{AtGrammar, AtStrings, AtTree, behind_head, behind_grammar, behind_kinds, behind_strings, behind_texts, behind_tree}

agreeing_own : (xs ys : List ℕ) → agreeing xs (xs ++ ys) ≡ length xs
agreeing_own [] ys = refl
agreeing_own (x ∷ xs) ys = rw (eq-eqb x x refl) (ap (λ (n : ℕ). suc n) (agreeing_own xs ys))

pub fixed_read : (bytes due more : List ℕ) (why : Why) (at : ℕ) → slice_range bytes at (length bytes) ≡ due ++ more → fixed_at bytes due why at ≡ Ok (at + length due)
fixed_read bytes due more why at is =
    fixed_stands bytes due why at (ap (agreeing due) (sym (range_to_end bytes at) ∙ is) ∙ agreeing_own due more)

done_read : (end at : ℕ) → at ≡ end → Ok tt ≡ done_at end at
done_read end at is = rw (not_less at end (omega arith)) refl

-- bytes behind their length are found, with what is behind them
record Found (bytes : List ℕ) (at end : ℕ) (content more : List ℕ) (r : ℕ × ℕ) : Type 0 where
  is : counted_at bytes end at ≡ Ok r
  order : r.0 ≤ r.1
  within : r.1 ≤ end
  long : r.1 ≡ r.0 + length content
  content_is : slice_range bytes r.0 r.1 ≡ content
  rest : slice_range bytes r.1 end ≡ more

find : (bytes : List ℕ) (at end : ℕ) (content more : List ℕ) → at ≤ end → end ≤ length bytes → length bytes < 2 ^ 32 → slice_range bytes at end ≡ counted content ++ more
    → Found bytes at end content more (at + length (varnum (length content)), at + length (varnum (length content)) + length content)
find bytes at end content more order small few is =
    let number = varnum (length content) in
    let from = at + length number in
    let front : slice_range bytes at end ≡ number ++ (content ++ more) = is ∙ append_assoc number content more in
    let s = split bytes at end number (content ++ more) order small front in
    let t = split bytes from end content more s.within small s.rest in
    let fits : length content < 2 ^ 32 = omega (arith, t.within) in
    record {
      is = sym (counted_stands bytes at end (length content) from (sym (only-spelled (slice_range bytes at end) at (length content) (content ++ more) fits front)) t.within);
      order = omega arith;
      within = t.within;
      long = refl;
      content_is = t.here;
      rest = t.rest;
    }

-- a section is found, with what is behind it
pub record Section (bytes title : List ℕ) (at : ℕ) (content more : List ℕ) (r : ℕ × ℕ) : Type 0 where
  pub is : section_at bytes title at ≡ Ok r
  pub order : r.0 ≤ r.1
  pub within : r.1 ≤ length bytes
  pub long : r.1 ≡ r.0 + length content
  pub content_is : slice_range bytes r.0 r.1 ≡ content
  pub rest : slice_range bytes r.1 (length bytes) ≡ more

abbrev pub content_from : List ℕ → ℕ → List ℕ → ℕ
content_from title at content = at + length title + length (codes "identity;") + length (varnum (length content))

pub section_read : (bytes title : List ℕ) (at : ℕ) (content more : List ℕ) → at ≤ length bytes → length bytes < 2 ^ 32 → slice_range bytes at (length bytes) ≡ section title content ++ more
    → Section bytes title at content more (content_from title at content, content_from title at content + length content)
section_read bytes title at content more order few is =
    let form = codes "identity;" in
    let front : slice_range bytes at (length bytes) ≡ title ++ (form ++ (counted content ++ more)) = is ∙ append_assoc (title ++ form) (counted content) more ∙ append_assoc title form (counted content ++ more) in
    let s = split bytes at (length bytes) title (form ++ (counted content ++ more)) order (omega arith) front in
    let t = split bytes (at + length title) (length bytes) form (counted content ++ more) s.within (omega arith) s.rest in
    let f = find bytes (at + length title + length form) (length bytes) content more t.within (omega arith) few t.rest in
    record {
      is = rw (fixed_read bytes title _ BadSection at front) (rw (fixed_read bytes form _ NotIdentity (at + length title) s.rest) f.is);
      order = f.order;
      within = f.within;
      long = f.long;
      content_is = f.content_is;
      rest = f.rest;
    }

entry_read : {A : Type 0} (more : Judge A) (bytes : List ℕ) (end : ℕ) (xs : List A) (y : A) (part : List ℕ) (at : ℕ) (r : ℕ × ℕ) → counted_at bytes end at ≡ Ok r → slice_range bytes r.0 r.1 ≡ part → more xs part r.0 ≡ Ok (xs ++ y ∷ [])
    → entry_at more bytes end xs at ≡ Ok (xs ++ y ∷ [], r.1)
entry_read more bytes end xs y part at r is content joins = rw (is, content, joins) refl

entries_read : {A : Type 0} (more : Judge A) (bytes_of : A → List ℕ) (bytes : List ℕ) (end : ℕ) (xs ys : List A) (at : ℕ) → Fresh more bytes_of xs ys → at ≤ end → end ≤ length bytes → length bytes < 2 ^ 32
    → slice_range bytes at end ≡ flat_map (λ y. counted (bytes_of y)) ys → entries_at more bytes end (length ys) xs at ≡ Ok (xs ++ ys, end)
entries_read {A} more bytes_of bytes end xs [] at fresh order small few is =
    let none : end - at ≡ 0 = sym (range-length bytes at end order small) ∙ ap length is in
    let last : at ≡ end = omega arith in
    rw (append-nil, last) refl
entries_read {A} more bytes_of bytes end xs (y ∷ ys) at fresh order small few is =
    let f = find bytes at end (bytes_of y) (flat_map (λ y. counted (bytes_of y)) ys) order small few is in
    let from = at + length (varnum (length (bytes_of y))) in
    let to = from + length (bytes_of y) in
    let first = entry_read more bytes end xs y (bytes_of y) at (from, to) f.is f.content_is (fresh.0 from) in
    let next = entries_read more bytes_of bytes end (xs ++ y ∷ []) ys to fresh.1 f.within small few f.rest in
    rw first (next ∙ ap (λ (zs : List A). Ok (zs, end)) (append_assoc xs (y ∷ []) ys))

pub few_entries : {A : Type 0} (bytes_of : A → List ℕ) (ys : List A) → length ys ≤ length (flat_map (λ y. counted (bytes_of y)) ys)
few_entries bytes_of [] = omega arith
few_entries bytes_of (y ∷ ys) =
    let rest = few_entries bytes_of ys in
    let some : 1 ≤ length (varnum (length (bytes_of y))) = varnum-nonempty (length (bytes_of y)) in
    let one : length (counted (bytes_of y)) ≡ length (varnum (length (bytes_of y))) + length (bytes_of y) = length-append (varnum (length (bytes_of y))) (bytes_of y) in
    omega (arith, length-append (counted (bytes_of y)) (flat_map (λ y. counted (bytes_of y)) ys))

table_read : {A : Type 0} (more : Judge A) (bytes_of : A → List ℕ) (bytes : List ℕ) (from to : ℕ) (ys : List A) → Fresh more bytes_of [] ys → from ≤ to → to ≤ length bytes → length bytes < 2 ^ 32
    → slice_range bytes from to ≡ varnum (length ys) ++ flat_map (λ y. counted (bytes_of y)) ys → whole_table more bytes to from ≡ Ok ys
unfolding table_at
table_read more bytes_of bytes from to ys fresh order small few is =
    let entries = flat_map (λ y. counted (bytes_of y)) ys in
    let s = split bytes from to (varnum (length ys)) entries order small is in
    let long : length entries ≡ to - (from + length (varnum (length ys))) = ap length (sym s.rest) ∙ range-length bytes _ to s.within small in
    let fits : length ys < 2 ^ 32 = omega (arith, few_entries bytes_of ys) in
    let count = only-spelled (slice_range bytes from to) from (length ys) entries fits is in
    let all = entries_read more bytes_of bytes to [] ys (from + length (varnum (length ys))) fresh s.within small few s.rest in
    rw (count, all) (rw (← done_read to to refl) refl)

abbrev spanning : ℕ → ℕ → ℕ × ℕ
spanning a b = (a, b)

same_range : (a b c d : ℕ) → a ≡ c → b ≡ d → spanning a b ≡ spanning c d
same_range a b c d p q = cc

section_length : (title : List ℕ) (at : ℕ) (content : List ℕ) → content_from title at content + length content ≡ at + length (section title content)
section_length title at content =
    omega (arith, length-append (title ++ codes "identity;") (counted content), length-append title (codes "identity;"), length-append (varnum (length content)) content)

-- the head was read, and the sections are left
pub record PastHead (bytes more : List ℕ) (at : ℕ) : Type 0 where
  pub reached : AtGrammar bytes at
  pub within : at ≤ length bytes
  pub rest : slice_range bytes at (length bytes) ≡ more

pub head_passed : (bytes more : List ℕ) → slice_range bytes 0 (length bytes) ≡ codes "BINJS" ++ (varnum 1 ++ more) → PastHead bytes more (length (codes "BINJS") + length (varnum 1))
head_passed bytes more front =
    let end = length bytes in
    let magic = codes "BINJS" in
    let m = split bytes 0 end magic (varnum 1 ++ more) (omega arith) (omega arith) front in
    let v = split bytes (length magic) end (varnum 1) more m.within (omega arith) m.rest in
    let head = length magic + length (varnum 1) in
    let one = only-spelled (slice_range bytes (length magic) end) (length magic) 1 more (lit< tt) m.rest in
    let at_head : Ok head ≡ head_at bytes = sym (rw (fixed_read bytes magic _ BadMagic 0 front) (version_stands bytes (length magic) 1 head (sym one) refl)) in
    record { reached = behind_head bytes head at_head; within = v.within; rest = v.rest }

-- the section of kinds was read, and more is left
pub record PastKinds (bytes : List ℕ) (ks : List Kind) (more : List ℕ) (at : ℕ) : Type 0 where
  pub reached : AtStrings bytes ks at
  pub within : at ≤ length bytes
  pub rest : slice_range bytes at (length bytes) ≡ more

pub kinds_passed : (bytes : List ℕ) (at : ℕ) (ks : List Kind) (more : List ℕ) → AtGrammar bytes at → IsDistinct same_kind ks → at ≤ length bytes → length bytes < 2 ^ 32
    → slice_range bytes at (length bytes) ≡ section (codes "[GRAMMAR]") (grammar ks) ++ more → PastKinds bytes ks more (at + length (section (codes "[GRAMMAR]") (grammar ks)))
kinds_passed bytes at ks more reached distinct within few is =
    let g = section_read bytes (codes "[GRAMMAR]") at (grammar ks) more within few is in
    let from = content_from (codes "[GRAMMAR]") at (grammar ks) in
    let to = from + length (grammar ks) in
    let kinds = table_read more_kinds kind_name bytes from to ks (kinds_fresh [] ks distinct) g.order g.within few g.content_is in
    subst (λ (p : ℕ). PastKinds bytes ks more p) (section_length (codes "[GRAMMAR]") at (grammar ks))
    (record { reached = behind_kinds (behind_grammar reached (from, to) (sym g.is)) ks kinds; within = g.within; rest = g.rest })

-- the section of texts was read, and more is left
pub record PastTexts (bytes : List ℕ) (ks : List Kind) (ts : List (Option (List ℕ))) (more : List ℕ) (at : ℕ) : Type 0 where
  pub reached : AtTree bytes ks ts at
  pub within : at ≤ length bytes
  pub rest : slice_range bytes at (length bytes) ≡ more

pub texts_passed : (bytes : List ℕ) (at : ℕ) (ks : List Kind) (ts : List (Option (List ℕ))) (more : List ℕ) → AtStrings bytes ks at → AreDistinct ts → AllByRecursion IsEntry ts → at ≤ length bytes → length bytes < 2 ^ 32
    → slice_range bytes at (length bytes) ≡ section (codes "[STRINGS]") (strings ts) ++ more → PastTexts bytes ks ts more (at + length (section (codes "[STRINGS]") (strings ts)))
texts_passed bytes at ks ts more reached distinct valid within few is =
    let s = section_read bytes (codes "[STRINGS]") at (strings ts) more within few is in
    let from = content_from (codes "[STRINGS]") at (strings ts) in
    let to = from + length (strings ts) in
    let texts = table_read more_texts entry_bytes bytes from to ts (texts_fresh [] ts distinct valid) s.order s.within few s.content_is in
    subst (λ (p : ℕ). PastTexts bytes ks ts more p) (section_length (codes "[STRINGS]") at (strings ts))
    (record { reached = behind_texts (behind_strings reached (from, to) (sym s.is)) ts texts; within = s.within; rest = s.rest })

-- the parts of a container, and what follows it
pub container_more : (s : Tables) (tree more : List ℕ)
    → container s tree ++ more ≡ codes "BINJS" ++ (varnum 1 ++ (section (codes "[GRAMMAR]") (grammar s.kinds) ++ (section (codes "[STRINGS]") (strings s.texts) ++ (section (codes "[TREE]") tree ++ more))))
unfolding container
container_more s tree more =
    let magic = codes "BINJS" in
    let gs = section (codes "[GRAMMAR]") (grammar s.kinds) in
    let ss = section (codes "[STRINGS]") (strings s.texts) in
    let ts = section (codes "[TREE]") tree in
    append_assoc (((magic ++ varnum 1) ++ gs) ++ ss) ts more ∙ append_assoc ((magic ++ varnum 1) ++ gs) ss (ts ++ more) ∙ append_assoc (magic ++ varnum 1) gs (ss ++ (ts ++ more))
    ∙ append_assoc magic (varnum 1) (gs ++ (ss ++ (ts ++ more)))

pub container_parts : (s : Tables) (tree : List ℕ)
    → container s tree ≡ codes "BINJS" ++ (varnum 1 ++ (section (codes "[GRAMMAR]") (grammar s.kinds) ++ (section (codes "[STRINGS]") (strings s.texts) ++ (section (codes "[TREE]") tree ++ []))))
container_parts s tree = sym (append-nil (container s tree)) ∙ container_more s tree []

pub layout_read : (s : Tables) (tree bytes : List ℕ) → IsFileOf s tree bytes → length bytes < 2 ^ 32 → (layout_of bytes ≡ Ok (layout_in s tree bytes)) × (slice_range bytes (length bytes - length tree) (length bytes) ≡ tree)
layout_read s tree bytes file few =
    let end = length bytes in
    let ss = section (codes "[STRINGS]") (strings s.texts) in
    let ts = section (codes "[TREE]") tree in
    let at_kinds = head_passed bytes _ (range_to_end bytes 0 ∙ file.spelling ∙ container_parts s tree) in
    let at_texts = kinds_passed bytes _ s.kinds (ss ++ (ts ++ [])) at_kinds.reached file.distinct_kinds at_kinds.within few at_kinds.rest in
    let at_tree = texts_passed bytes _ s.kinds s.texts (ts ++ []) at_texts.reached file.distinct_texts file.entries at_texts.within few at_texts.rest in
    let t = section_read bytes (codes "[TREE]") _ tree [] at_tree.within few at_tree.rest in
    let tf = content_from (codes "[TREE]") (length (codes "BINJS") + length (varnum 1) + length (section (codes "[GRAMMAR]") (grammar s.kinds)) + length ss) tree in
    let to = tf + length tree in
    let none : end - to ≡ 0 = sym (range-length bytes to end t.within (omega arith)) ∙ ap length t.rest in
    let within : to ≤ end = t.within in
    let last : to ≡ end = omega arith in
    let first : tf ≡ end - length tree = omega arith in
    let whole = behind_tree at_tree.reached (tf, to) (sym t.is) in
    let layout = layout_stands bytes _ whole (done_read end to last) in
    let content : slice_range bytes tf to ≡ tree = t.content_is in (
      layout ∙ ap (λ (p : ℕ × ℕ). Ok (record { kinds = s.kinds; strings = s.texts; from = p.0; to = p.1 })) (same_range tf to (end - length tree) end first last),
      rw (← first, ← last) content,
    )

record SameLayout (s t : Tables) (x y bytes : List ℕ) : Type 0 where
  kinds : s.kinds ≡ t.kinds
  texts : s.texts ≡ t.texts
  from : length bytes - length x ≡ length bytes - length y

abbrev answer_of : Layout → Result Layout FormatFault
answer_of l = Ok l

same_layout : (s t : Tables) (x y bytes : List ℕ) → answer_of (layout_in s x bytes) ≡ answer_of (layout_in t y bytes) → SameLayout s t x y bytes
same_layout s t x y bytes is =
    let e : layout_in s x bytes ≡ layout_in t y bytes = cc in
    record { kinds = ap (λ (l : Layout). l.kinds) e; texts = ap (λ (l : Layout). l.strings) e; from = ap (λ (l : Layout). l.from) e }

abbrev tables_of : List Kind → List (Option (List ℕ)) → Tables
tables_of ks ts = record { kinds = ks; texts = ts }

same_tables : (a b : List Kind) (c d : List (Option (List ℕ))) → a ≡ b → c ≡ d → tables_of a c ≡ tables_of b d
same_tables a b c d p q = ap (λ (ks : List Kind). tables_of ks c) p ∙ ap (tables_of b) q

pub one_reading : (s t : Tables) (x y bytes : List ℕ) → IsFileOf s x bytes → IsFileOf t y bytes → length bytes < 2 ^ 32 → (s ≡ t) × (x ≡ y)
one_reading s t x y bytes left right few =
    let l = layout_read s x bytes left few in
    let r = layout_read t y bytes right few in
    let same = same_layout s t x y bytes (sym l.0 ∙ r.0) in
    (same_tables s.kinds t.kinds s.texts t.texts same.kinds same.texts, sym l.1 ∙ ap (λ (n : ℕ). slice_range bytes n (length bytes)) same.from ∙ r.1)
