-- Where a layout is read of bytes, they are its container.
use Rattle.std.proofs.Common.{◌≡◌, ℕ, zero, suc, ◌+◌, ◌-◌, ◌<◌, ◌≤◌, List, [], ◌++◌, length, drop, slice_range, codes, Ok, Err, nat_eq, refl, sym, ap, subst, ◌∙◌, arith, inl, inr, if◌then◌else◌}
use Rattle.std.specs.List.{All}
use Rattle.std.proofs.lemmas.Bool.Decides.{eqb_tells}
use Rattle.std.proofs.lemmas.List.Elements.{All-drop, All-take}
use Rattle.bast_base.specs.declared.errors.FormatFault.{FormatFault}
use Rattle.bast_base.specs.declared.errors.Why.{Why}
use Rattle.bast_base.specs.declared.errors.Why.TheVariants.{BadMagic, BadSection, BadVersion, NotIdentity}
use Rattle.var_numbers.specs.ReadClauses.{Spells}
use Rattle.var_numbers.specs.Varnum.{varnum}
use Rattle.var_numbers.specs.VarnumRead.{number_in}
use Rattle.var_numbers.proofs.InverseLemmas.{number_in-spelled}
use Rattle.var_numbers.proofs.VarnumLemmas.{varnum-nonempty}
use Rattle.container.specs.declared.layout.Layout.{Layout}
use Rattle.container.specs.Answers.{fault, ◌>>=◌}
use Rattle.container.specs.Clauses.{head_at, kind_entries, section_at, text_entries, whole_table}
use Rattle.container.specs.Container.{counted}
use Rattle.container.specs.Entries.{Judge, entries_at, entry_at, more_kinds, more_texts, table_at}
use Rattle.container.specs.IsContainer.{IsContainer}
use Rattle.container.specs.Layout.{Reached, layout_of}
use Rattle.container.specs.Parts.{agreeing, counted_at, done_at, fixed_at, number_from, so_many, version_at}
use Rattle.container.proofs.Added.{Adds, kind_adds, text_adds}
use Rattle.container.proofs.Counted.{moved_from, so_many_is}
use Rattle.container.proofs.Fixed.{fixed_lies, shared_is}
use Rattle.container.proofs.LayoutLemmas.{from_grammar, from_kinds, from_strings, from_texts, from_tree, layout_known, read}
use Rattle.container.proofs.Answered.{apart, came_from}
use Rattle.container.proofs.Ranges.{Lies, LiesCounted, LiesSection, counted_lies, lies_more, split, version_lies}
use Rattle.container.proofs.TableSpelled.{lies_none, table_spelled, whole_container}

abbrev AreBytes : List ℕ → Type 0
AreBytes bytes = All (λ byte. byte < 256) bytes

-- numbers

spells_at : (bytes : List ℕ) (at end k place n next : ℕ) → n ≡ k → next ≡ place → Spells bytes at end k place → Spells bytes at end n next
spells_at bytes at end k place n next same there s = rw (same, there) s

number_spelled : (bytes : List ℕ) (end at : ℕ) (n : ℕ × ℕ) → AreBytes bytes → at ≤ end → end ≤ length bytes → number_from bytes end at ≡ Ok n → Spells bytes at end n.0 n.1
number_spelled bytes end at n small order within is =
    let range = slice_range bytes at end in
    let m = moved_from at (number_in range) n is in
    let r = number_in-spelled range m.found.0 m.found.1 (All-take (λ byte. byte < 256) (end - at) (drop at bytes) (All-drop (λ byte. byte < 256) at bytes small)) m.is in
    let s = split bytes at end (varnum m.found.0) (drop m.found.1 range) order within r.front in
    let there : n.1 ≡ at + length (varnum m.found.0) = m.place ∙ ap (λ (k : ℕ). at + k) r.count_is in
    spells_at bytes at end m.found.0 (at + length (varnum m.found.0)) n.0 n.1 m.number there (record {
      small = r.small;
      next_is = refl;
      ahead = omega (arith, varnum-nonempty m.found.0);
      within = s.within;
      front = r.front ∙ ap (λ (xs : List ℕ). varnum m.found.0 ++ xs) (sym s.rest);
    })

-- bytes after their length

between : (bytes : List ℕ) (at end from to a b : ℕ) → a ≡ from → b ≡ to → LiesCounted bytes at end from to → LiesCounted bytes at end a b
between bytes at end from to a b first last lies = rw (first, last) lies

pub counted_spelled : (bytes : List ℕ) (end at : ℕ) (r : ℕ × ℕ) → AreBytes bytes → at ≤ end → end ≤ length bytes → counted_at bytes end at ≡ Ok r → LiesCounted bytes at end r.0 r.1
unfolding counted_at
counted_spelled bytes end at r small order within is =
    let p = came_from (number_from bytes end at) (so_many end) r is in
    let n = so_many_is end p.0 r p.2 in
    let s = number_spelled bytes end at p.0 small order within p.1 in
    between bytes at end p.0.1 (p.0.1 + p.0.0) r.0 r.1 n.from n.to (counted_lies bytes at end p.0.0 p.0.1 s n.fits within)

-- fixed bytes

pub fixed_spelled : (bytes due : List ℕ) (why : Why) (at next : ℕ) → at ≤ length bytes → fixed_at bytes due why at ≡ Ok next → Lies bytes at (length bytes) due next
unfolding fixed_at
fixed_spelled bytes due why at next within is =
    let p = shared_is bytes why at (length due) (agreeing due (drop at bytes)) next is in
    rw p.1 (fixed_lies bytes due at within p.0)

one_is : (f : FormatFault) (k next m : ℕ) → (if nat_eq k 1 then Ok next else Err f) ≡ Ok m → (k ≡ 1) × (next ≡ m)
one_is f k next m is = elim (eqb_tells k 1) [
  | inl p ↦ let e : Ok next ≡ (if nat_eq k 1 then Ok next else Err f) = rw p.0 refl in let q : next ≡ m = cc in (p.1, q)
  | inr p ↦ absurd (apart m f (sym is ∙ rw p.0 refl))
]

head_spelled : (bytes : List ℕ) (at : ℕ) → AreBytes bytes → head_at bytes ≡ Ok at → Lies bytes 0 (length bytes) (codes "BINJS" ++ varnum 1) at
unfolding version_at
head_spelled bytes at small is =
    let magic = came_from (fixed_at bytes (codes "BINJS") BadMagic 0) (λ at. version_at bytes at) at is in
    let number = came_from (number_from bytes (length bytes) magic.0) (λ n. if nat_eq n.0 1 then Ok n.1 else Err (fault magic.0 (BadVersion n.0))) at magic.2 in
    let one = one_is (fault magic.0 (BadVersion number.0.0)) number.0.0 number.0.1 at number.2 in
    let first = fixed_spelled bytes (codes "BINJS") BadMagic 0 magic.0 (omega arith) magic.1 in
    let version = number_spelled bytes (length bytes) magic.0 number.0 small first.within (omega arith) number.1 in
    subst (λ (next : ℕ). Lies bytes 0 (length bytes) (codes "BINJS" ++ varnum 1) next) one.1
    (version_lies bytes (codes "BINJS") 0 magic.0 (length bytes) number.0.0 number.0.1 first version one.0)

section_spelled : (bytes title : List ℕ) (at : ℕ) (r : ℕ × ℕ) → AreBytes bytes → at ≤ length bytes → section_at bytes title at ≡ Ok r → LiesSection bytes title at r.0 r.1
section_spelled bytes title at r small within is =
    let titled = came_from (fixed_at bytes title BadSection at) (λ p. fixed_at bytes (codes "identity;") NotIdentity p >>= λ q. counted_at bytes (length bytes) q) r is in
    let formed = came_from (fixed_at bytes (codes "identity;") NotIdentity titled.0) (λ q. counted_at bytes (length bytes) q) r titled.2 in
    let name = fixed_spelled bytes title BadSection at titled.0 within titled.1 in
    let form = fixed_spelled bytes (codes "identity;") NotIdentity titled.0 formed.0 name.within formed.1 in
    let content = counted_spelled bytes (length bytes) formed.0 r small form.within (omega arith) formed.2 in
    record {
      ahead = omega (arith, name.next_is, form.next_is, content.ahead);
      order = content.order;
      lies = lies_more (lies_more name form) content.lies;
    }

-- tables

abbrev AddsEach : {A : Type 0} → (List A → List ℕ) → Judge A → Type 0
AddsEach {A} entries more =
    (bytes : List ℕ) (at end from to : ℕ) (old new : List A) (part : List ℕ) → Lies bytes at end (counted part) to → more old part from ≡ Ok new → Adds entries bytes at end old new to

-- so many entries, one after another
record LieFrom {A : Type 0} (entries : List A → List ℕ) (bytes : List ℕ) (start end count : ℕ) (e : List A × ℕ) : Type 0 where
  count_is : length e.0 ≡ count
  lies : Lies bytes start end (entries e.0) e.1

entries_spelled : {A : Type 0} (entries : List A → List ℕ) (more : Judge A) → AddsEach entries more → (bytes : List ℕ) (start end : ℕ) → AreBytes bytes → end ≤ length bytes
    → (n : ℕ) (xs : List A) (at : ℕ) (e : List A × ℕ) → Lies bytes start end (entries xs) at → entries_at more bytes end n xs at ≡ Ok e → LieFrom entries bytes start end (length xs + n) e
entries_spelled {A} entries more adds bytes start end small inside zero xs at e before is =
    let same : (xs, at) ≡ e = cc in
    subst (λ (q : List A × ℕ). LieFrom entries bytes start end (length xs + 0) q) same (record { count_is = omega arith; lies = before })
entries_spelled {A} entries more adds bytes start end small inside (suc n) xs at e before is =
    let p = came_from (entry_at more bytes end xs at) (λ e. entries_at more bytes end n e.0 e.1) e is in
    let q = came_from (counted_at bytes end at) (λ r. more xs (slice_range bytes r.0 r.1) r.0 >>= λ ys. Ok (ys, r.1)) p.0 p.1 in
    let r = came_from (more xs (slice_range bytes q.0.0 q.0.1) q.0.0) (λ ys. Ok (ys, q.0.1)) p.0 q.2 in
    let same : (r.0, q.0.1) ≡ p.0 = let e2 = r.2 in cc in
    let content = counted_spelled bytes end at q.0 small before.within inside q.1 in
    let added = adds bytes at end q.0.0 q.0.1 xs r.0 (slice_range bytes q.0.0 q.0.1) content.lies r.1 in
    let here : LieFrom entries bytes start end (length xs + 1) p.0 = subst (λ (z : List A × ℕ). LieFrom entries bytes start end (length xs + 1) z) same (record { count_is = added.count; lies = added.lies start before }) in
    let rest = entries_spelled entries more adds bytes start end small inside n p.0.0 p.0.1 e here.lies p.2 in
    record { count_is = rest.count_is ∙ omega (arith, here.count_is); lies = rest.lies }

table_is_spelled : {A : Type 0} (entries : List A → List ℕ) (more : Judge A) → AddsEach entries more → entries [] ≡ [] → (bytes : List ℕ) (from to : ℕ) (xs : List A) → AreBytes bytes → from ≤ to → to ≤ length bytes
    → whole_table more bytes to from ≡ Ok xs → slice_range bytes from to ≡ varnum (length xs) ++ entries xs
unfolding table_at
table_is_spelled {A} entries more adds first bytes from to xs small order inside is =
    let p = came_from (table_at more bytes to from) (λ t. done_at to t.1 >>= λ done. Ok t.0) xs is in
    let q = came_from (number_from bytes to from) (λ n. entries_at more bytes to n.0 [] n.1) p.0 p.1 in
    let r = came_from (done_at to p.0.1) (λ done. Ok p.0.0) xs p.2 in
    let same : p.0.0 ≡ xs = let e2 = r.2 in cc in
    let count = number_spelled bytes to from q.0 small order inside q.1 in
    let none : Lies bytes q.0.1 to (entries []) q.0.1 = subst (λ (ys : List ℕ). Lies bytes q.0.1 to ys q.0.1) (sym first) (lies_none bytes q.0.1 to count.within) in
    let all = entries_spelled entries more adds bytes q.0.1 to small inside q.0.0 [] q.0.1 p.0 none q.2 in
    subst (λ (ys : List A). slice_range bytes from to ≡ varnum (length ys) ++ entries ys) same
    (table_spelled entries bytes from to q.0.0 q.0.1 p.0.0 p.0.1 count all.lies (all.count_is ∙ omega arith) (sym r.1))

-- the whole

pub layout_is_container : (bytes : List ℕ) (l : Layout) → AreBytes bytes → layout_of bytes ≡ Ok l → IsContainer bytes l
layout_is_container bytes l small is =
    let known = layout_known bytes l is in
    let head = came_from (head_at bytes) (λ h. from_grammar bytes h) known.reached known.parts in
    let g = came_from (section_at bytes (codes "[GRAMMAR]") head.0) (λ g. from_kinds bytes g) known.reached head.2 in
    let ks = came_from (whole_table more_kinds bytes g.0.1 g.0.0) (λ ks. from_strings bytes ks g.0.1) known.reached g.2 in
    let s = came_from (section_at bytes (codes "[STRINGS]") g.0.1) (λ s. from_texts bytes ks.0 s) known.reached ks.2 in
    let ts = came_from (whole_table more_texts bytes s.0.1 s.0.0) (λ ts. from_tree bytes ks.0 ts s.0.1) known.reached s.2 in
    let t = came_from (section_at bytes (codes "[TREE]") s.0.1) (λ t. Ok (read ks.0 ts.0 t)) known.reached ts.2 in
    let same : read ks.0 ts.0 t.0 ≡ known.reached = let e2 = t.2 in cc in
    let start = head_spelled bytes head.0 small head.1 in
    let grammar_lies = section_spelled bytes (codes "[GRAMMAR]") head.0 g.0 small start.within g.1 in
    let strings_lie = section_spelled bytes (codes "[STRINGS]") g.0.1 s.0 small grammar_lies.lies.within s.1 in
    let tree_lies = section_spelled bytes (codes "[TREE]") s.0.1 t.0 small strings_lie.lies.within t.1 in
    let kinds_are = table_is_spelled kind_entries more_kinds kind_adds refl bytes g.0.0 g.0.1 ks.0 small grammar_lies.order grammar_lies.lies.within ks.1 in
    let texts_are = table_is_spelled text_entries more_texts text_adds refl bytes s.0.0 s.0.1 ts.0 small strings_lie.order strings_lie.lies.within ts.1 in
    let last : Ok tt ≡ done_at (length bytes) t.0.1 = sym known.done ∙ ap (λ (r : Reached). done_at (length bytes) r.layout.to) (sym same) in
    subst (IsContainer bytes) (ap (λ (r : Reached). r.layout) same ∙ known.layout)
    (whole_container bytes ks.0 ts.0 head.0 g.0.0 g.0.1 s.0.0 s.0.1 t.0.0 t.0.1 start grammar_lies kinds_are ks.1 strings_lie texts_are ts.1 tree_lies last)
