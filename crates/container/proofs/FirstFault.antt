-- Where a container is faulty that breaks off, has a fixed byte changed, or has more after it.
use Rattle.std.proofs.Common.{◌≡◌, ◌≢◌, ◌⊎◌, inl, inr, ℕ, zero, suc, ◌+◌, ◌-◌, ◌*◌, ◌/◌, ◌%◌, ◌<◌, ◌≤◌, ◌^◌, List, [], ◌∷◌, ◌++◌, length, take, drop, set, slice_index, slice_range, codes, Err, append_assoc, length-append, length-set, take-append-drop, refl, sym, ap, ◌∙◌, arith, lit<}
use Rattle.std.specs.List.{AllByRecursion}
use Rattle.std.proofs.lemmas.Bool.{lt-ltb}
use Rattle.std.proofs.lemmas.List.{get_or-append-add, length-take-le, set-append_left, set-append_right}
use Rattle.std.proofs.Math.ListN.{get_or-append}
use Rattle.bast_base.specs.declared.errors.FormatFault.{FormatFault}
use Rattle.bast_base.specs.declared.errors.Why.{Why}
use Rattle.bast_base.specs.declared.errors.Why.TheVariants.{BadMagic, BadSection, Ended, NotIdentity, Trailing}
use Rattle.var_numbers.specs.Varnum.{varnum}
use Rattle.var_numbers.specs.VarnumRead.{last_place, moved, number_in}
use Rattle.var_numbers.proofs.RangeLemmas.{only-spelled, range-length}
use Rattle.var_numbers.proofs.ReadLemmas.{answer-ended, last_place-odd}
use Rattle.var_numbers.proofs.VarnumLemmas.{by_groups, varnum-last, varnum-more, varnum-short}
use Rattle.container.specs.Answers.{fault}
use Rattle.container.specs.Clauses.{head_at, section_at}
use Rattle.container.specs.Container.{counted, grammar, section, strings}
use Rattle.container.specs.FixedParts.{FixedPart, IsTold, fixed_parts, grammar_start, section_fixed, strings_start, tree_start}
use Rattle.container.specs.IsContainer.{IsFileOf}
use Rattle.container.specs.Layout.{layout_of}
use Rattle.container.specs.Parts.{agreeing, counted_at, fixed_at, number_from, version_at}
use Rattle.container.specs.Tables.{Tables}
use Rattle.container.proofs.Answered.{answered, refused}
use Rattle.container.proofs.Counted.{counted_ended, counted_fails, version_fails}
use Rattle.container.proofs.Fixed.{agreeing_none, agreeing_other, agreeing_same, fixed_differs, fixed_ended}
use Rattle.container.proofs.LayoutLemmas.{layout_left}
use Rattle.container.proofs.Ranges.{range_to_end, split}
use Rattle.container.proofs.ReadBack.{container_more, container_parts, content_from, fixed_read, head_passed, kinds_passed, section_read, texts_passed}
use Rattle.container.proofs.Reached.{behind_tree, stops_in_grammar, stops_in_head, stops_in_strings, stops_in_tree}

-- ---- what is left breaks off within the next part, or has it whole

-- a part breaks off
record Broken (rest part : List ℕ) : Type 0 where
  lost : List ℕ
  is : part ≡ rest ++ lost
  some : 1 ≤ length lost

record Whole (rest lost part more : List ℕ) : Type 0 where
  after : List ℕ
  is : rest ≡ part ++ after
  left : after ++ lost ≡ more

cut : (rest lost part more : List ℕ) → rest ++ lost ≡ part ++ more → Broken rest part ⊎ Whole rest lost part more
cut rest lost [] more is = inr (record { after = rest; is = refl; left = is })
cut [] lost (p ∷ part) more is = inl (record { lost = p ∷ part; is = refl; some = omega arith })
cut (r ∷ rest) lost (p ∷ part) more is =
    let first : r ≡ p = cc in
    let others : rest ++ lost ≡ part ++ more = cc in
    elim (cut rest lost part more others) [
      | inl b ↦ inl (record { lost = b.lost; is = ap (λ (xs : List ℕ). p ∷ xs) b.is ∙ ap (λ (x : ℕ). x ∷ (rest ++ b.lost)) (sym first); some = b.some })
      | inr w ↦ inr (record { after = w.after; is = ap (λ (x : ℕ). x ∷ rest) first ∙ ap (λ (xs : List ℕ). p ∷ xs) w.is; left = w.left })
    ]

-- fixed bytes, numbers and bytes after their length that break off

agreeing_prefix : (xs ys : List ℕ) → agreeing (xs ++ ys) xs ≡ length xs
agreeing_prefix [] ys = agreeing_none ys
agreeing_prefix (x ∷ xs) ys = agreeing_same x x (xs ++ ys) xs refl ∙ ap (λ (n : ℕ). suc n) (agreeing_prefix xs ys)

left_length : (bytes : List ℕ) (at end : ℕ) (rest : List ℕ) → at ≤ end → end ≤ length bytes → slice_range bytes at end ≡ rest → at + length rest ≡ end
left_length bytes at end rest order within is = let long : end - at ≡ length rest = sym (range-length bytes at end order within) ∙ ap length is in omega arith

fixed_broken : (bytes due : List ℕ) (why : Why) (at : ℕ) (rest : List ℕ) → at ≤ length bytes → slice_range bytes at (length bytes) ≡ rest → Broken rest due → fixed_at bytes due why at ≡ Err (fault (length bytes) Ended)
fixed_broken bytes due why at rest within is b =
    let there : agreeing due (drop at bytes) ≡ length rest = ap (agreeing due) (sym (range_to_end bytes at) ∙ is) ∙ ap (λ (xs : List ℕ). agreeing xs rest) b.is ∙ agreeing_prefix rest b.lost in
    let all : at + length rest ≡ length bytes = left_length bytes at (length bytes) rest within (omega arith) is in
    fixed_ended bytes due why at (length rest) there (omega (arith, b.some, ap length b.is, length-append rest b.lost)) (omega arith)

-- each byte of a spelling but the last says that another follows
odd_prefix : (n : ℕ) (rest lost : List ℕ) → varnum n ≡ rest ++ lost → 1 ≤ length lost → last_place rest ≡ length rest
odd_prefix n =
    by_groups
    (λ m. (rest lost : List ℕ) → varnum m ≡ rest ++ lost → 1 ≤ length lost → last_place rest ≡ length rest)
    (λ m small rest lost is some. single m rest lost (sym (varnum-last m small) ∙ is) some)
    (λ m large before rest lost is some. longer m rest lost before (sym (varnum-more m large) ∙ is) some)
    n
  where
    single : (m : ℕ) (rest lost : List ℕ) → 2 * m ∷ [] ≡ rest ++ lost → 1 ≤ length lost → last_place rest ≡ length rest
    single m [] lost is some = refl
    single m (r ∷ rest) lost is some = absurd (omega (arith, ap length is, length-append rest lost))

    longer : (m : ℕ) (rest lost : List ℕ) → ((xs ys : List ℕ) → varnum (m / 128) ≡ xs ++ ys → 1 ≤ length ys → last_place xs ≡ length xs) → (2 * (m % 128) + 1) ∷ varnum (m / 128) ≡ rest ++ lost → 1 ≤ length lost → last_place rest ≡ length rest
    longer m [] lost before is some = refl
    longer m (r ∷ rest) lost before is some =
        let first : 2 * (m % 128) + 1 ≡ r = cc in
        let others : varnum (m / 128) ≡ rest ++ lost = cc in
        last_place-odd r rest (omega arith) ∙ ap (λ (k : ℕ). suc k) (before rest lost others some)

number_broken : (bytes : List ℕ) (at end n : ℕ) (rest : List ℕ) → at ≤ end → end ≤ length bytes → n < 2 ^ 32 → slice_range bytes at end ≡ rest → Broken rest (varnum n) → number_from bytes end at ≡ Err (fault end Ended)
number_broken bytes at end n rest order within small is b =
    let short : length rest < 5 = omega (arith, varnum-short n small, b.some, ap length b.is, length-append rest b.lost) in
    let ended : number_in rest ≡ Err (fault (length rest) Ended) = answer-ended rest short (odd_prefix n rest b.lost b.is b.some) in
    ap (λ (xs : List ℕ). moved at (number_in xs)) is ∙ ap (moved at) ended ∙ ap (λ (p : ℕ). Err (fault p Ended)) (left_length bytes at end rest order within is)

counted_broken : (bytes : List ℕ) (at end : ℕ) (content rest : List ℕ) → at ≤ end → end ≤ length bytes → length content < 2 ^ 32 → slice_range bytes at end ≡ rest → Broken rest (counted content) → counted_at bytes end at ≡ Err (fault end Ended)
counted_broken bytes at end content rest order within small is b = elim (cut rest b.lost (varnum (length content)) content (sym b.is)) [
  | inl c ↦ sym (counted_fails bytes at end (fault end Ended) (sym (number_broken bytes at end (length content) rest order within small is c)))
  | inr w ↦
      let from = at + length (varnum (length content)) in
      let found = only-spelled (slice_range bytes at end) at (length content) w.after small (is ∙ w.is) in
      let long : end < from + length content = omega (arith, left_length bytes at end rest order within is, ap length w.is, length-append (varnum (length content)) w.after, ap length w.left, length-append w.after b.lost, b.some) in
      sym (counted_ended bytes at end (length content) from (sym found) long)
]

section_broken : (bytes title : List ℕ) (at : ℕ) (content rest : List ℕ) → at ≤ length bytes → length content < 2 ^ 32 → slice_range bytes at (length bytes) ≡ rest → Broken rest (section title content) → section_at bytes title at ≡ Err (fault (length bytes) Ended)
section_broken bytes title at content rest within small is b =
    let form = codes "identity;" in
    let end = length bytes in
    let grouped : rest ++ b.lost ≡ title ++ (form ++ counted content) = sym b.is ∙ append_assoc title form (counted content) in
    elim (cut rest b.lost title (form ++ counted content) grouped) [
      | inl c ↦ refused (fixed_at bytes title BadSection at) _ (fault end Ended) (fixed_broken bytes title BadSection at rest within is c)
      | inr w ↦
          let titled = fixed_read bytes title w.after BadSection at (is ∙ w.is) in
          let s = split bytes at end title w.after within (omega arith) (is ∙ w.is) in
          answered (fixed_at bytes title BadSection at) _ (at + length title) titled
          ∙ elim (cut w.after b.lost form (counted content) w.left) [
            | inl c ↦ refused (fixed_at bytes form NotIdentity (at + length title)) _ (fault end Ended) (fixed_broken bytes form NotIdentity (at + length title) w.after s.within s.rest c)
            | inr v ↦
                let formed = fixed_read bytes form v.after NotIdentity (at + length title) (s.rest ∙ v.is) in
                let t = split bytes (at + length title) end form v.after s.within (omega arith) (s.rest ∙ v.is) in
                answered (fixed_at bytes form NotIdentity (at + length title)) _ (at + length title + length form) formed
                ∙ counted_broken bytes (at + length title + length form) end content v.after t.within (omega arith) small t.rest (record { lost = b.lost; is = sym v.left; some = b.some })
          ]
    ]

head_broken : (bytes more rest lost : List ℕ) → slice_range bytes 0 (length bytes) ≡ rest → rest ++ lost ≡ codes "BINJS" ++ (varnum 1 ++ more) → (head_at bytes ≡ Err (fault (length bytes) Ended)) ⊎ ((after : List ℕ) × (rest ≡ codes "BINJS" ++ (varnum 1 ++ after)) × (after ++ lost ≡ more))
head_broken bytes more rest lost is left =
    let end = length bytes in
    let magic = codes "BINJS" in
    elim (cut rest lost magic (varnum 1 ++ more) left) [
      | inl c ↦ inl (refused (fixed_at bytes magic BadMagic 0) (λ at. version_at bytes at) (fault end Ended) (fixed_broken bytes magic BadMagic 0 rest (omega arith) is c))
      | inr w ↦
          let s = split bytes 0 end magic w.after (omega arith) (omega arith) (is ∙ w.is) in
          elim (cut w.after lost (varnum 1) more w.left) [
            | inl c ↦ inl (
                answered (fixed_at bytes magic BadMagic 0) (λ at. version_at bytes at) (length magic) (fixed_read bytes magic w.after BadMagic 0 (is ∙ w.is))
                ∙ version_fails bytes (length magic) (fault end Ended) (sym (number_broken bytes (length magic) end 1 w.after s.within (omega arith) (lit< tt) s.rest c)))
            | inr v ↦ inr (v.after, w.is ∙ ap (λ (xs : List ℕ). magic ++ xs) v.is, v.left)
          ]
    ]

-- ---- a container that breaks off

content_small : (title content : List ℕ) → length content ≤ length (section title content)
content_small title content =
    omega (arith, length-append (title ++ codes "identity;") (counted content), length-append (varnum (length content)) content)

none_lost : (after lost : List ℕ) → 1 ≤ length lost → after ++ lost ≡ [] → ⊥
none_lost after lost some is = omega (arith, ap length is, length-append after lost)

broken_off : (s : Tables) (tree bytes part lost : List ℕ) → IsFileOf s tree bytes → length bytes < 2 ^ 32 → part ++ lost ≡ bytes → 1 ≤ length lost → layout_of part ≡ Err (fault (length part) Ended)
broken_off s tree bytes part lost file few is some =
    let end = length part in
    let gs = section (codes "[GRAMMAR]") (grammar s.kinds) in
    let ss = section (codes "[STRINGS]") (strings s.texts) in
    let ts = section (codes "[TREE]") tree in
    let whole : bytes ≡ codes "BINJS" ++ (varnum 1 ++ (gs ++ (ss ++ (ts ++ [])))) = file.spelling ∙ container_parts s tree in
    let all : length bytes ≡ length (codes "BINJS") + (length (varnum 1) + (length gs + (length ss + (length ts + 0)))) =
    ap length whole ∙ length-append (codes "BINJS") (varnum 1 ++ (gs ++ (ss ++ (ts ++ [])))) ∙ omega (arith, length-append (varnum 1) (gs ++ (ss ++ (ts ++ []))), length-append gs (ss ++ (ts ++ [])), length-append ss (ts ++ []), length-append ts []) in
    let short : end < 2 ^ 32 = omega (arith, ap length is, length-append part lost) in
    let stopped = fault end Ended in
    elim (head_broken part (gs ++ (ss ++ (ts ++ []))) part lost (range_to_end part 0) (is ∙ whole)) [
      | inl stops ↦ (stops_in_head part stopped (sym stops)).layout
      | inr head ↦
          let h = head_passed part head.0 (range_to_end part 0 ∙ head.1) in
          elim (cut head.0 lost gs (ss ++ (ts ++ [])) head.2) [
            | inl b ↦ (stops_in_grammar h.reached stopped (sym (section_broken part (codes "[GRAMMAR]") _ (grammar s.kinds) head.0 h.within (omega (arith, content_small (codes "[GRAMMAR]") (grammar s.kinds))) h.rest b))).layout
            | inr g ↦
                let k = kinds_passed part _ s.kinds g.after h.reached file.distinct_kinds h.within short (h.rest ∙ g.is) in
                elim (cut g.after lost ss (ts ++ []) g.left) [
                  | inl b ↦ (stops_in_strings k.reached stopped (sym (section_broken part (codes "[STRINGS]") _ (strings s.texts) g.after k.within (omega (arith, content_small (codes "[STRINGS]") (strings s.texts))) k.rest b))).layout
                  | inr x ↦
                      let t = texts_passed part _ s.kinds s.texts x.after k.reached file.distinct_texts file.entries k.within short (k.rest ∙ x.is) in
                      elim (cut x.after lost ts [] x.left) [
                        | inl b ↦ (stops_in_tree t.reached stopped (sym (section_broken part (codes "[TREE]") _ tree x.after t.within (omega (arith, content_small (codes "[TREE]") tree)) t.rest b))).layout
                        | inr w ↦ absurd (none_lost w.after lost some w.left)
                      ]
                ]
          ]
    ]

pub prefix_ended : (s : Tables) (tree bytes : List ℕ) (n : ℕ) → IsFileOf s tree bytes → length bytes < 2 ^ 32 → n < length bytes → layout_of (take n bytes) ≡ Err (fault n Ended)
prefix_ended s tree bytes n file few within =
    let long : length (take n bytes) ≡ n = length-take-le n bytes (omega arith) in
    let all : take n bytes ++ drop n bytes ≡ bytes = take-append-drop n bytes in
    let some : 1 ≤ length (drop n bytes) = omega (arith, ap length all, length-append (take n bytes) (drop n bytes)) in
    broken_off s tree bytes (take n bytes) (drop n bytes) file few all some ∙ ap (λ (p : ℕ). Err (fault p Ended)) long

-- ---- a container with a changed byte

agreeing_changed : (due after : List ℕ) (i byte : ℕ) → i < length due → slice_index due i ≢ byte → agreeing due (set due i byte ++ after) ≡ i
agreeing_changed [] after i byte within other = absurd (omega arith)
agreeing_changed (d ∷ due) after zero byte within other = agreeing_other d byte due (due ++ after) other
agreeing_changed (d ∷ due) after (suc i) byte within other = agreeing_same d d due (set due i byte ++ after) refl ∙ ap (λ (n : ℕ). suc n) (agreeing_changed due after i byte (omega arith) other)

-- fixed bytes of which one is another
fixed_changed : (bytes due after : List ℕ) (why : Why) (at i byte : ℕ) → at ≤ length bytes → i < length due → slice_index due i ≢ byte → slice_range bytes at (length bytes) ≡ set due i byte ++ after → fixed_at bytes due why at ≡ Err (fault (at + i) why)
fixed_changed bytes due after why at i byte order within other is =
    let there : agreeing due (drop at bytes) ≡ i = ap (agreeing due) (sym (range_to_end bytes at) ∙ is) ∙ agreeing_changed due after i byte within other in
    let all : at + length (set due i byte ++ after) ≡ length bytes = left_length bytes at (length bytes) (set due i byte ++ after) order (omega arith) is in
    fixed_differs bytes due why at i there within (omega (arith, length-append (set due i byte) after, length-set due i byte))

title_changed : (bytes title after : List ℕ) (at i byte : ℕ) → at ≤ length bytes → i < length title → slice_index title i ≢ byte → slice_range bytes at (length bytes) ≡ set title i byte ++ after → section_at bytes title at ≡ Err (fault (at + i) BadSection)
title_changed bytes title after at i byte order within other is =
    refused (fixed_at bytes title BadSection at) _ (fault (at + i) BadSection) (fixed_changed bytes title after BadSection at i byte order within other is)

form_changed : (bytes title after : List ℕ) (at i byte : ℕ) → at ≤ length bytes → i < length (codes "identity;") → slice_index (codes "identity;") i ≢ byte → slice_range bytes at (length bytes) ≡ title ++ (set (codes "identity;") i byte ++ after)
    → section_at bytes title at ≡ Err (fault (at + length title + i) NotIdentity)
form_changed bytes title after at i byte order within other is =
    let form = codes "identity;" in
    let s = split bytes at (length bytes) title (set form i byte ++ after) order (omega arith) is in
    answered (fixed_at bytes title BadSection at) _ (at + length title) (fixed_read bytes title (set form i byte ++ after) BadSection at is)
    ∙ refused (fixed_at bytes form NotIdentity (at + length title)) _ (fault (at + length title + i) NotIdentity) (fixed_changed bytes form after NotIdentity (at + length title) i byte s.within within other s.rest)

byte_there : (file before due after : List ℕ) (i : ℕ) → file ≡ before ++ (due ++ after) → i < length due → slice_index file (length before + i) ≡ slice_index due i
byte_there file before due after i is within =
    ap (λ (xs : List ℕ). slice_index xs (length before + i)) is ∙ get_or-append-add before (due ++ after) i 0 ∙ get_or-append due after 0 i within

changed_is : (file before due after : List ℕ) (i byte : ℕ) → file ≡ before ++ (due ++ after) → i < length due → set file (length before + i) byte ≡ before ++ (set due i byte ++ after)
changed_is file before due after i byte is within =
    let back : length before + i - length before ≡ i = omega arith in
    ap (λ (xs : List ℕ). set xs (length before + i) byte) is
    ∙ set-append_right before (due ++ after) (length before) (length before + i) byte refl (omega arith)
    ∙ ap (λ (n : ℕ). before ++ set (due ++ after) n byte) back
    ∙ ap (λ (xs : List ℕ). before ++ xs) (set-append_left due after i byte within)

told : (bytes : List ℕ) (p : FixedPart) (before after : List ℕ) → bytes ≡ before ++ (p.due ++ after) → p.at ≡ length before
    → ((i byte : ℕ) (changed : List ℕ) → i < length p.due → slice_index p.due i ≢ byte → length changed ≡ length bytes → changed ≡ before ++ (set p.due i byte ++ after) → layout_of changed ≡ Err (fault (p.at + i) p.why))
    → IsTold bytes p
told bytes p before after is place reads i byte within other =
    let there : p.at + i ≡ length before + i = omega arith in (
      ap (slice_index bytes) there ∙ byte_there bytes before p.due after i is within,
      reads i byte (set bytes (p.at + i) byte) within other (length-set bytes (p.at + i) byte) (ap (λ (n : ℕ). set bytes n byte) there ∙ changed_is bytes before p.due after i byte is within),
    )

-- a file is read up to a section's start, and what is left is this
record AtSection (bytes title rest : List ℕ) (at : ℕ) : Type 0 where
  within : at ≤ length bytes
  is : slice_range bytes at (length bytes) ≡ rest
  stops : (f : FormatFault) → section_at bytes title at ≡ Err f → layout_of bytes ≡ Err f

section_told : (bytes before title content more : List ℕ) (at : ℕ) → bytes ≡ before ++ (section title content ++ more) → at ≡ length before
    → ((changed rest : List ℕ) → length changed ≡ length bytes → changed ≡ before ++ rest → AtSection changed title rest at) → AllByRecursion (IsTold bytes) (section_fixed title at)
section_told bytes before title content more at is place reads =
    let form = codes "identity;" in
    let others = counted content ++ more in
    let grouped : bytes ≡ before ++ (title ++ (form ++ others)) =
    is ∙ ap (λ (xs : List ℕ). before ++ xs) (append_assoc (title ++ form) (counted content) more ∙ append_assoc title form others) in
    let name : IsTold bytes (record { at = at; due = title; why = BadSection }) =
    told bytes (record { at = at; due = title; why = BadSection }) before (form ++ others) grouped place (λ i byte changed within other long e.
    let r = reads changed (set title i byte ++ (form ++ others)) long e in
    r.stops (fault (at + i) BadSection) (title_changed changed title (form ++ others) at i byte r.within within other r.is)) in
    let later : IsTold bytes (record { at = at + length title; due = form; why = NotIdentity }) =
    told bytes (record { at = at + length title; due = form; why = NotIdentity }) (before ++ title) others (grouped ∙ sym (append_assoc before title (form ++ others))) (omega (arith, length-append before title))
    (λ i byte changed within other long e.
    let r = reads changed (title ++ (set form i byte ++ others)) long (e ∙ append_assoc before title (set form i byte ++ others)) in
    r.stops (fault (at + length title + i) NotIdentity) (form_changed changed title others at i byte r.within within other r.is)) in
    (name, (later, tt))

pub changed_told : (s : Tables) (tree bytes : List ℕ) → IsFileOf s tree bytes → length bytes < 2 ^ 32 → AllByRecursion (IsTold bytes) (fixed_parts s)
changed_told s tree bytes file few =
    let magic = codes "BINJS" in
    let one = varnum 1 in
    let gs = section (codes "[GRAMMAR]") (grammar s.kinds) in
    let ss = section (codes "[STRINGS]") (strings s.texts) in
    let ts = section (codes "[TREE]") tree in
    let whole : bytes ≡ magic ++ (one ++ (gs ++ (ss ++ (ts ++ [])))) = file.spelling ∙ container_parts s tree in
    let first : IsTold bytes (record { at = 0; due = magic; why = BadMagic }) =
    told bytes (record { at = 0; due = magic; why = BadMagic }) [] (one ++ (gs ++ (ss ++ (ts ++ [])))) whole refl (λ i byte changed within other long e.
    let f = fault (0 + i) BadMagic in
    (stops_in_head changed f (sym (refused (fixed_at changed magic BadMagic 0) (λ at. version_at changed at) f (fixed_changed changed magic (one ++ (gs ++ (ss ++ (ts ++ [])))) BadMagic 0 i byte (omega arith) within other (range_to_end changed 0 ∙ e))))).layout) in
    let g = section_told bytes (magic ++ one) (codes "[GRAMMAR]") (grammar s.kinds) (ss ++ (ts ++ [])) grammar_start (whole ∙ sym (append_assoc magic one (gs ++ (ss ++ (ts ++ []))))) (sym (length-append magic one))
    (λ changed rest long e.
    let h = head_passed changed rest (range_to_end changed 0 ∙ e ∙ append_assoc magic one rest) in
    record { within = h.within; is = h.rest; stops = λ f stop. (stops_in_grammar h.reached f (sym stop)).layout }) in
    let x = section_told bytes ((magic ++ one) ++ gs) (codes "[STRINGS]") (strings s.texts) (ts ++ []) (strings_start s)
    (whole ∙ sym (append_assoc magic one (gs ++ (ss ++ (ts ++ [])))) ∙ sym (append_assoc (magic ++ one) gs (ss ++ (ts ++ []))))
    (omega (arith, length-append (magic ++ one) gs, length-append magic one))
    (λ changed rest long e.
    let h = head_passed changed (gs ++ rest) (range_to_end changed 0 ∙ e ∙ append_assoc (magic ++ one) gs rest ∙ append_assoc magic one (gs ++ rest)) in
    let k = kinds_passed changed grammar_start s.kinds rest h.reached file.distinct_kinds h.within (omega arith) h.rest in
    record { within = k.within; is = k.rest; stops = λ f stop. (stops_in_strings k.reached f (sym stop)).layout }) in
    let t = section_told bytes (((magic ++ one) ++ gs) ++ ss) (codes "[TREE]") tree [] (tree_start s)
    (whole ∙ sym (append_assoc magic one (gs ++ (ss ++ (ts ++ [])))) ∙ sym (append_assoc (magic ++ one) gs (ss ++ (ts ++ []))) ∙ sym (append_assoc ((magic ++ one) ++ gs) ss (ts ++ [])))
    (omega (arith, length-append ((magic ++ one) ++ gs) ss, length-append (magic ++ one) gs, length-append magic one))
    (λ changed rest long e.
    let h = head_passed changed (gs ++ (ss ++ rest)) (range_to_end changed 0 ∙ e ∙ append_assoc ((magic ++ one) ++ gs) ss rest ∙ append_assoc (magic ++ one) gs (ss ++ rest) ∙ append_assoc magic one (gs ++ (ss ++ rest))) in
    let k = kinds_passed changed grammar_start s.kinds (ss ++ rest) h.reached file.distinct_kinds h.within (omega arith) h.rest in
    let p = texts_passed changed (strings_start s) s.kinds s.texts rest k.reached file.distinct_texts file.entries k.within (omega arith) k.rest in
    record { within = p.within; is = p.rest; stops = λ f stop. (stops_in_tree p.reached f (sym stop)).layout }) in
    (first, (g.0, (g.1.0, (x.0, (x.1.0, (t.0, (t.1.0, tt)))))))

-- ---- a container with more after it

pub trailing_told : (s : Tables) (tree bytes more : List ℕ) → IsFileOf s tree bytes → length (bytes ++ more) < 2 ^ 32 → 0 < length more → layout_of (bytes ++ more) ≡ Err (fault (length bytes) Trailing)
trailing_told s tree bytes more file few some =
    let all = bytes ++ more in
    let end = length all in
    let ss = section (codes "[STRINGS]") (strings s.texts) in
    let ts = section (codes "[TREE]") tree in
    let whole = ap (λ (xs : List ℕ). xs ++ more) file.spelling ∙ container_more s tree more in
    let h = head_passed all _ (range_to_end all 0 ∙ whole) in
    let k = kinds_passed all grammar_start s.kinds (ss ++ (ts ++ more)) h.reached file.distinct_kinds h.within few h.rest in
    let p = texts_passed all (strings_start s) s.kinds s.texts (ts ++ more) k.reached file.distinct_texts file.entries k.within few k.rest in
    let t = section_read all (codes "[TREE]") (tree_start s) tree more p.within few p.rest in
    let from = content_from (codes "[TREE]") (tree_start s) tree in
    let to = from + length tree in
    let left : to + length more ≡ end = left_length all to end more t.within (omega arith) t.rest in
    let last : to ≡ length bytes = omega (arith, length-append bytes more) in
    let over : to < end = omega arith in
    layout_left all _ (fault to Trailing) (behind_tree p.reached (from, to) (sym t.is)) (rw (lt-ltb to end over) refl) ∙ ap (λ (n : ℕ). Err (fault n Trailing)) last
