-- The dues of a container in a few parts, and how many bytes lie outside of its tree.
use Rattle.std.proofs.Common.{◌≡◌, ℕ, List, [], ◌∷◌, ◌++◌, length, refl, sym, ap, ◌∙◌, codes, Option, Result, Ok, Err}
use Rattle.bast_base.specs.declared.errors.FormatFault.{FormatFault}
use Rattle.bast_base.specs.declared.errors.Why.TheVariants.{BadMagic, BadSection, NotIdentity}
use Rattle.bast_schema.specs.declared.kind.Kind.{Kind}
use Rattle.container.specs.declared.layout.Layout.{Layout}
use Rattle.container.specs.Answers.{◌>>=◌}
use Rattle.container.specs.Clauses.{head_at, section_at, whole_table}
use Rattle.container.specs.Entries.{more_kinds, more_texts}
use Rattle.container.specs.Layout.{Due, Reached, before_tree, fixed, input_end, kinds, layout_of, reach, reach_all, section_end, section_start, size, start, texts, tree, version}
use Rattle.container.specs.Parts.{done_at}
use Rattle.container.proofs.Answered.{answered, came_from, refused, regrouped}

abbrev pub read : List Kind → List (Option (List ℕ)) → ℕ × ℕ → Reached
read ks ts t = record { layout = record { kinds = ks; strings = ts; from = t.0; to = t.1 }; at = t.0 }

-- the parts from each on

abbrev pub from_tree : List ℕ → List Kind → List (Option (List ℕ)) → ℕ → Result Reached FormatFault
from_tree bytes ks ts at = section_at bytes (codes "[TREE]") at >>= λ t. Ok (read ks ts t)

abbrev pub from_texts : List ℕ → List Kind → ℕ × ℕ → Result Reached FormatFault
from_texts bytes ks s = whole_table more_texts bytes s.1 s.0 >>= λ ts. from_tree bytes ks ts s.1

abbrev pub from_strings : List ℕ → List Kind → ℕ → Result Reached FormatFault
from_strings bytes ks at = section_at bytes (codes "[STRINGS]") at >>= λ s. from_texts bytes ks s

abbrev pub from_kinds : List ℕ → ℕ × ℕ → Result Reached FormatFault
from_kinds bytes g = whole_table more_kinds bytes g.1 g.0 >>= λ ks. from_strings bytes ks g.1

abbrev pub from_grammar : List ℕ → ℕ → Result Reached FormatFault
from_grammar bytes at = section_at bytes (codes "[GRAMMAR]") at >>= λ g. from_kinds bytes g

-- the dues of each part, whatever is due behind them

head_reached : (bytes : List ℕ) (ds : List Due) → reach_all bytes (fixed (codes "BINJS") BadMagic ∷ version ∷ ds) start ≡ (head_at bytes >>= λ h. reach_all bytes ds (record start { at = h }))
head_reached bytes ds = simp regrouped

section_reached : (bytes title : List ℕ) (ds : List Due) (r : Reached)
    → reach_all bytes (fixed title BadSection ∷ fixed (codes "identity;") NotIdentity ∷ size ∷ ds) r ≡ (section_at bytes title r.at >>= λ s. reach_all bytes ds (record { layout = record r.layout { from = s.0; to = s.1 }; at = s.0 }))
section_reached bytes title ds r = simp regrouped

kinds_reached : (bytes : List ℕ) (ds : List Due) (r : Reached)
    → reach_all bytes (kinds ∷ section_end ∷ ds) r ≡ (whole_table more_kinds bytes r.layout.to r.at >>= λ ks. reach_all bytes ds (record { layout = record r.layout { kinds = ks }; at = r.layout.to }))
kinds_reached bytes ds r = simp regrouped

texts_reached : (bytes : List ℕ) (ds : List Due) (r : Reached)
    → reach_all bytes (texts ∷ section_end ∷ ds) r ≡ (whole_table more_texts bytes r.layout.to r.at >>= λ ts. reach_all bytes ds (record { layout = record r.layout { strings = ts }; at = r.layout.to }))
texts_reached bytes ds r = simp regrouped

under : {A B : Type 0} (m : Result A FormatFault) (f g : A → Result B FormatFault) → ((x : A) → f x ≡ g x) → (m >>= f) ≡ (m >>= g)
under (Ok x) f g e = e x
under (Err f') f g e = refl

strings_parts : (bytes : List ℕ) (r : Reached)
    → reach_all bytes (fixed (codes "[STRINGS]") BadSection ∷ fixed (codes "identity;") NotIdentity ∷ size ∷ texts ∷ section_end ∷ section_start (codes "[TREE]")) r ≡ from_strings bytes r.layout.kinds r.at
strings_parts bytes r =
    section_reached bytes (codes "[STRINGS]") (texts ∷ section_end ∷ section_start (codes "[TREE]")) r
    ∙ under (section_at bytes (codes "[STRINGS]") r.at) _ (λ s. from_texts bytes r.layout.kinds s) (λ s.
    texts_reached bytes (section_start (codes "[TREE]")) (record { layout = record r.layout { from = s.0; to = s.1 }; at = s.0 })
    ∙ under (whole_table more_texts bytes s.1 s.0) _ (λ ts. from_tree bytes r.layout.kinds ts s.1) (λ ts.
    section_reached bytes (codes "[TREE]") [] (record { layout = record r.layout { strings = ts; from = s.0; to = s.1 }; at = s.1 })))

pub parts : (bytes : List ℕ) → reach_all bytes before_tree start ≡ (head_at bytes >>= λ h. from_grammar bytes h)
parts bytes =
    let behind : List Due = fixed (codes "[STRINGS]") BadSection ∷ fixed (codes "identity;") NotIdentity ∷ size ∷ texts ∷ section_end ∷ section_start (codes "[TREE]") in
    head_reached bytes (section_start (codes "[GRAMMAR]") ++ (kinds ∷ section_end ∷ behind))
    ∙ under (head_at bytes) _ (λ h. from_grammar bytes h) (λ h.
    section_reached bytes (codes "[GRAMMAR]") (kinds ∷ section_end ∷ behind) (record start { at = h })
    ∙ under (section_at bytes (codes "[GRAMMAR]") h) _ (λ g. from_kinds bytes g) (λ g.
    kinds_reached bytes behind (record { layout = record start.layout { from = g.0; to = g.1 }; at = g.0 })
    ∙ under (whole_table more_kinds bytes g.1 g.0) _ (λ ks. from_strings bytes ks g.1) (λ ks.
    strings_parts bytes (record { layout = record start.layout { kinds = ks; from = g.0; to = g.1 }; at = g.1 }))))

reach_append : (bytes : List ℕ) (xs ys : List Due) (r : Reached) → reach_all bytes (xs ++ ys) r ≡ (reach_all bytes xs r >>= λ q. reach_all bytes ys q)
reach_append bytes [] ys r = refl
reach_append bytes (x ∷ xs) ys r =
    under (reach bytes x r) (λ q. reach_all bytes (xs ++ ys) q) (λ q. reach_all bytes xs q >>= λ p. reach_all bytes ys p) (λ q. reach_append bytes xs ys q)
    ∙ sym (regrouped (reach bytes x r) (reach_all bytes xs) (λ p. reach_all bytes ys p))

last : List ℕ → Reached → Result Layout FormatFault
last bytes r = reach_all bytes (tree ∷ input_end ∷ []) r >>= λ q. Ok q.layout

layout_is : (bytes : List ℕ) → layout_of bytes ≡ (reach_all bytes before_tree start >>= λ r. last bytes r)
unfolding layout_of last
layout_is bytes =
    ap (λ m. m >>= λ q. Ok q.layout) (reach_append bytes before_tree (tree ∷ input_end ∷ []) start)
    ∙ regrouped (reach_all bytes before_tree start) (λ p. reach_all bytes (tree ∷ input_end ∷ []) p) (λ q. Ok q.layout)

pub layout_stops : (bytes : List ℕ) (f : FormatFault) → reach_all bytes before_tree start ≡ Err f → layout_of bytes ≡ Err f
layout_stops bytes f is = layout_is bytes ∙ refused (reach_all bytes before_tree start) (last bytes) f is

pub layout_left : (bytes : List ℕ) (r : Reached) (f : FormatFault) → reach_all bytes before_tree start ≡ Ok r → Err f ≡ done_at (length bytes) r.layout.to → layout_of bytes ≡ Err f
unfolding last
layout_left bytes r f is left = layout_is bytes ∙ answered (reach_all bytes before_tree start) (last bytes) r is ∙ rw (← left) refl

pub layout_stands : (bytes : List ℕ) (r : Reached) → reach_all bytes before_tree start ≡ Ok r → Ok tt ≡ done_at (length bytes) r.layout.to → layout_of bytes ≡ Ok r.layout
unfolding last
layout_stands bytes r is done = layout_is bytes ∙ answered (reach_all bytes before_tree start) (last bytes) r is ∙ rw (← done) refl

-- where a layout is read, all before the tree was, and the tree ends the bytes
pub record Known (bytes : List ℕ) (l : Layout) : Type 0 where
  pub reached : Reached
  pub parts : (head_at bytes >>= λ h. from_grammar bytes h) ≡ Ok reached
  pub layout : reached.layout ≡ l
  pub done : done_at (length bytes) reached.layout.to ≡ Ok tt

pub layout_known : (bytes : List ℕ) (l : Layout) → layout_of bytes ≡ Ok l → Known bytes l
unfolding last
layout_known bytes l is =
    let p = came_from (reach_all bytes before_tree start) (last bytes) l (sym (layout_is bytes) ∙ is) in
    let at_end : Reached = record p.0 { at = p.0.layout.to } in
    let a = came_from (reach_all bytes (tree ∷ input_end ∷ []) p.0) (λ q. Ok q.layout) l p.2 in
    let b = came_from (done_at (length bytes) p.0.layout.to >>= λ done. Ok at_end) (reach_all bytes []) a.0 a.1 in
    let c = came_from (done_at (length bytes) p.0.layout.to) (λ done. Ok at_end) b.0 b.1 in
    let first : at_end ≡ b.0 = let e = c.2 in cc in
    let second : b.0 ≡ a.0 = let e = b.2 in cc in
    let third : a.0.layout ≡ l = let e = a.2 in cc in
    record {
      reached = p.0;
      parts = sym (parts bytes) ∙ p.1;
      layout = ap (λ (r : Reached). r.layout) (first ∙ second) ∙ third;
      done = c.1;
    }
