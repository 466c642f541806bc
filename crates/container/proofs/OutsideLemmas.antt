-- How far a container is read before its tree, and how many bytes lie outside of that.
use Rattle.std.proofs.Common.{◌≡◌, ℕ, ◌-◌, ◌≤◌, List, length, drop, refl, arith, codes, Option, Result, Ok, Err}
use Rattle.bast_base.specs.declared.errors.FormatFault.{FormatFault}
use Rattle.bast_base.specs.declared.errors.Why.{Why}
use Rattle.bast_base.specs.declared.errors.Why.TheVariants.{BadSection, NotIdentity}
use Rattle.bast_schema.specs.declared.kind.Kind.{Kind}
use Rattle.var_numbers.specs.VarnumRead.{moved}
use Rattle.container.specs.Answers.{◌>>=◌}
use Rattle.container.specs.Clauses.{section_at, whole_table}
use Rattle.container.specs.Entries.{more_kinds, more_texts}
use Rattle.container.specs.Layout.{Reached, before_tree, less_content, outside, reach_all, start}
use Rattle.container.specs.Parts.{agreeing, counted_at, fixed_at, number_from, so_many}
use Rattle.container.proofs.Answered.{came_from}
use Rattle.container.proofs.Counted.{moved_from, so_many_is}
use Rattle.container.proofs.Fixed.{shared_is}
use Rattle.container.proofs.LayoutLemmas.{from_kinds, from_strings, from_texts, from_tree, read}

moved_after : (at : ℕ) (m : Result (ℕ × ℕ) FormatFault) (n : ℕ × ℕ) → moved at m ≡ Ok n → at ≤ n.1
moved_after at m n is = omega (arith, (moved_from at m n is).place)

pub record After (bytes : List ℕ) (at end : ℕ) (r : ℕ × ℕ) : Type 0 where
  pub ahead : at ≤ r.0
  pub order : r.0 ≤ r.1
  pub within : r.1 ≤ end

so_many_after : (end at : ℕ) (n r : ℕ × ℕ) (bytes : List ℕ) → at ≤ n.1 → so_many end n ≡ Ok r → After bytes at end r
so_many_after end at n r bytes ahead is =
    let many = so_many_is end n r is in
    record { ahead = omega (arith, many.from); order = omega (arith, many.from, many.to); within = omega (arith, many.to, many.fits) }

counted_after : (bytes : List ℕ) (at end : ℕ) (r : ℕ × ℕ) → counted_at bytes end at ≡ Ok r → After bytes at end r
unfolding counted_at
counted_after bytes at end r is =
    let p = came_from (number_from bytes end at) (so_many end) r is in
    so_many_after end at p.0 r bytes (moved_after at _ p.0 p.1) p.2

fixed_after : (bytes due : List ℕ) (why : Why) (at next : ℕ) → fixed_at bytes due why at ≡ Ok next → at ≤ next
unfolding fixed_at
fixed_after bytes due why at next is = omega (arith, (shared_is bytes why at (length due) (agreeing due (drop at bytes)) next is).1)

section_after : (bytes title : List ℕ) (at : ℕ) (r : ℕ × ℕ) → section_at bytes title at ≡ Ok r → After bytes at (length bytes) r
section_after bytes title at r is =
    let p = came_from (fixed_at bytes title BadSection at) (λ p. fixed_at bytes (codes "identity;") NotIdentity p >>= λ q. counted_at bytes (length bytes) q) r is in
    let q = came_from (fixed_at bytes (codes "identity;") NotIdentity p.0) (λ q. counted_at bytes (length bytes) q) r p.2 in
    let a = counted_after bytes q.0 (length bytes) r q.2 in
    let first : at ≤ p.0 = fixed_after bytes title BadSection at p.0 p.1 in
    let second : p.0 ≤ q.0 = fixed_after bytes (codes "identity;") NotIdentity p.0 q.0 q.1 in
    record { ahead = omega (arith, a.ahead); order = a.order; within = a.within }

-- where the tree is found, its content lies from a place on
abbrev pub Least : List ℕ → ℕ → Result Reached FormatFault → Type 0
Least bytes at m = (r : Reached) → m ≡ Ok r → After bytes at (length bytes) (r.layout.from, r.layout.to)

earlier : (bytes : List ℕ) (at later end : ℕ) (r : ℕ × ℕ) → at ≤ later → After bytes later end r → After bytes at end r
earlier bytes at later end r le a = record { ahead = omega (arith, a.ahead); order = a.order; within = a.within }

tree_least : (bytes : List ℕ) (ks : List Kind) (ts : List (Option (List ℕ))) (at : ℕ) → Least bytes at (from_tree bytes ks ts at)
tree_least bytes ks ts at r is =
    let p = came_from (section_at bytes (codes "[TREE]") at) (λ t. Ok (read ks ts t)) r is in
    let a = section_after bytes (codes "[TREE]") at p.0 p.1 in
    let e : read ks ts p.0 ≡ r = let e2 = p.2 in cc in
    rw (← e) (record { ahead = a.ahead; order = a.order; within = a.within })

texts_least : (bytes : List ℕ) (ks : List Kind) (s : ℕ × ℕ) → Least bytes s.1 (from_texts bytes ks s)
texts_least bytes ks s r is =
    let p = came_from (whole_table more_texts bytes s.1 s.0) (λ ts. from_tree bytes ks ts s.1) r is in
    tree_least bytes ks p.0 s.1 r p.2

strings_least : (bytes : List ℕ) (ks : List Kind) (at : ℕ) → Least bytes at (from_strings bytes ks at)
strings_least bytes ks at r is =
    let p = came_from (section_at bytes (codes "[STRINGS]") at) (λ s. from_texts bytes ks s) r is in
    let a = section_after bytes (codes "[STRINGS]") at p.0 p.1 in
    earlier bytes at p.0.1 (length bytes) _ (omega (arith, a.ahead, a.order)) (texts_least bytes ks p.0 r p.2)

kinds_least : (bytes : List ℕ) (g : ℕ × ℕ) → Least bytes g.1 (from_kinds bytes g)
kinds_least bytes g r is =
    let p = came_from (whole_table more_kinds bytes g.1 g.0) (λ ks. from_strings bytes ks g.1) r is in
    strings_least bytes p.0 g.1 r p.2

content_least : (bytes : List ℕ) (at : ℕ) (m : Result Reached FormatFault) → at ≤ length bytes → Least bytes at m → at ≤ less_content (length bytes) m
content_least bytes at (Err f) small least = small
content_least bytes at (Ok r) small least = let a = least r refl in omega (arith, a.ahead, a.order, a.within)

outside_least : (bytes : List ℕ) (at : ℕ) (m : Result Reached FormatFault) → reach_all bytes before_tree start ≡ m → at ≤ length bytes → Least bytes at m → at ≤ outside bytes
unfolding outside
outside_least bytes at m is small least = rw is (content_least bytes at m small least)

-- while a table is read, at most the bytes up to its end were looked at

pub outside_kinds : (bytes : List ℕ) (g : ℕ × ℕ) → reach_all bytes before_tree start ≡ from_kinds bytes g → g.1 ≤ length bytes → g.1 ≤ outside bytes
outside_kinds bytes g is small = outside_least bytes g.1 (from_kinds bytes g) is small (kinds_least bytes g)

pub outside_texts : (bytes : List ℕ) (ks : List Kind) (s : ℕ × ℕ) → reach_all bytes before_tree start ≡ from_texts bytes ks s → s.1 ≤ length bytes → s.1 ≤ outside bytes
outside_texts bytes ks s is small = outside_least bytes s.1 (from_texts bytes ks s) is small (texts_least bytes ks s)

pub outside_all : (bytes : List ℕ) (f : FormatFault) → reach_all bytes before_tree start ≡ Err f → outside bytes ≡ length bytes
unfolding outside
outside_all bytes f is = rw is refl

pub outside_read : (bytes : List ℕ) (r : Reached) → reach_all bytes before_tree start ≡ Ok r → outside bytes ≡ length bytes - (r.layout.to - r.layout.from)
unfolding outside
outside_read bytes r is = rw is refl
