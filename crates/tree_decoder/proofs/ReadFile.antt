-- What the reading of a container costs, and what is known of a script that was read.
use Rattle.std.proofs.Common.{◌≡◌, ℕ, ◌+◌, ◌-◌, ◌<◌, ◌≤◌, false, List, [], ◌∷◌, length, Result, Ok, Err, refl, ap, ◌∙◌, arith}
use Rattle.std.specs.List.{All}
use Rattle.bast_base.specs.declared.errors.FormatFault.{FormatFault}
use Rattle.container.specs.Layout.{Reached, before_tree, start, reach_all, layout_of, outside, less_content}
use Rattle.container.specs.declared.layout.Layout.{Layout}
use Rattle.container.proofs.LayoutLemmas.{layout_known, parts}
use Rattle.container.proofs.OutsideLemmas.{outside_read}
use Rattle.container.specs.IsContainer.{IsContainer}
use Rattle.container.proofs.LayoutSpelled.{layout_is_container}
use Rattle.tree_decoder.specs.Dues.{due}
use Rattle.tree_decoder.specs.Found.{Spent}
use Rattle.tree_decoder.specs.Outer.{tree_range}
use Rattle.tree_decoder.specs.OuterReading.{outside_windows, windows_in}
use Rattle.tree_decoder.specs.Script.{script, script_outcome}
use Rattle.tree_decoder.specs.Windows.{skipped}
use Rattle.tree_decoder.proofs.Machine.{skips_within}
use Rattle.tree_decoder.proofs.InGrammar.{range_sound}

-- where a container was read, its bytes outside the tree's content are all others
pub layout_outside : (bytes : List ℕ) (l : Layout) → layout_of bytes ≡ Ok l → outside bytes ≡ length bytes - (l.to - l.from)
layout_outside bytes l is =
    let known = layout_known bytes l is
    in outside_read bytes known.reached (parts bytes ∙ known.parts) ∙ ap (λ (x : Layout). length bytes - (x.to - x.from)) known.layout

less_content-le : (n : ℕ) (m : Result Reached FormatFault) → less_content n m ≤ n
less_content-le n (Ok r) = omega arith
less_content-le n (Err f) = omega arith

pub outside-le : (bytes : List ℕ) → outside bytes ≤ length bytes
unfolding outside
outside-le bytes = less_content-le (length bytes) (reach_all bytes before_tree start)

-- the steps of reading a container and then its tree are no more than the bytes outside the windows that were passed

windows_of : (bytes : List ℕ) (l : Layout) → layout_of bytes ≡ Ok l → outside_windows bytes ≡ length bytes - skipped (script_outcome (tree_range bytes l) l.from).windows
windows_of bytes l is = ap (λ (r : Result Layout FormatFault). length bytes - skipped (windows_in bytes r)) is

by_layout : (bytes : List ℕ) (r : Result Layout FormatFault) → All (λ byte. byte < 256) bytes → length bytes ≤ 8388608 → layout_of bytes ≡ r → outside bytes ≤ outside_windows bytes
by_layout bytes (Ok l) small short is =
    let made = layout_is_container bytes l small is
    in let r = tree_range bytes l
    in let within : skipped (script_outcome r l.from).windows ≤ l.to - l.from = skips_within r (due script 1 false ∷ []) l.from (range_sound bytes l short small made) made.order
    in omega (arith, windows_of bytes l is, layout_outside bytes l is, made.within)
by_layout bytes (Err f) small short is =
    let none : outside_windows bytes ≡ length bytes - 0 = ap (λ (r : Result Layout FormatFault). length bytes - skipped (windows_in bytes r)) is
    in omega (arith, none, outside-le bytes)

pub outside_at_most : (bytes : List ℕ) → All (λ byte. byte < 256) bytes → length bytes ≤ 8388608 → outside bytes ≤ outside_windows bytes
outside_at_most bytes small short = by_layout bytes (layout_of bytes) small short refl

pub spent_outside : (bytes : List ℕ) (l : Layout) (start mid end : ℕ) → layout_of bytes ≡ Ok l → IsContainer bytes l → mid ≤ start + outside bytes
    → Spent (script_outcome (tree_range bytes l) l.from).windows l.from l.to mid end → mid ≤ end → end ≤ start + outside_windows bytes
spent_outside bytes l start mid end is made before spent later = omega (arith, windows_of bytes l is, layout_outside bytes l is, made.order, made.within)
