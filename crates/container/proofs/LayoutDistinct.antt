-- No text stands twice in a layout that is read, whatever the bytes are.
use Rattle.std.proofs.Common.{◌≡◌, ℕ, List, codes, Ok, Option, subst}
use Rattle.std.specs.List.{IsDistinct}
use Rattle.string_table.specs.Entries.{AreDistinct}
use Rattle.container.specs.Answers.{◌>>=◌}
use Rattle.container.specs.Clauses.{head_at, section_at, whole_table}
use Rattle.container.specs.Entries.{more_kinds, more_texts}
use Rattle.container.specs.Layout.{Reached, layout_of}
use Rattle.container.specs.declared.layout.Layout.{Layout}
use Rattle.container.proofs.Added.{texts_stay_distinct}
use Rattle.container.proofs.Answered.{came_from}
use Rattle.container.proofs.LayoutLemmas.{from_grammar, from_kinds, from_strings, from_texts, from_tree, layout_known, read}
use Rattle.container.proofs.TableSpelled.{none_distinct, table_keeps}

pub layout_distinct : (bytes : List ℕ) (l : Layout) → layout_of bytes ≡ Ok l → AreDistinct l.strings
layout_distinct bytes l is =
    let known = layout_known bytes l is in
    let head = came_from (head_at bytes) (λ h. from_grammar bytes h) known.reached known.parts in
    let g = came_from (section_at bytes (codes "[GRAMMAR]") head.0) (λ g. from_kinds bytes g) known.reached head.2 in
    let ks = came_from (whole_table more_kinds bytes g.0.1 g.0.0) (λ ks. from_strings bytes ks g.0.1) known.reached g.2 in
    let s = came_from (section_at bytes (codes "[STRINGS]") g.0.1) (λ s. from_texts bytes ks.0 s) known.reached ks.2 in
    let ts = came_from (whole_table more_texts bytes s.0.1 s.0.0) (λ ts. from_tree bytes ks.0 ts s.0.1) known.reached s.2 in
    let t = came_from (section_at bytes (codes "[TREE]") s.0.1) (λ t. Ok (read ks.0 ts.0 t)) known.reached ts.2 in
    let same : read ks.0 ts.0 t.0 ≡ known.reached = let e2 = t.2 in cc in
    let distinct : AreDistinct ts.0 = table_keeps AreDistinct more_texts texts_stay_distinct none_distinct bytes s.0.1 s.0.0 ts.0 ts.1 in
    let there : AreDistinct known.reached.layout.strings = subst (λ (r : Reached). AreDistinct r.layout.strings) same distinct in
    subst (λ (x : Layout). AreDistinct x.strings) known.layout there
