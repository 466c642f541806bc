-- Every file has a whole reading, and which files are read as a tree.
use Rattle.std.proofs.Common.{◌≡◌, ℕ, ◌<◌, ◌≤◌, ◌&&◌, true, List, length, Option, Some, None, Result, Ok, Err, refl, subst, sym, ap, ◌∙◌, arith}
use Rattle.std.specs.List.{All}
use Rattle.bast_base.specs.declared.errors.FormatFault.{FormatFault}
use Rattle.bast_schema.specs.Counts.{is_whole}
use Rattle.bast_schema.specs.Held.{Held}
use Rattle.bast_schema.specs.Tree.{Tree, typed}
use Rattle.bast_schema.proofs.Both.{and_first, and_second}
use Rattle.container.specs.Atoms.{atoms}
use Rattle.container.specs.InFile.{is_unnested}
use Rattle.container.specs.IsContainer.{layout_in}
use Rattle.container.specs.Layout.{layout_of}
use Rattle.container.specs.Named.{named}
use Rattle.container.specs.Spelled.{spelled}
use Rattle.container.specs.declared.layout.Layout.{Layout}
use Rattle.container.proofs.LayoutDistinct.{layout_distinct}
use Rattle.container.proofs.LayoutSpelled.{layout_is_container}
use Rattle.container.proofs.ReadBack.{layout_read}
use Rattle.scope_facts.specs.declared.context.Violation.{Violation}
use Rattle.string_table.specs.Entries.{AreDistinct}
use Rattle.tree_decoder.specs.FileLaws.{IsSoundFile}
use Rattle.tree_decoder.specs.LazyKinds.{first_lazy}
use Rattle.tree_decoder.specs.Outer.{tree_range}
use Rattle.tree_decoder.specs.Reading.{fault_in, first_fault, tree_fault, IsFileOfScript, IsTreeOf}
use Rattle.tree_decoder.specs.WholeReading.{Whole, faulty, not_yet, violated, whole, IsWhole}
use Rattle.tree_decoder.proofs.EagerWhole.{eager_is_whole}
use Rattle.tree_decoder.proofs.InGrammar.{in_grammar-accepted, read-in_grammar, range_sound, file_of, one_tree_in_file}
use Rattle.tree_decoder.proofs.LazyAtoms.{eager_read}
use Rattle.tree_decoder.proofs.OneScript.{one_over}
use Rattle.tree_decoder.proofs.SameTree.{same_tree}
use Rattle.tree_decoder.proofs.Rows.{script_there}
use Rattle.violations.specs.Violations.{first_violation, script}
use Rattle.violations.proofs.Least.{first_violation_is_least}

abbrev Table : Type 0
Table = List (Option (List ℕ))

abbrev AreBytes : List ℕ → Type 0
AreBytes bytes = All (λ byte. byte < 256) bytes

-- what the tree of a file comes to
by_violation : (bytes : List ℕ) (texts : Table) (t : Tree) (o : Option Violation) → IsTreeOf bytes texts t → first_lazy t ≡ None → first_violation texts script t ≡ o → (w : Whole) × IsWhole bytes w
by_violation bytes texts t (Some v) is none found = (violated texts v, (t, is, none, found))
by_violation bytes texts t None is none found = (whole texts t, (is, none, found))

by_lazy : (bytes : List ℕ) (texts : Table) (t : Tree) (o : Option ℕ) → IsTreeOf bytes texts t → first_lazy t ≡ o → (w : Whole) × IsWhole bytes w
by_lazy bytes texts t (Some n) is found = (not_yet n, (texts, t, is, found))
by_lazy bytes texts t None is none = by_violation bytes texts t (first_violation texts script t) is none refl

-- the script that is spelled where no fault is found
pub file_there : (bytes : List ℕ) (l : Layout) → length bytes ≤ 8388608 → AreBytes bytes → layout_of bytes ≡ Ok l → tree_fault bytes l ≡ None → (t : Tree) × IsFileOfScript bytes l t
file_there bytes l short small is none =
    let made = layout_is_container bytes l small is in
    let r = tree_range bytes l in
    let found = script_there r l.from (range_sound bytes l short small made) made.order none in
    (found.0, record { container = is; script = found.1 })

by_fault : (bytes : List ℕ) (l : Layout) (o : Option FormatFault) → length bytes ≤ 8388608 → AreBytes bytes → layout_of bytes ≡ Ok l → tree_fault bytes l ≡ o → (w : Whole) × IsWhole bytes w
by_fault bytes l (Some f) short small is found = (faulty f, ap (fault_in bytes) is ∙ found)
by_fault bytes l None short small is none =
    let file = file_there bytes l short small is none in
    by_lazy bytes l.strings file.0 (first_lazy file.0) (record { layout = l; file = file.1; texts_are = refl }) refl

by_layout : (bytes : List ℕ) (r : Result Layout FormatFault) → length bytes ≤ 8388608 → AreBytes bytes → layout_of bytes ≡ r → (w : Whole) × IsWhole bytes w
by_layout bytes (Ok l) short small is = by_fault bytes l (tree_fault bytes l) short small is refl
by_layout bytes (Err f) short small is = (faulty f, ap (fault_in bytes) is)

pub file_is_read : (bytes : List ℕ) → length bytes ≤ 8388608 → AreBytes bytes → (w : Whole) × IsWhole bytes w
file_is_read bytes short small = by_layout bytes (layout_of bytes) short small refl

-- what is read whole is in the grammar

pub whole_is_sound : (bytes : List ℕ) (texts : Table) (t : Tree) → length bytes ≤ 8388608 → AreBytes bytes → IsWhole bytes (whole texts t) → IsSoundFile bytes texts t
whole_is_sound bytes texts t short small is =
    let l = is.0.layout in
    let file = is.0.file in
    let all = eager_is_whole t file.script.typed is.1 in
    let none_found = (first_violation_is_least texts script t).none is.2 in
    subst (λ (x : Table). IsSoundFile bytes x t) is.0.texts_are (record {
      in_file = (read-in_grammar bytes l t (omega arith) small file all).0;
      own = (read-in_grammar bytes l t (omega arith) small file all).1;
      eager = is.1;
      sound = (first_violation_is_least l.strings script t).none (rw is.0.texts_are is.2);
    })

-- and what is in the grammar is read whole

record Laid (bytes : List ℕ) (texts : Table) (t : Tree) : Type 0 where
  layout : Layout
  is : layout_of bytes ≡ Ok layout
  own : layout.strings ≡ texts

laid : (bytes : List ℕ) (texts : Table) (t : Tree) → IsSoundFile bytes texts t → Laid bytes texts t
laid bytes texts t sound =
    let file = sound.in_file in
    let h : Held = record { texts = texts; tape = bytes } in
    let tree = spelled file.tables h t in
    record {
      layout = layout_in file.tables tree bytes;
      is = (layout_read file.tables tree bytes (file_of bytes h t file) file.small).0;
      own = sound.own;
    }

same_there : (bytes : List ℕ) (texts : Table) (t u : Tree) (l : Layout) → AreBytes bytes → IsSoundFile bytes texts t → l.strings ≡ texts → IsFileOfScript bytes l u → t ≡ u
same_there bytes texts t u l small sound own file =
    let h : Held = record { texts = texts; tape = bytes } in
    let g : Held = record { texts = l.strings; tape = bytes } in
    let typed_whole = and_first (typed t && is_whole t) (is_unnested t) sound.in_file.typed_whole in
    let none = eager_read bytes h t l u small sound.in_file sound.eager file in
    let read = (read-in_grammar bytes l u sound.in_file.small small file (eager_is_whole u file.script.typed none)).0 in
    let atoms_are : atoms h t ≡ atoms g u = one_tree_in_file bytes h g t u sound.in_file read in
    let over : atoms h t ≡ atoms h u = atoms_are ∙ ap (λ (x : Table). atoms (record { texts = x; tape = bytes }) u) own in
    let named_u : named h u ≡ true = subst (λ (x : Table). named (record { texts = x; tape = bytes }) u ≡ true) own read.named in
    let apart : AreDistinct texts = subst AreDistinct own (layout_distinct bytes l file.container) in
    one_over h apart t u sound.in_file.named (and_second (typed t) (is_whole t) typed_whole)
    (same_tree h h t u (and_first (typed t) (is_whole t) typed_whole) file.script.typed sound.in_file.named named_u over)

pub sound_is_whole : (bytes : List ℕ) (texts : Table) (t : Tree) → length bytes ≤ 8388608 → AreBytes bytes → IsSoundFile bytes texts t → IsWhole bytes (whole texts t)
sound_is_whole bytes texts t short small sound =
    let at = laid bytes texts t sound in
    let l = at.layout in
    let h : Held = record { texts = texts; tape = bytes } in
    let none : first_fault bytes ≡ None = in_grammar-accepted bytes h t short small sound.in_file in
    let fine : tree_fault bytes l ≡ None = sym (ap (fault_in bytes) at.is) ∙ none in
    let file = file_there bytes l short small at.is fine in
    let same = same_there bytes texts t file.0 l small sound at.own file.1 in (
      record { layout = l; file = subst (λ (u : Tree). IsFileOfScript bytes l u) (sym same) file.1; texts_are = at.own },
      sound.eager,
      (first_violation_is_least texts script t).sound sound.sound,
    )
