-- A file that is read as a whole tree is in the grammar of files, and a file in the grammar has no fault.
use Rattle.std.proofs.Common.{◌≡◌, ℕ, ◌<◌, ◌≤◌, ◌^◌, true, ◌&&◌, List, None, length, ap, ◌∙◌, refl, arith, slice_range, subst, sym}
use Rattle.std.specs.List.{All}
use Rattle.bast_schema.proofs.Both.{and_first, both, and_second}
use Rattle.bast_schema.specs.Held.{Held}
use Rattle.bast_schema.specs.Counts.{is_whole}
use Rattle.bast_schema.specs.Tree.{Tree, typed}
use Rattle.container.specs.Container.{container, entry_bytes}
use Rattle.container.specs.InFile.{InFile, is_unnested}
use Rattle.container.specs.IsContainer.{layout_in, tables, IsContainer, IsFileOf}
use Rattle.container.specs.Spelled.{spelled}
use Rattle.container.proofs.LayoutSpelled.{layout_is_container}
use Rattle.container.proofs.ReadBack.{layout_read, few_entries, one_reading}
use Rattle.container.specs.declared.layout.Layout.{Layout}
use Rattle.tree_decoder.specs.Outer.{tree_range}
use Rattle.tree_decoder.specs.Range.{IsSound}
use Rattle.tree_decoder.specs.Spelt.{IsSpelt}
use Rattle.tree_decoder.proofs.Whole.{script_accepted, spelt_by_itself, unnested_script}
use Rattle.tree_decoder.specs.Reading.{fault_in, first_fault, IsFileOfScript}
use Rattle.std.proofs.lemmas.Grind.{common_steps}
use Rattle.container.specs.Tables.{Tables}
use Rattle.container.specs.Atoms.{atoms}
use Rattle.tree_decoder.specs.OneTree.{IsOver}
use Rattle.tree_decoder.proofs.OneTree.{one_tree}

-- ---- a file in the grammar is that of one tree

pub file_of : (bytes : List ℕ) (h : Held) (t : Tree) (file : InFile bytes h t) → IsFileOf file.tables (spelled file.tables h t) bytes
file_of bytes h t file = record {
  distinct_kinds = file.distinct_kinds;
  distinct_texts = file.distinct_texts;
  entries = file.entries;
  spelling = file.spelling;
}

over : (bytes : List ℕ) (h : Held) (t : Tree) (file : InFile bytes h t) → IsOver file.tables h t
over bytes h t file =
    let both = and_first (typed t && is_whole t) (is_unnested t) file.typed_whole
    in record { has_all = file.has_all; typed = and_first (typed t) (is_whole t) both; whole = and_second (typed t) (is_whole t) both }

pub one_tree_in_file : (bytes : List ℕ) (h g : Held) (t u : Tree) → InFile bytes h t → InFile bytes g u → atoms h t ≡ atoms g u
one_tree_in_file bytes h g t u one other =
    let same = one_reading one.tables other.tables (spelled one.tables h t) (spelled other.tables g u) bytes (file_of bytes h t one) (file_of bytes g u other) one.small
    in let spelling : spelled one.tables h t ≡ spelled one.tables g u = same.1 ∙ ap (λ (s : Tables). spelled s g u) (sym same.0)
    in let a = over bytes h t one
    in let b = subst (λ (s : Tables). IsOver s g u) (sym same.0) (over bytes g u other)
    in one_tree one.tables h g t u a.has_all b.has_all a.typed b.typed a.whole b.whole spelling

-- ---- the range of a container's tree is sound

-- a table has no more entries than bytes
pub texts_within : (s : Tables) (tree : List ℕ) → length s.texts ≤ length (container s tree)
unfolding container
texts_within s tree = grind (arith, common_steps, few_entries entry_bytes s.texts)

pub range_sound : (bytes : List ℕ) (l : Layout) → length bytes ≤ 8388608 → All (λ byte. byte < 256) bytes → IsContainer bytes l → IsSound (tree_range bytes l)
range_sound bytes l short small file =
    let few : length l.strings < 2 ^ 32 = omega (arith, texts_within (tables l) (slice_range bytes l.from l.to), ap length file.spelling) in
    record { within = file.within; short = short; bytes = small; kinds = file.distinct_kinds; texts = file.distinct_texts; few = few }

-- ----

-- over the texts of its own table
pub read-in_grammar : (bytes : List ℕ) (l : Layout) (t : Tree) → length bytes < 2 ^ 32 → All (λ byte. byte < 256) bytes → IsFileOfScript bytes l t → is_whole t ≡ true
    → (f : InFile bytes (record { texts = l.strings; tape = bytes }) t) × (f.tables.texts ≡ l.strings)
read-in_grammar bytes l t few small file whole =
    let made = layout_is_container bytes l small file.container
    in let r = tree_range bytes l
    in let spelt = spelt_by_itself r l.from t file.script
    in (
      record {
        tables = tables l;
        distinct_kinds = made.distinct_kinds;
        distinct_texts = made.distinct_texts;
        entries = made.entries;
        has_all = spelt.has_all;
        named = spelt.named;
        spelling = made.spelling ∙ ap (container (tables l)) file.script.spelled;
        small = few;
        script = file.script.kind;
        typed_whole = both (typed t && is_whole t) (is_unnested t) (both (typed t) (is_whole t) file.script.typed whole) (unnested_script r l.from t file.script whole);
        shallow = file.script.shallow;
      },
      refl,
    )

-- a file in the grammar has no fault
pub in_grammar-accepted : (bytes : List ℕ) (h : Held) (t : Tree) → length bytes ≤ 8388608 → All (λ byte. byte < 256) bytes → InFile bytes h t → first_fault bytes ≡ None
in_grammar-accepted bytes h t short small file =
    let s = file.tables
    in let tree = spelled s h t
    in let is_file = file_of bytes h t file
    in let was_read = layout_read s tree bytes is_file file.small
    in let l = layout_in s tree bytes
    in let r = tree_range bytes l
    in let few : length s.texts < 2 ^ 32 = omega (arith, texts_within s tree, ap length file.spelling)
    in let sound : IsSound r = record {
      within = omega arith;
      short = short;
      bytes = small;
      kinds = file.distinct_kinds;
      texts = file.distinct_texts;
      few = few;
    }
    in let spelt : IsSpelt r l.from h t = record {
      spelled = was_read.1;
      has_all = file.has_all;
      named = file.named;
      kind = file.script;
      typed = and_first (typed t) (is_whole t) (and_first (typed t && is_whole t) (is_unnested t) file.typed_whole);
      shallow = file.shallow;
    }
    in let start : l.from ≤ r.end = omega arith
    in ap (fault_in bytes) was_read.0 ∙ script_accepted r l.from h t sound start spelt
