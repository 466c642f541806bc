-- From what was read of a file to its whole reading.
use Rattle.std.proofs.Common.{◌≡◌, ℕ, true, List, Option, None, Result, Ok, Err, IfOk, IsTrue, subst, sym, ap, ◌∙◌}
use Rattle.bast_schema.specs.Counts.{is_whole}
use Rattle.bast_schema.specs.NamesHold.{names_hold}
use Rattle.bast_schema.specs.Tree.{Tree, typed}
use Rattle.tree_decoder.specs.LazyKinds.{first_lazy}
use Rattle.tree_decoder.specs.Reading.{IsTreeOf}
use Rattle.tree_decoder.specs.WholeReading.{is_text_of, Decodes, Judges}
use Rattle.tree_decoder.specs.declared.files.ReadRefusal.{ReadRefusal}
use Rattle.tree_decoder.specs.declared.files.ReadRefusal.TheVariants as refusal
use Rattle.tree_decoder.specs.Outer.{tree_range}
use Rattle.tree_decoder.proofs.EagerWhole.{eager_is_whole}
use Rattle.tree_decoder.proofs.Whole.{named_where_stands}
use Rattle.violations.specs.Violations.{first_violation, script}

abbrev Table : Type 0
Table = List (Option (List ℕ))

same_tree : (bytes : List ℕ) (texts strings : Table) (t u : Tree) → strings ≡ texts → u ≡ t → IsTreeOf bytes texts t → IsTreeOf bytes strings u
same_tree bytes texts strings t u a b is =
    subst (λ (x : Table). IsTreeOf bytes x u) (sym a) (subst (λ (x : Tree). IsTreeOf bytes texts x) (sym b) is)

same_judged : (texts strings : Table) (t u : Tree) → strings ≡ texts → u ≡ t → (first_lazy t ≡ None) × (first_violation texts script t ≡ None) → (first_lazy u ≡ None) × (first_violation strings script u ≡ None)
same_judged texts strings t u a b is = (ap first_lazy b ∙ is.0, ap (λ (x : Table). first_violation x script u) a ∙ ap (first_violation texts script) b ∙ is.1)

-- a tree that a file spells, and what it comes to
pub decoded : (bytes : List ℕ) (texts : Table) (t : Tree) (r : Result (Tree × Table) ReadRefusal) → IsTreeOf bytes texts t → Judges texts t r → Decodes bytes r
decoded bytes texts t (Ok x) is judged =
    let same = same_judged texts x.1 t x.0 judged.1 judged.0 (judged.2, judged.3)
    in (same_tree bytes texts x.1 t x.0 judged.1 judged.0 is, same.0, same.1)
decoded bytes texts t (Err refusal.Memory) is judged = tt
decoded bytes texts t (Err (refusal.Format f)) is judged = absurd judged
decoded bytes texts t (Err (refusal.NotYet n)) is judged = (texts, t, is, judged)
decoded bytes texts t (Err (refusal.Check v name)) is judged = (texts, (t, is, judged.0, judged.1), judged.2)

judged_whole_of : (texts : Table) (t : Tree) → typed t ≡ true → (r : Result (Tree × Table) ReadRefusal) → Judges texts t r → IfOk r (λ x. IsTrue (is_whole x.0))
judged_whole_of texts t is (Ok x) judged = let same : is_whole x.0 ≡ is_whole t = ap is_whole judged.0 in same ∙ eager_is_whole t is judged.2
judged_whole_of texts t is (Err e) judged = tt

pub judged_whole : (bytes : List ℕ) (texts : Table) (t : Tree) (r : Result (Tree × Table) ReadRefusal) → IsTreeOf bytes texts t → Judges texts t r → IfOk r (λ x. IsTrue (is_whole x.0))
judged_whole bytes texts t r is judged = judged_whole_of texts t is.file.script.typed r judged

tree_named : (bytes : List ℕ) (texts : Table) (t : Tree) → IsTreeOf bytes texts t → names_hold (is_text_of texts) t ≡ true
tree_named bytes texts t is = subst (λ (x : Table). names_hold (is_text_of x) t ≡ true) is.texts_are (named_where_stands (tree_range bytes is.layout) t is.file.script.stands)

pub judged_named : (bytes : List ℕ) (texts : Table) (t : Tree) (r : Result (Tree × Table) ReadRefusal) → IsTreeOf bytes texts t → Judges texts t r → IfOk r (λ x. IsTrue (names_hold (is_text_of x.1) x.0))
judged_named bytes texts t (Ok x) is judged = ap (λ (y : Table). names_hold (is_text_of y) x.0) judged.1 ∙ ap (names_hold (is_text_of texts)) judged.0 ∙ tree_named bytes texts t is
judged_named bytes texts t (Err e) is judged = tt
