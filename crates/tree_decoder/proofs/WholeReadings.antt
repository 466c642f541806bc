-- A file has one reading, and one whole reading.
use Rattle.std.proofs.Common.{◌≡◌, ◌⊎◌, inl, inr, ℕ, List, Option, Some, None, refl, sym, ap, ◌∙◌, Result, Ok, subst}
use Rattle.bast_base.specs.declared.errors.FormatFault.{FormatFault}
use Rattle.bast_schema.specs.Tree.{Tree}
use Rattle.scope_facts.specs.declared.context.Violation.{Violation}
use Rattle.tree_decoder.specs.LazyKinds.{first_lazy}
use Rattle.tree_decoder.specs.Reading.{first_fault, IsTreeOf, fault_in, IsFileOfScript}
use Rattle.tree_decoder.specs.WholeReading.{Whole, faulty, not_yet, violated, whole, IsWhole}
use Rattle.violations.specs.Violations.{first_violation, script}
use Rattle.container.specs.Layout.{layout_of}
use Rattle.container.specs.declared.layout.Layout.{Layout}
use Rattle.container.proofs.LayoutDistinct.{layout_distinct}
use Rattle.tree_decoder.specs.Outcome.{Outcome}
use Rattle.tree_decoder.specs.Outer.{tree_range}
use Rattle.tree_decoder.proofs.OneScript.{one_script}

one_ok : (r : Result Layout FormatFault) (l m : Layout) → r ≡ Ok l → r ≡ Ok m → l ≡ m
one_ok r l m p q = cc

pub no_fault : (bytes : List ℕ) (l : Layout) (t : Tree) → IsFileOfScript bytes l t → first_fault bytes ≡ None
no_fault bytes l t file = ap (fault_in bytes) file.container ∙ ap (λ (o : Outcome). o.fault) file.script.outcome

one_layout : (bytes : List ℕ) (l m : Layout) (t u : Tree) → IsFileOfScript bytes l t → IsFileOfScript bytes m u → l ≡ m
one_layout bytes l m t u p q = one_ok (layout_of bytes) l m p.container q.container

pub one_file : (bytes : List ℕ) (l m : Layout) (t u : Tree) → IsFileOfScript bytes l t → IsFileOfScript bytes m u → (l ≡ m) × (t ≡ u)
one_file bytes l m t u p q =
    let same = one_layout bytes l m t u p q
    in let read : IsFileOfScript bytes l u = subst (λ (x : Layout). IsFileOfScript bytes x u) (sym same) q
    in (same, one_script (tree_range bytes l) l.from t u (layout_distinct bytes l p.container) p.script read.script)

pub one_tree_of : (bytes : List ℕ) (texts strings : List (Option (List ℕ))) (t u : Tree) → IsTreeOf bytes texts t → IsTreeOf bytes strings u → (texts ≡ strings) × (t ≡ u)
one_tree_of bytes texts strings t u p q =
    let same = one_file bytes p.layout q.layout t u p.file q.file
    in (sym p.texts_are ∙ ap (λ (l : Layout). l.strings) same.0 ∙ q.texts_are, same.1)

-- ---- of the whole

abbrev Table : Type 0
Table = List (Option (List ℕ))

-- the reading of the tree that a file spells
abbrev reading_of : Table → Tree → Option ℕ → Option Violation → Whole
reading_of texts t (Some n) o = not_yet n
reading_of texts t None (Some v) = violated texts v
reading_of texts t None None = whole texts t

record OfTree (bytes : List ℕ) (w : Whole) : Type 0 where
  texts : Table
  tree : Tree
  is : IsTreeOf bytes texts tree
  reading : w ≡ reading_of texts tree (first_lazy tree) (first_violation texts script tree)

of_tree_or_fault : (bytes : List ℕ) (w : Whole) → IsWhole bytes w → ((f : FormatFault) × (first_fault bytes ≡ Some f) × (w ≡ faulty f)) ⊎ OfTree bytes w
of_tree_or_fault bytes (faulty f) is = inl (f, is, refl)
of_tree_or_fault bytes (not_yet n) is = inr (record { texts = is.0; tree = is.1; is = is.2; reading = rw is.3 refl })
of_tree_or_fault bytes (violated texts v) is = inr (record { texts = texts; tree = is.0; is = is.1; reading = rw (is.2, is.3) refl })
of_tree_or_fault bytes (whole texts t) is = inr (record { texts = texts; tree = t; is = is.0; reading = rw (is.1, is.2) refl })

one_fault : (f g : FormatFault) → Some f ≡ Some g → f ≡ g
one_fault f g e = cc

faulty_tree : (bytes : List ℕ) (f : FormatFault) (w : Whole) → first_fault bytes ≡ Some f → OfTree bytes w → ⊥
faulty_tree bytes f w is o = let none : first_fault bytes ≡ None = no_fault bytes o.is.layout o.tree o.is.file in cc

same_trees : (bytes : List ℕ) (w v : Whole) → OfTree bytes w → OfTree bytes v → w ≡ v
same_trees bytes w v p q =
    let same = one_tree_of bytes p.texts q.texts p.tree q.tree p.is q.is
    in p.reading ∙ ap (λ (x : Table). reading_of x p.tree (first_lazy p.tree) (first_violation x script p.tree)) same.0
    ∙ ap (λ (x : Tree). reading_of q.texts x (first_lazy x) (first_violation q.texts script x)) same.1 ∙ sym q.reading

pub one_whole : (bytes : List ℕ) (w v : Whole) → IsWhole bytes w → IsWhole bytes v → w ≡ v
one_whole bytes w v p q =
    elim (of_tree_or_fault bytes w p) [
      | inl f ↦ elim (of_tree_or_fault bytes v q) [
        | inl g ↦ f.2 ∙ ap faulty (one_fault f.0 g.0 (sym f.1 ∙ g.1)) ∙ sym g.2
        | inr t ↦ absurd (faulty_tree bytes f.0 v f.1 t)
      ]
      | inr t ↦ elim (of_tree_or_fault bytes v q) [
        | inl g ↦ absurd (faulty_tree bytes g.0 w g.1 t)
        | inr u ↦ same_trees bytes w v t u
      ]
    ]
