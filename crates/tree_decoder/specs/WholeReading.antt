-- The whole reading of a file. One with a lazy function is refused yet, after its format and before its checks.
use Rattle.std.specs.Prelude.{◌≡◌, ℕ, Bool, List, Option, Some, None, is_some, get_or, Result, Ok, Err}
use Rattle.bast_base.specs.declared.errors.FormatFault.{FormatFault}
use Rattle.bast_schema.specs.Tree.{Tree}
use Rattle.scope_facts.specs.declared.context.Violation.{Violation}
use Rattle.tree_decoder.specs.declared.files.ReadRefusal.{ReadRefusal}
use Rattle.tree_decoder.specs.declared.files.ReadRefusal.TheVariants as refusal
use Rattle.tree_decoder.specs.LazyKinds.{first_lazy}
use Rattle.tree_decoder.specs.Reading.{first_fault, IsTreeOf}
use Rattle.violations.specs.Violations.{first_violation, name_in, script}

-- what it comes to: the first fault, the first lazy function, the first violation of the tree over the file's texts, or the
-- texts and the tree
pub data Whole : Type 0 where
  faulty : FormatFault → Whole
  not_yet : ℕ → Whole
  violated : List (Option (List ℕ)) → Violation → Whole
  whole : List (Option (List ℕ)) → Tree → Whole

abbrev pub IsWhole : List ℕ → Whole → Type 0
IsWhole bytes (faulty f) = first_fault bytes ≡ Some f
IsWhole bytes (not_yet n) = (texts : List (Option (List ℕ))) × (t : Tree) × IsTreeOf bytes texts t × (first_lazy t ≡ Some n)
IsWhole bytes (violated texts v) = (t : Tree) × IsTreeOf bytes texts t × (first_lazy t ≡ None) × (first_violation texts script t ≡ Some v)
IsWhole bytes (whole texts t) = IsTreeOf bytes texts t × (first_lazy t ≡ None) × (first_violation texts script t ≡ None)

-- whether a name is the place of a text
abbrev pub is_text_of : List (Option (List ℕ)) → ℕ → Bool
is_text_of texts n = is_some (get_or texts n None)

-- unless memory runs out, the answer is the whole reading; a violation comes with the text of its name
abbrev pub Decodes : List ℕ → Result (Tree × List (Option (List ℕ))) ReadRefusal → Type 0
Decodes bytes (Ok x) = IsWhole bytes (whole x.1 x.0)
Decodes bytes (Err refusal.Memory) = Unit {0}
Decodes bytes (Err (refusal.Format f)) = IsWhole bytes (faulty f)
Decodes bytes (Err (refusal.NotYet n)) = IsWhole bytes (not_yet n)
Decodes bytes (Err (refusal.Check v name)) = (texts : List (Option (List ℕ))) × IsWhole bytes (violated texts v) × (name ≡ name_in texts v)

-- the same of a tree that was read, over its texts
abbrev pub Judges : List (Option (List ℕ)) → Tree → Result (Tree × List (Option (List ℕ))) ReadRefusal → Type 0
Judges texts t (Ok x) = (x.0 ≡ t) × (x.1 ≡ texts) × (first_lazy t ≡ None) × (first_violation texts script t ≡ None)
Judges texts t (Err refusal.Memory) = Unit {0}
Judges texts t (Err (refusal.Format f)) = ⊥
Judges texts t (Err (refusal.NotYet n)) = first_lazy t ≡ Some n
Judges texts t (Err (refusal.Check v name)) = (first_lazy t ≡ None) × (first_violation texts script t ≡ Some v) × (name ≡ name_in texts v)

abbrev pub IsRefusalOf : List (Option (List ℕ)) → Violation → ReadRefusal → Type 0
IsRefusalOf texts v refusal.Memory = Unit {0}
IsRefusalOf texts v (refusal.Check w name) = (w ≡ v) × (name ≡ name_in texts v)
IsRefusalOf texts v _ = ⊥
