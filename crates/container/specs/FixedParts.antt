-- The bytes that stand in every container, and the fault where one of them is another.
use Rattle.std.specs.Prelude.{◌≡◌, ◌≢◌, ℕ, ◌+◌, ◌<◌, List, [], ◌∷◌, ◌++◌, codes, length, slice_index, slice_set, Err}
use Rattle.bast_base.specs.declared.errors.Why.{Why}
use Rattle.bast_base.specs.declared.errors.Why.TheVariants.{BadMagic, BadSection, NotIdentity}
use Rattle.var_numbers.specs.Varnum.{varnum}
use Rattle.container.specs.Answers.{fault}
use Rattle.container.specs.Container.{grammar, section, strings}
use Rattle.container.specs.Layout.{layout_of}
use Rattle.container.specs.Tables.{Tables}

-- bytes that are due at a place, and the cause where one differs
pub record FixedPart : Type 0 where
  pub at : ℕ
  pub due : List ℕ
  pub why : Why

-- the two of a section that begins at a place
abbrev pub section_fixed : List ℕ → ℕ → List FixedPart
section_fixed title at = record { at = at; due = title; why = BadSection } ∷ record { at = at + length title; due = codes "identity;"; why = NotIdentity } ∷ []

-- where each section begins
abbrev pub grammar_start : ℕ
grammar_start = length (codes "BINJS") + length (varnum 1)

abbrev pub strings_start : Tables → ℕ
strings_start s = grammar_start + length (section (codes "[GRAMMAR]") (grammar s.kinds))

abbrev pub tree_start : Tables → ℕ
tree_start s = strings_start s + length (section (codes "[STRINGS]") (strings s.texts))

-- the fixed parts of a container over two tables, in a file's order
abbrev pub fixed_parts : Tables → List FixedPart
fixed_parts s =
    record { at = 0; due = codes "BINJS"; why = BadMagic }
    ∷ (section_fixed (codes "[GRAMMAR]") grammar_start ++ (section_fixed (codes "[STRINGS]") (strings_start s) ++ section_fixed (codes "[TREE]") (tree_start s)))

-- The part stands in the file, and with another byte in place of one of its own the file's first fault is there, with the
-- part's cause.
abbrev pub IsTold : List ℕ → FixedPart → Type 0
IsTold file part =
    (i byte : ℕ) → i < length part.due → slice_index part.due i ≢ byte
    → (slice_index file (part.at + i) ≡ slice_index part.due i) × (layout_of (slice_set file (part.at + i) byte) ≡ Err (fault (part.at + i) part.why))
