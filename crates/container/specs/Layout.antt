-- What a container is made of, as one list of what is due in a file's order.
use Rattle.std.specs.Prelude.{ℕ, ◌-◌, List, [], ◌∷◌, ◌++◌, codes, length, Result, Ok, Err}
use Rattle.bast_base.specs.declared.errors.FormatFault.{FormatFault}
use Rattle.bast_base.specs.declared.errors.Why.{Why}
use Rattle.bast_base.specs.declared.errors.Why.TheVariants.{BadMagic, BadSection, NotIdentity}
use Rattle.container.specs.declared.layout.Layout.{Layout}
use Rattle.container.specs.Answers.{◌>>=◌}
use Rattle.container.specs.Parts.{fixed_at, version_at, counted_at, done_at}
use Rattle.container.specs.Entries.{table_at, more_kinds, more_texts}

pub data Due : Type 0 where
  -- these bytes; where one differs the cause is this
  fixed : List ℕ → Why → Due
  version : Due
  -- the length of the section, which then lies between two places
  size : Due
  kinds : Due
  texts : Due
  -- the end of the section
  section_end : Due
  tree : Due
  input_end : Due

abbrev pub section_start : List ℕ → List Due
section_start title = fixed title BadSection ∷ fixed (codes "identity;") NotIdentity ∷ size ∷ []

-- what is due before the content of the tree
abbrev pub before_tree : List Due
before_tree =
    fixed (codes "BINJS") BadMagic ∷ version
    ∷ (section_start (codes "[GRAMMAR]") ++ (kinds ∷ section_end
    ∷ (section_start (codes "[STRINGS]") ++ (texts ∷ section_end
    ∷ section_start (codes "[TREE]")))))

abbrev pub dues : List Due
dues = before_tree ++ (tree ∷ input_end ∷ [])

-- what was read up to a place: the tables, and where the content of the last section begins and ends
pub record Reached : Type 0 where
  pub layout : Layout
  pub at : ℕ

abbrev pub start : Reached
start = record { layout = record { kinds = []; strings = []; from = 0; to = 0 }; at = 0 }

-- what is reached behind a due, or the first fault in it
abbrev pub reach : List ℕ → Due → Reached → Result Reached FormatFault
reach bytes (fixed due why) r = fixed_at bytes due why r.at >>= λ at. Ok (record r { at = at })
reach bytes version r = version_at bytes r.at >>= λ at. Ok (record r { at = at })
reach bytes size r = counted_at bytes (length bytes) r.at >>= λ s. Ok (record { layout = record r.layout { from = s.0; to = s.1 }; at = s.0 })
reach bytes kinds r = table_at more_kinds bytes r.layout.to r.at >>= λ t. Ok (record { layout = record r.layout { kinds = t.0 }; at = t.1 })
reach bytes texts r = table_at more_texts bytes r.layout.to r.at >>= λ t. Ok (record { layout = record r.layout { strings = t.0 }; at = t.1 })
reach bytes section_end r = done_at r.layout.to r.at >>= λ done. Ok (record r { at = r.layout.to })
reach bytes tree r = Ok (record r { at = r.layout.to })
reach bytes input_end r = done_at (length bytes) r.at >>= λ done. Ok r

-- what is reached behind all of these dues
abbrev pub reach_all : List ℕ → List Due → Reached → Result Reached FormatFault
reach_all bytes [] r = Ok r
reach_all bytes (due ∷ others) r = reach bytes due r >>= reach_all bytes others

-- The two tables of a container and where its tree lies, or its first fault.
unfoldable pub layout_of : List ℕ → Result Layout FormatFault
layout_of bytes = reach_all bytes dues start >>= λ r. Ok r.layout

abbrev pub less_content : ℕ → Result Reached FormatFault → ℕ
less_content n (Ok r) = n - (r.layout.to - r.layout.from)
less_content n (Err f) = n

-- how many bytes lie outside of the tree's content, where its length was read, and else in all
unfoldable pub outside : List ℕ → ℕ
outside bytes = less_content (length bytes) (reach_all bytes before_tree start)
