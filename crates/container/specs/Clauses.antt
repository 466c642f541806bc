-- What the readers of a container's parts answer, and where what they read lies.
use Rattle.std.specs.Prelude.{◌≡◌, ℕ, ◌<◌, ◌≤◌, List, codes, length, flat_map, Option, Result, Ok, Err}
use Rattle.bast_base.specs.declared.errors.FormatFault.{FormatFault}
use Rattle.bast_base.specs.declared.errors.Halt.{Halt}
use Rattle.bast_base.specs.declared.errors.Halt.TheVariants as halt
use Rattle.bast_base.specs.declared.errors.Why.TheVariants.{BadMagic, BadSection, NotIdentity}
use Rattle.bast_schema.specs.declared.kind.Kind.{Kind}
use Rattle.bast_schema.specs.Kinds.{kind_name}
use Rattle.container.specs.Answers.{◌>>=◌}
use Rattle.container.specs.Container.{counted, entry_bytes}
use Rattle.container.specs.Entries.{Judge, table_at}
use Rattle.container.specs.Parts.{fixed_at, version_at, counted_at, done_at}

-- Where all went well the answer is this value, and else it is the fault, unless memory ran out.
abbrev pub Changes : {A B : Type 0} → A → Result B Halt → Result A FormatFault → Type 0
Changes new (Ok _) wanted = wanted ≡ Ok new
Changes new (Err (halt.Format f)) wanted = wanted ≡ Err f
Changes new (Err halt.Memory) wanted = Unit {0}

-- the same with the place behind what was read
abbrev pub Passes : {A : Type 0} → A → Result ℕ Halt → Result (A × ℕ) FormatFault → Type 0
Passes new (Ok next) wanted = wanted ≡ Ok (new, next)
Passes new (Err (halt.Format f)) wanted = wanted ≡ Err f
Passes new (Err halt.Memory) wanted = Unit {0}

-- a range lies after a place, and not past the end
pub record IsAfter (at end : ℕ) (r : ℕ × ℕ) : Type 0 where
  pub ahead : at < r.0
  pub order : r.0 ≤ r.1
  pub within : r.1 ≤ end

-- the entries of a table, each behind its length
abbrev pub kind_entries : List Kind → List ℕ
kind_entries kinds = flat_map (λ k. counted (kind_name k)) kinds

abbrev pub text_entries : List (Option (List ℕ)) → List ℕ
text_entries texts = flat_map (λ entry. counted (entry_bytes entry)) texts

-- the place behind the first bytes of a file
abbrev pub head_at : List ℕ → Result ℕ FormatFault
head_at bytes = fixed_at bytes (codes "BINJS") BadMagic 0 >>= λ at. version_at bytes at

-- where the content of a section begins and ends
abbrev pub section_at : List ℕ → List ℕ → ℕ → Result (ℕ × ℕ) FormatFault
section_at bytes title at =
    fixed_at bytes title BadSection at >>= λ p. fixed_at bytes (codes "identity;") NotIdentity p >>= λ q. counted_at bytes (length bytes) q

-- the table that is all of a section
abbrev pub whole_table : {A : Type 0} → Judge A → List ℕ → ℕ → ℕ → Result (List A) FormatFault
whole_table more bytes end at = table_at more bytes end at >>= λ t. done_at end t.1 >>= λ done. Ok t.0
