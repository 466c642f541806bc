-- Lengths that are told up to that of the largest file.
use Rattle.std.specs.Prelude.{◌≡◌, ℕ, ◌<◌, ◌≤◌, Option, Some, None}
use Rattle.tree_encoder.specs.File.{most_bytes}

-- the length, or none where no file is so long
abbrev pub Within : Option ℕ → ℕ → Type 0
Within (Some n) len = (n ≡ len) × (len ≤ most_bytes)
Within None len = most_bytes < len
