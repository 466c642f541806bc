-- The names of tokens.
use Rattle.std.specs.Prelude.{◌≡◌, ℕ, Bool, true, List, [], ◌∷◌, Option, Some, None}
use Rattle.bast_base.specs.declared.errors.NameId.{NameId}
use Rattle.js_tree.specs.declared.leaf.Leaf.{Leaf}

-- it holds of the text and the raw text of each token that has them
abbrev pub IsNameIn : (ℕ → Bool) → Option NameId → Type 0
IsNameIn p None = Unit {0}
IsNameIn p (Some n) = p n.0 ≡ true

abbrev pub AreNamesIn : (ℕ → Bool) → List Leaf → Type 0
AreNamesIn p [] = Unit {0}
AreNamesIn p (l ∷ ls) = (IsNameIn p l.text × IsNameIn p l.raw) × AreNamesIn p ls
