-- How a directive is taken off a list of statements.
use Rattle.std.specs.Prelude.{List, [], ◌∷◌, Option, Some, None}
use Rattle.bast_base.specs.declared.errors.NameId.{NameId}
use Rattle.js_tree.specs.declared.parts.Item.{Item}

abbrev pub front_of : Option NameId → List Item → List Item → Option NameId × List Item
front_of None here rest = (None, here)
front_of (Some raw) here rest = (Some raw, rest)

-- the raw text of the first item, where it is a directive, and the items behind it
abbrev pub first_directive : List Item → Option NameId × List Item
first_directive [] = (None, [])
first_directive (i ∷ is) = front_of i.raw (i ∷ is) is
