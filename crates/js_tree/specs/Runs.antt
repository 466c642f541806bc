-- How a value is taken off the front of a list.
use Rattle.std.specs.Prelude.{◌≡◌, Option, Some, None}
use Rattle.bast_schema.specs.declared.node.Value.{Value}
use Rattle.bast_schema.specs.Tree.{Data, none, more}
use Rattle.bast_schema.specs.View.{datum}

-- the list began with this value, or there is none
abbrev pub Begins : Data → Option Value → Data → Type 0
Begins old None new = (old ≡ none) × (new ≡ none)
Begins old (Some v) new = old ≡ more (datum v) new
