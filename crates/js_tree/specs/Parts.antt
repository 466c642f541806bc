-- What the symbols of a derivation stand for, and how a row takes the parts of its symbols.
use Rattle.std.specs.Prelude.{◌==◌, ◌&&◌, length, Bool, true, false, List, [], ◌∷◌, Option, Result, Ok, if◌then◌else◌}
use Rattle.bast_base.specs.declared.errors.NameId.{NameId}
use Rattle.bast_schema.specs.Tree.{Tree, Datum, child, Data, none, more, is_none}
use Rattle.js_tree.specs.Results.{◌>>=◌, broken}
use Rattle.js_tree.specs.declared.fault.Fault.{Fault}
use Rattle.js_tree.specs.declared.leaf.Leaf.{Leaf}
use Rattle.js_tree.specs.declared.parts.Part.{Part}
use Rattle.js_tree.specs.declared.parts.Part.TheVariants as parts
use Rattle.js_tree.specs.declared.parts.Ending.{Ending}
use Rattle.js_tree.specs.declared.parts.Item.{Item}

-- the first value, and those behind it
abbrev pub first_value : Data → Result (Datum × Data) Fault
first_value none = broken
first_value (more d ds) = Ok (d, ds)

-- the last value, and those before it
abbrev pub last_behind : Datum → Data → Data × Datum
last_behind d none = (none, d)
last_behind d (more e es) = (more d (last_behind e es).0, (last_behind e es).1)

abbrev pub last_value : Data → Result (Data × Datum) Fault
last_value none = broken
last_value (more d ds) = Ok (last_behind d ds)

-- the one value
abbrev pub one_value : Data → Result Datum Fault
one_value ds = first_value ds >>= λ f. if is_none f.1 then Ok f.0 else broken

-- a value that is a node
abbrev pub node_in : Datum → Result Tree Fault
node_in (child t) = Ok t
node_in _ = broken

abbrev pub one_node : Data → Result Tree Fault
one_node ds = one_value ds >>= node_in

abbrev pub one_ending : List Ending → Result Ending Fault
one_ending [] = broken
one_ending (e ∷ es) = if length es == 0 then Ok e else broken

abbrev pub without_top : List Part → Result (List Part) Fault
without_top [] = broken
without_top (p ∷ ps) = Ok ps

abbrev pub taken_leaf : List Part → Result (Leaf × List Part) Fault
taken_leaf (parts.Token l ∷ ps) = Ok (l, ps)
taken_leaf _ = broken

-- values, with the raw text of the string that they may be alone
abbrev pub taken_values : List Part → Result ((Data × Option NameId) × List Part) Fault
taken_values (parts.Values ds raw ∷ ps) = Ok ((ds, raw), ps)
taken_values _ = broken

abbrev pub taken_endings : List Part → Result (List Ending × List Part) Fault
taken_endings (parts.Endings es ∷ ps) = Ok (es, ps)
taken_endings _ = broken

abbrev pub taken_items : List Part → Result (List Item × List Part) Fault
taken_items (parts.Items is ∷ ps) = Ok (is, ps)
taken_items _ = broken

abbrev pub behind_top : List Part → List Part
behind_top [] = []
behind_top (p ∷ ps) = ps

abbrev pub is_values : Part → Bool
is_values (parts.Values ds raw) = true
is_values _ = false

-- no endings stand on top
abbrev pub ends_nothing : List Part → Bool
ends_nothing (parts.Endings es ∷ ps) = length es == 0
ends_nothing _ = false

-- whether the values on top have no endings behind them, and the parts without these
abbrev pub without_no_endings : List Part → Bool × List Part
without_no_endings [] = (false, [])
without_no_endings (p ∷ ps) = if is_values p && ends_nothing ps then (true, p ∷ behind_top ps) else (false, p ∷ ps)
