-- The entries that a scope has to have, not captured, and its flags but that of a direct eval.
use Rattle.std.specs.Prelude.{ℕ, Bool, true, false, ◌&&◌, ◌+◌, List, [], ◌∷◌, Option, None, Some}
use Rattle.std.specs.List.{slice_get}
use Rattle.bast_schema.specs.declared.kind.Kind.TheVariants.{AssertedDeclaredName, AssertedPositionalParameterName, AssertedRestParameterName, AssertedBoundName}
use Rattle.bast_schema.specs.Tree.{Tree, branch, Datum, child, absent, listed, flag, index, name, choice, Data, none, more}
use Rattle.scope_facts.specs.declared.roles.Form.{Form}
use Rattle.scope_facts.specs.declared.roles.Form.TheVariants as form
use Rattle.scope_facts.specs.declared.roles.Shape.{Shape}
use Rattle.scope_facts.specs.declared.roles.Shape.TheVariants.{Statements, Lexical, Parameters, BoundName, Nothing}
use Rattle.scope_facts.specs.declared.names.Declared.{Declared}
use Rattle.scope_facts.specs.Roles as roles
use Rattle.scope_facts.specs.Names.{kind_choice, once, tops_in, lexicals_in, bound, bound_below_at}

abbrev pub declared_entry : Declared → Tree
declared_entry a = branch AssertedDeclaredName (more (name a.name) (more (choice (kind_choice a.kind)) (more (flag false) none)))

abbrev pub bound_entry : ℕ → Tree
bound_entry n = branch AssertedBoundName (more (name n) (more (flag false) none))

abbrev pub rest_entry : ℕ → Tree
rest_entry n = branch AssertedRestParameterName (more (name n) (more (flag false) none))

abbrev pub positional_entry : ℕ → ℕ → Tree
positional_entry i n = branch AssertedPositionalParameterName (more (index i) (more (name n) (more (flag false) none)))

abbrev pub declared_entries : List Declared → Data
declared_entries [] = none
declared_entries (a ∷ others) = more (child (declared_entry a)) (declared_entries others)

abbrev pub bound_entries : List ℕ → Data
bound_entries [] = none
bound_entries (n ∷ ns) = more (child (bound_entry n)) (bound_entries ns)

abbrev pub rest_entries : List ℕ → Data
rest_entries [] = none
rest_entries (n ∷ ns) = more (child (rest_entry n)) (rest_entries ns)

-- the entry of the parameter with this place and name, and then others
abbrev pub place_entry : ℕ → Option ℕ → Data → Data
place_entry i (Some n) others = more (child (positional_entry i n)) others
place_entry i None others = others

-- the name that a parameter binds
abbrev pub parameter_name : Datum → Option ℕ
parameter_name d = slice_get (bound_below_at d) 0

-- the entries of parameters, of which the first has place i, and then others
abbrev pub item_entries : ℕ → Data → Data → Data
item_entries i none others = others
item_entries i (more d ds) others = place_entry i (parameter_name d) (item_entries (i + 1) ds others)

-- the entries of a list of parameters with what stands behind it, the rest
abbrev pub list_entries : Data → Data
list_entries (more (listed items) rest) = item_entries 0 items (rest_entries (bound rest))
list_entries _ = none

-- those of the parameters of a function, or of the one parameter of a setter
abbrev pub parameter_entries_by : Form → Data → Datum → Data
parameter_entries_by form.Parameters fs d = list_entries fs
parameter_entries_by _ fs d = place_entry 0 (parameter_name d) none

abbrev pub parameter_entries_at : Datum → Data
parameter_entries_at (child (branch k fs)) = parameter_entries_by (roles.form k) fs (child (branch k fs))
parameter_entries_at d = none

-- those of what stands after a parameter scope
abbrev pub parameter_entries : Data → Data
parameter_entries none = none
parameter_entries (more d ds) = parameter_entries_at d

-- whether a parameter is a name without initializer
abbrev pub is_binding : Form → Bool
is_binding form.Binding = true
is_binding _ = false

abbrev pub is_bare : Datum → Bool
is_bare (child (branch k ds)) = is_binding (roles.form k)
is_bare _ = false

abbrev pub all_bare : Data → Bool
all_bare none = true
all_bare (more d ds) = is_bare d && all_bare ds

abbrev pub is_absent : Datum → Bool
is_absent absent = true
is_absent _ = false

abbrev pub no_rest : Data → Bool
no_rest none = true
no_rest (more d ds) = is_absent d

-- whether there is neither initializer nor rest (IsSimpleParameterList, section 14.1.12 of ECMA-262)
abbrev pub list_simple : Data → Bool
list_simple (more (listed items) rest) = all_bare items && no_rest rest
list_simple _ = true

abbrev pub simple_by : Form → Data → Bool
simple_by form.Parameters fs = list_simple fs
simple_by f fs = is_binding f

abbrev pub is_simple_at : Datum → Bool
is_simple_at (child (branch k fs)) = simple_by (roles.form k) fs
is_simple_at d = true

abbrev pub is_simple : Data → Bool
is_simple none = true
is_simple (more d ds) = is_simple_at d

-- the entries of a scope, from the names that the values of its node bind and from what stands after it
abbrev pub entries : Shape → List ℕ → Data → Data
entries Statements names after = declared_entries (once [] (tops_in after))
entries Lexical names after = declared_entries (once [] (lexicals_in after))
entries Parameters names after = parameter_entries after
entries BoundName names after = bound_entries names
entries Nothing names after = none

-- the flags of a scope behind its entries
abbrev pub flags_by : Shape → Bool → Data
flags_by Parameters simple = more (flag false) (more (flag simple) none)
flags_by _ simple = more (flag false) none

abbrev pub flags : Shape → Data → Data
flags s after = flags_by s (is_simple after)
