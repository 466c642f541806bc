-- The nodes that are made, and how an operand stands in them.
use Rattle.std.specs.Prelude.{ℕ, false, List, [], ◌∷◌, Option, Some, None, Result, Ok, Err, if◌then◌else◌}
use Rattle.bast_base.specs.declared.errors.NameId.{NameId}
use Rattle.bast_schema.specs.declared.kind.Kind.{Kind}
use Rattle.bast_schema.specs.declared.kind.Kind.TheVariants as kinds
use Rattle.bast_schema.specs.declared.node.NodeFault.{NodeFault}
use Rattle.bast_schema.specs.declared.node.NodeFault.TheVariants.{Mistyped, TooDeep}
use Rattle.bast_schema.specs.Kinds.{same_kind}
use Rattle.bast_schema.specs.Counts.{join}
use Rattle.bast_schema.specs.Made.{node_of}
use Rattle.bast_schema.specs.Tree.{Tree, branch, Datum, child, absent, listed, flag, name, Data, none, more}
use Rattle.js_tree.specs.Results.{◌>>=◌, broken, there}
use Rattle.js_tree.specs.declared.fault.Fault.{Fault}
use Rattle.js_tree.specs.declared.fault.Fault.TheVariants as faults
use Rattle.js_tree.specs.declared.parts.Form.{Form}
use Rattle.js_tree.specs.declared.parts.Form.TheVariants as forms
use Rattle.js_tree.specs.declared.parts.Ending.{Ending}
use Rattle.js_tree.specs.declared.parts.Ending.TheVariants as endings
use Rattle.js_tree.specs.declared.parts.Item.{Item}

-- what makes a node of a kind and its fields: without a limit on its depth, or with the one of nodes
abbrev pub Maker : Type 0
Maker = Kind → Data → Result Tree Fault

abbrev pub unlimited : Maker
unlimited k ds = Ok (branch k ds)

abbrev pub of_node : Result Tree NodeFault → Result Tree Fault
of_node (Ok t) = Ok t
of_node (Err (Mistyped field)) = broken
of_node (Err TooDeep) = Err faults.TooDeep

abbrev pub limited : Maker
limited k ds = of_node (node_of k ds)

abbrev pub two : Datum → Datum → Data
two d e = more d (more e none)

abbrev pub one : Datum → Data
one d = more d none

abbrev pub values_of : Tree → Data
values_of (branch k ds) = ds

abbrev pub kind_of : Tree → Kind
kind_of (branch k ds) = k

-- the name that is the first value
abbrev pub first_name : Data → Option ℕ
first_name (more (name n) ds) = Some n
first_name _ = None

-- the name that an expression is
abbrev pub identifier : Tree → Option ℕ
identifier t = if same_kind (kind_of t) kinds.IdentifierExpression then first_name (values_of t) else None

-- one name as the parameters of an arrow function (14.2); an arrow's head stands for parameters by itself
abbrev pub one_parameter : Maker → ℕ → Result Tree Fault
one_parameter m n = m kinds.BindingIdentifier (one (name n)) >>= λ b. m kinds.FormalParameters (two (listed (one (child b))) absent)

abbrev pub parameters_or : Maker → Tree → Option ℕ → Result Tree Fault
parameters_or m t None = Ok t
parameters_or m t (Some n) = one_parameter m n

unfoldable pub parameters_of : Maker → Tree → Result Tree Fault
parameters_of m t = parameters_or m t (identifier t)

-- scopes that tell no names
abbrev pub no_names : Data
no_names = two (listed none) (flag false)

abbrev pub no_parameter_names : Data
no_parameter_names = more (listed none) (two (flag false) (flag false))

-- a function's contents of its parameters and its statements
unfoldable pub contents_of : Maker → Tree → Data → Result Tree Fault
contents_of m params body =
    m kinds.AssertedParameterScope no_parameter_names >>= λ scope.
    m kinds.AssertedVarScope no_names >>= λ vars.
    m kinds.FunctionContents (more (child scope) (more (child params) (more (child vars) body)))

-- how the operand stands there
unfoldable pub stands : Maker → Form → Tree → Result Datum Fault
stands m forms.Plain t = Ok (child t)
stands m forms.Parameters t = parameters_of m t >>= λ p. Ok (child p)
stands m (forms.Contents body) t = parameters_of m t >>= λ p. contents_of m p body >>= λ c. Ok (child c)
stands m forms.Label t = there (identifier t) >>= λ n. Ok (name n)
stands m (forms.Declared ds) t = broken

-- the operand with this put around it
unfoldable pub ended : Maker → Ending → Tree → Result Tree Fault
ended m (endings.Around k form before behind) t = stands m form t >>= λ d. m k (join before (more d behind))
ended m (endings.Instead u) t = Ok u

-- with all of these, the first one innermost: so operators of one level, accesses and calls go together from the left (12.3, 12.6 to 12.8)
abbrev pub folded : Maker → List Ending → Tree → Result Tree Fault
folded m [] t = Ok t
folded m (e ∷ es) t = ended m e t >>= folded m es

-- each item as a statement
abbrev pub statements : List Item → Data
statements [] = none
statements (i ∷ is) = more (child i.statement) (statements is)

-- the items from the first on that is no directive; an item of one string token has a raw text (14.1.1)
abbrev pub behind_directive : Option NameId → List Item → List Item → List Item
behind_directive None here rest = here
behind_directive (Some raw) here rest = rest

abbrev pub behind_directives : List Item → List Item
behind_directives [] = []
behind_directives (i ∷ is) = behind_directive i.raw (i ∷ is) (behind_directives is)

-- these values and a directive of its raw text
abbrev pub with_directive : Maker → NameId → Data → Result Data Fault
with_directive m raw ds = m kinds.Directive (one (name raw.0)) >>= λ t. Ok (join ds (one (child t)))

-- the items before it, each by its raw text
abbrev pub directives_from : Maker → Option NameId → Result Data Fault → Result Data Fault
directives_from m None rest = Ok none
directives_from m (Some raw) rest = m kinds.Directive (one (name raw.0)) >>= λ t. rest >>= λ ds. Ok (more (child t) ds)

abbrev pub directives : Maker → List Item → Result Data Fault
directives m [] = Ok none
directives m (i ∷ is) = directives_from m i.raw (directives m is)

-- the directives, and the items behind them
abbrev pub parted : Maker → List Item → Result (Data × List Item) Fault
parted m is = directives m is >>= λ ds. Ok (ds, behind_directives is)
