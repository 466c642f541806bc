-- The names that a node declares for the rules, and the parameters of a function.
use Rattle.std.specs.Prelude.{ℕ, Bool, true, false, Option, None, List, [], ◌∷◌, ◌++◌, nat_eq, if◌then◌else◌}
use Rattle.bast_schema.specs.Choices.{unary_delete}
use Rattle.bast_schema.specs.Tree.{branch, Datum, child, listed, choice, Data, none, more}
use Rattle.scope_facts.specs.declared.names.Declared.{Declared}
use Rattle.scope_facts.specs.declared.names.NameKind.{NameKind}
use Rattle.scope_facts.specs.declared.names.NameKind.TheVariants.{Var}
use Rattle.scope_facts.specs.declared.roles.Form.{Form}
use Rattle.scope_facts.specs.declared.roles.Form.TheVariants.{Parameters}
use Rattle.scope_facts.specs.Roles.{form}
use Rattle.scope_facts.specs.Names.{tops_in, lexicals_in, vars_in, bound, bound_at, bound_below, bound_below_at}
use Rattle.scope_facts.specs.Entries.{is_simple, is_absent}
use Rattle.scope_facts.specs.Uses.{first_name}
use Rattle.early_errors.specs.declared.kinds.Role.{Role}
use Rattle.early_errors.specs.declared.kinds.Role.TheVariants.{Script, Contents, Arrow, Block, For, Catch, Declarator, Unary, Use}
use Rattle.early_errors.specs.Kinds.{role}

-- the values behind the first: behind the directives of a script, behind the first scope of a function's contents
abbrev pub behind : Data → Data
behind none = none
behind (more d ds) = ds

abbrev pub is_var : NameKind → Bool
is_var Var = true
is_var _ = false

-- of declared names the lexical ones, and the var names
abbrev pub lexical_of : List Declared → List ℕ
lexical_of [] = []
lexical_of (a ∷ others) = if is_var a.kind then lexical_of others else a.name ∷ lexical_of others

abbrev pub var_of : List Declared → List ℕ
var_of [] = []
var_of (a ∷ others) = if is_var a.kind then a.name ∷ var_of others else var_of others

-- the lexical names of a holder, or those of a for head (LexicallyDeclaredNames, sections 13.2.5, 13.12.5, 14.1.14 and
-- 15.1.3 of ECMA-262, and BoundNames of a for head, 13.7.4.1). A function that stands directly in a script or a body
-- declares a var name there.
abbrev pub lexical_names : Role → Data → List ℕ
lexical_names Script ds = lexical_of (tops_in (behind ds))
lexical_names Contents ds = lexical_of (tops_in (behind ds))
lexical_names Block ds = lexical_of (lexicals_in ds)
lexical_names For ds = lexical_of (lexicals_in ds)
lexical_names _ ds = []

-- the var names of a holder, or of the body of a for statement whose head has lexical names (VarDeclaredNames, sections
-- 13.2.11, 13.7.4.5, 13.12.7, 14.1.16 and 15.1.5)
abbrev pub var_names : Role → Data → List ℕ
var_names Script ds = var_of (tops_in (behind ds))
var_names Contents ds = var_of (tops_in (behind ds))
var_names Block ds = vars_in ds
var_names For ds = vars_in ds
var_names _ ds = []

-- the names of a list of parameters (BoundNames, section 14.1.3), and of the one parameter of a setter
abbrev pub list_names : Data → List ℕ
list_names (more (listed items) rest) = bound_below items ++ bound rest
list_names _ = []

abbrev pub parameters_by : Form → Data → Datum → List ℕ
parameters_by Parameters fs d = list_names fs
parameters_by _ fs d = bound_below_at d

abbrev pub parameters_at : Datum → List ℕ
parameters_at (child (branch k fs)) = parameters_by (form k) fs (child (branch k fs))
parameters_at _ = []

abbrev pub parameters_first : Data → List ℕ
parameters_first none = []
parameters_first (more d ds) = parameters_at d

-- those behind the parameter scope of a function
abbrev pub parameter_names : Role → Data → List ℕ
parameter_names Contents ds = parameters_first (behind ds)
parameter_names Arrow ds = parameters_first (behind ds)
parameter_names _ ds = []

-- whether the contents of a function have simple parameters
abbrev pub has_simple : Role → Data → Bool
has_simple Contents ds = is_simple (behind ds)
has_simple _ ds = true

-- the name of a catch clause, and the names that its block declares
abbrev pub caught : Role → Data → List ℕ
caught Catch ds = bound ds
caught _ ds = []

abbrev pub values_at : Datum → Data
values_at (child (branch k ds)) = ds
values_at _ = none

abbrev pub values_first : Data → Data
values_first none = none
values_first (more d ds) = values_at d

abbrev pub declared_names : Data → List ℕ
declared_names ds = lexical_names Block ds ++ var_names Block ds

abbrev pub block_names : Role → Data → List ℕ
block_names Catch ds = declared_names (values_first (behind (behind ds)))
block_names _ ds = []

-- the name of a declarator without initializer
abbrev pub starts_absent : Data → Bool
starts_absent none = false
starts_absent (more d ds) = is_absent d

abbrev pub bare_of : Data → Option ℕ
bare_of none = None
bare_of (more d ds) = if starts_absent ds then bound_at d else None

abbrev pub bare_name : Role → Data → Option ℕ
bare_name Declarator ds = bare_of ds
bare_name _ ds = None

-- the name that is deleted, where the operand of delete is one
abbrev pub use_name : Role → Data → Option ℕ
use_name Use ds = first_name ds
use_name _ ds = None

abbrev pub used_name : Datum → Option ℕ
used_name (child (branch k ds)) = use_name (role k) ds
used_name _ = None

abbrev pub used_first : Data → Option ℕ
used_first none = None
used_first (more d ds) = used_name d

abbrev pub is_delete : Datum → Bool
is_delete (choice n) = nat_eq n unary_delete
is_delete _ = false

abbrev pub deleted_of : Data → Option ℕ
deleted_of none = None
deleted_of (more d ds) = if is_delete d then used_first ds else None

abbrev pub deleted_name : Role → Data → Option ℕ
deleted_name Unary ds = deleted_of ds
deleted_name _ ds = None
