-- The names that a piece of a program declares, in the order of the declaring nodes.
use Rattle.std.specs.Prelude.{ℕ, Bool, false, ◌&&◌, nat_eq, if◌then◌else◌, Option, None, List, [], ◌∷◌, ◌++◌, map, option_to_list}
use Rattle.std.specs.List.{list_any}
use Rattle.bast_schema.specs.Choices.{declared_var, declared_lexical, declared_const, lexical_let, for_var, for_let}
use Rattle.bast_schema.specs.Tree.{Tree, branch, Datum, child, listed, choice, Data, none, more}
use Rattle.scope_facts.specs.declared.roles.Form.{Form}
use Rattle.scope_facts.specs.declared.roles.Form.TheVariants.{Binding, VarStatement, LexicalStatement, FunctionStatement, Head, Case, Inside}
use Rattle.scope_facts.specs.declared.names.Declared.{Declared}
use Rattle.scope_facts.specs.declared.names.NameKind.{NameKind}
use Rattle.scope_facts.specs.declared.names.NameKind.TheVariants.{Var, Lexical, Constant}
use Rattle.scope_facts.specs.Roles.{form}
use Rattle.scope_facts.specs.Uses.{first_name}

-- the choice by which a scope says the kind of a name
abbrev pub kind_choice : NameKind → ℕ
kind_choice Var = declared_var
kind_choice Lexical = declared_lexical
kind_choice Constant = declared_const

-- names with the kind that all of them have
abbrev pub with_kind : NameKind → List ℕ → List Declared
with_kind kind = map (λ n. record { name = n; kind = kind })

-- the name of a BindingIdentifier (BoundNames, section 12.1.2 of ECMA-262)
abbrev pub binding_name : Form → Data → Option ℕ
binding_name Binding ds = first_name ds
binding_name _ ds = None

abbrev pub bound_at : Datum → Option ℕ
bound_at (child (branch k ds)) = binding_name (form k) ds
bound_at _ = None

-- the names that values bind themselves
abbrev pub bound : Data → List ℕ
bound none = []
bound (more d ds) = option_to_list (bound_at d) ++ bound ds

-- the names that an item binds, itself or by its fields: a parameter, a declarator
abbrev pub bound_below_at : Datum → List ℕ
bound_below_at (child (branch k ds)) = option_to_list (binding_name (form k) ds) ++ bound ds
bound_below_at _ = []

abbrev pub bound_below : Data → List ℕ
bound_below none = []
bound_below (more d ds) = bound_below_at d ++ bound_below ds

-- the names of the declarators of a declaration (sections 13.3.1.2 and 13.3.2.1)
abbrev pub declarators : Data → List ℕ
declarators none = []
declarators (more (listed ds) es) = bound_below ds
declarators (more d ds) = declarators ds

-- the kind of names under let or const
abbrev pub lexical_kind : Data → NameKind
lexical_kind (more (choice n) ds) = if nat_eq n lexical_let then Lexical else Constant
lexical_kind _ = Constant

-- whether the word of a for head is var
abbrev pub is_var_head : Data → Bool
is_var_head (more (choice n) ds) = nat_eq n for_var
is_var_head _ = false

-- the kind of the name of a for head with let or const
abbrev pub head_kind : Data → NameKind
head_kind (more (choice n) ds) = if nat_eq n for_let then Lexical else Constant
head_kind _ = Constant

-- the var names below a node, outside functions (VarDeclaredNames, sections 13.1.5 to 13.15.12)
abbrev pub vars_by : Form → Data → List ℕ → List ℕ
vars_by VarStatement ds inner = declarators ds
vars_by Head ds inner = if is_var_head ds then bound ds else []
vars_by Inside ds inner = []
vars_by _ ds inner = inner

abbrev mutual
  pub vars : Tree → List ℕ
  vars (branch k ds) = vars_by (form k) ds (vars_in ds)

  pub vars_at : Datum → List ℕ
  vars_at (child t) = vars t
  vars_at (listed ds) = vars_in ds
  vars_at _ = []

  pub vars_in : Data → List ℕ
  vars_in none = []
  vars_in (more d ds) = vars_at d ++ vars_in ds

-- the lexical names of what stands directly there: of the statements of a list, of a for head, of the cases of a
-- switch (LexicallyDeclaredNames, sections 13.2.5 and 13.12.5, and BoundNames of a for head, 13.7)
abbrev pub lexicals_by : Form → Data → List Declared → List Declared
lexicals_by LexicalStatement ds inner = with_kind (lexical_kind ds) (declarators ds)
lexicals_by FunctionStatement ds inner = with_kind Lexical (bound ds)
lexicals_by Head ds inner = if is_var_head ds then [] else with_kind (head_kind ds) (bound ds)
lexicals_by Case ds inner = inner
lexicals_by _ ds inner = []

abbrev mutual
  pub lexicals : Tree → List Declared
  lexicals (branch k ds) = lexicals_by (form k) ds (lexicals_in ds)

  pub lexicals_at : Datum → List Declared
  lexicals_at (child t) = lexicals t
  lexicals_at (listed ds) = lexicals_in ds
  lexicals_at _ = []

  pub lexicals_in : Data → List Declared
  lexicals_in none = []
  lexicals_in (more d ds) = lexicals_at d ++ lexicals_in ds

-- the names of a statement of a script or of a function's body (TopLevelVarDeclaredNames and
-- TopLevelLexicallyDeclaredNames, sections 13.1.6 to 13.2.10, 14.1.14 to 14.1.17 and 15.1.3 to 15.1.6)
abbrev pub tops_by : Form → Data → List ℕ → List Declared
tops_by LexicalStatement ds inner = with_kind (lexical_kind ds) (declarators ds)
tops_by FunctionStatement ds inner = with_kind Var (bound ds)
tops_by _ ds inner = with_kind Var inner

abbrev pub tops : Tree → List Declared
tops (branch k ds) = tops_by (form k) ds (vars_by (form k) ds (vars_in ds))

abbrev pub tops_at : Datum → List Declared
tops_at (child t) = tops t
tops_at _ = []

abbrev pub tops_among : Data → List Declared
tops_among none = []
tops_among (more d ds) = tops_at d ++ tops_among ds

-- those of the first list among values: the statements
abbrev pub tops_in : Data → List Declared
tops_in none = []
tops_in (more (listed ds) es) = tops_among ds
tops_in (more d es) = tops_in es

abbrev pub same : Declared → Declared → Bool
same a b = nat_eq a.name b.name && nat_eq (kind_choice a.kind) (kind_choice b.kind)

-- a list without the items that repeat an earlier one, where those of another list count as earlier
abbrev pub once : List Declared → List Declared → List Declared
once seen [] = []
once seen (a ∷ others) = if list_any (same a) seen then once seen others else a ∷ once (a ∷ seen) others
