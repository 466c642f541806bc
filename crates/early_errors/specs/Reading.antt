-- What the rules read of a node, and nothing else.
use Rattle.std.specs.Prelude.{ℕ, Bool, Option, List}
use Rattle.bast_schema.specs.Tree.{Tree, branch, Data}
use Rattle.scope_facts.specs.Uses.{first_name}
use Rattle.early_errors.specs.declared.kinds.Role.{Role}
use Rattle.early_errors.specs.declared.around.Flags.{Flags}
use Rattle.early_errors.specs.declared.around.Label.{Label}
use Rattle.early_errors.specs.Kinds.{role}
use Rattle.early_errors.specs.Strict.{Texts, text_of}
use Rattle.early_errors.specs.Around.{Around}
use Rattle.early_errors.specs.Declares.{lexical_names, var_names, parameter_names, has_simple, caught, block_names, bare_name, deleted_name}

pub record Reading : Type 0 where
  -- what the node is
  pub role : Role
  -- what stands around it
  pub flags : Flags
  pub labels : List Label
  -- the name or text that stands in it, and its characters as bytes
  pub name : Option ℕ
  pub text : Option (List ℕ)
  -- the names that a holder or the head and body of a for statement declare
  pub lexicals : List ℕ
  pub vars : List ℕ
  -- the parameters of a function, and whether they are simple
  pub parameters : List ℕ
  pub simple : Bool
  -- the name of a catch clause, and those that its block declares
  pub caught : List ℕ
  pub block : List ℕ
  -- the name of a declarator without initializer
  pub bare : Option ℕ
  -- the name that is deleted
  pub deleted : Option ℕ

abbrev pub reading_by : Texts → Around → Role → Data → Reading
reading_by s a r ds = record {
  role = r;
  flags = a.flags;
  labels = a.labels;
  name = first_name ds;
  text = text_of s (first_name ds);
  lexicals = lexical_names r ds;
  vars = var_names r ds;
  parameters = parameter_names r ds;
  simple = has_simple r ds;
  caught = caught r ds;
  block = block_names r ds;
  bare = bare_name r ds;
  deleted = deleted_name r ds;
}

abbrev pub reading : Texts → Around → Tree → Reading
reading s a (branch k ds) = reading_by s a (role k) ds
