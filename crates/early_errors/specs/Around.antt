-- What stands around the nodes of a tree, and its nodes in preorder.
use Rattle.std.specs.Prelude.{ℕ, Bool, true, false, Option, Some, None, List, [], ◌∷◌, ◌++◌, ◌+◌, ◌||◌, nat_eq, if◌then◌else◌}
use Rattle.bast_schema.specs.Choices.{lexical_const}
use Rattle.bast_schema.specs.Tree.{Tree, branch, Datum, child, listed, choice, Data, none, more, nodes_at}
use Rattle.scope_facts.specs.Uses.{first_name}
use Rattle.scope_facts.specs.declared.context.Ctx.{Ctx}
use Rattle.early_errors.specs.declared.kinds.Role.{Role}
use Rattle.early_errors.specs.declared.kinds.Role.TheVariants.{Script, Function, Method, Arrow, Lexical, Variables, Labelled, Loop, For}
use Rattle.early_errors.specs.declared.kinds.Place.{Place}
use Rattle.early_errors.specs.declared.kinds.Place.TheVariants.{Plain, Target, Body, Cases, Name, Inside}
use Rattle.early_errors.specs.declared.around.Flags.{Flags}
use Rattle.early_errors.specs.declared.around.Label.{Label}
use Rattle.early_errors.specs.Kinds.{role, places}
use Rattle.early_errors.specs.Strict.{Texts, own_strict}

-- what stands around a node: flags, and the labels of the innermost function, outermost first
pub record Around : Type 0 where
  pub flags : Flags
  pub labels : List Label

-- whether a statement is a loop, or has labels and then a loop: then each of the labels is the loop's (section 13.1.3 of
-- ECMA-262, 6th edition)
abbrev pub looped_by : Role → Bool → Bool
looped_by Loop body = true
looped_by For body = true
looped_by Labelled body = body
looped_by _ body = false

abbrev mutual
  pub loops : Tree → Bool
  loops (branch k ds) = looped_by (role k) (loop_in ds)

  pub loop_at : Datum → Bool
  loop_at (child t) = loops t
  loop_at _ = false

  pub loop_in : Data → Bool
  loop_in none = false
  loop_in (more d ds) = loop_at d || loop_in ds

-- whether a declaration is one with const
abbrev pub is_const : Data → Bool
is_const (more (choice n) ds) = nat_eq n lexical_const
is_const _ = false

-- around the parts of a node
abbrev pub flags_in : Texts → Role → Data → Flags → Flags
flags_in s Script ds f = record f { strict = f.strict || own_strict s ds }
flags_in s Function ds f = record f { own_strict = own_strict s ds; unique = false }
flags_in s Method ds f = record f { own_strict = own_strict s ds; unique = true }
flags_in s Arrow ds f = record f { own_strict = false; unique = true }
flags_in s Lexical ds f = record f { constant = is_const ds }
flags_in s Variables ds f = record f { constant = false }
flags_in s _ ds f = f

abbrev pub with_label : Option ℕ → Bool → List Label → List Label
with_label (Some n) b ls = ls ++ record { name = n; looped = b } ∷ []
with_label None b ls = ls

abbrev pub is_labelled : Role → Bool
is_labelled Labelled = true
is_labelled _ = false

abbrev pub labels_in : Role → Data → List Label → List Label
labels_in r ds ls = if is_labelled r then with_label (first_name ds) (loop_in ds) ls else ls

abbrev pub parts_around : Texts → Role → Data → Around → Around
parts_around s r ds a = record { flags = flags_in s r ds a.flags; labels = labels_in r ds a.labels }

-- around what stands in a field. The own directives of a function make its name and its inside strict, not the code of a
-- computed key. Loops, switches and labels end at the inside of a function.
abbrev pub flags_at : Place → Flags → Flags
flags_at Plain f = record f { target = false }
flags_at Target f = record f { target = true }
flags_at Body f = record f { target = false; looped = true; breakable = true }
flags_at Cases f = record f { target = false; breakable = true }
flags_at Name f = record f { target = false; strict = f.strict || f.own_strict }
flags_at Inside f = record { strict = f.strict || f.own_strict; own_strict = f.own_strict; unique = f.unique; function = true; looped = false; breakable = false; constant = false; target = false }

abbrev pub labels_at : Place → List Label → List Label
labels_at Inside ls = []
labels_at _ ls = ls

abbrev pub placed : Place → Around → Around
placed p a = record { flags = flags_at p a.flags; labels = labels_at p a.labels }

abbrev pub place_first : List Place → Place
place_first [] = Plain
place_first (p ∷ ps) = p

abbrev pub place_rest : List Place → List Place
place_rest [] = []
place_rest (p ∷ ps) = ps

-- a node with its number and what stands around it
pub record Site : Type 0 where
  pub number : ℕ
  pub around : Around
  pub tree : Tree

-- the nodes in preorder, of which the first has a number; absent nodes and windows have none
abbrev mutual
  pub sites : Texts → Around → ℕ → Tree → List Site
  sites s a n (branch k ds) = record { number = n; around = a; tree = branch k ds } ∷ sites_in s (places k) (parts_around s (role k) ds a) (n + 1) ds

  pub sites_at : Texts → Around → ℕ → Datum → List Site
  sites_at s a n (child t) = sites s a n t
  sites_at s a n (listed ds) = sites_in s [] a n ds
  sites_at s a n _ = []

  pub sites_in : Texts → List Place → Around → ℕ → Data → List Site
  sites_in s ps a n none = []
  sites_in s ps a n (more d ds) = sites_at s (placed (place_first ps) a) n d ++ sites_in s (place_rest ps) a (n + nodes_at d) ds

-- around the whole of what is checked: a script, or the contents of a function
abbrev pub start : Ctx → Around
start c = record { flags = record { strict = c.strict; own_strict = c.own_strict; unique = c.unique; function = c.function; looped = false; breakable = false; constant = false; target = false }; labels = [] }
