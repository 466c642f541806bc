-- Trees that are alike but for what a map changes: the numbers of names, kinds that are made eager, flags, and what
-- stands in scopes. What is true of all such trees is proved of a map once, and of the maps of this crate by instances.
use Rattle.std.proofs.Common.{ℕ, List, Option, ◌≡◌, Bool, true, false, refl, ◌&&◌, if◌then◌else◌}
use Rattle.bast_schema.specs.declared.kind.Kind.{Kind}
use Rattle.bast_schema.specs.declared.kind.Kind.TheVariants.{LazyFunctionDeclaration, LazyMethod, LazyGetter, LazySetter, LazyFunctionExpression}
use Rattle.bast_schema.specs.NamesHold.{names_hold, names_hold_at, names_hold_in}
use Rattle.bast_schema.specs.Tree.{Tree, branch, Datum, child, absent, listed, flag, index, whole, name, no_name, choice, window, Data, none, more}
use Rattle.bast_schema.proofs.Both.{and_first, and_second}
use Rattle.scope_facts.specs.Roles.{part, is_scope_part}
use Rattle.scope_facts.specs.Bare.{eager}

-- what a map changes: whether kinds are made eager, the number of each name with a property, which fields of a scope stand
-- for which, and which flags for which
pub record Change : Type 1 where
  pub eagerly : Bool
  pub holds : ℕ → Bool
  pub number : ℕ → ℕ
  pub scopes : Kind → Data → Data → Type 0
  pub flags : Bool → Bool → Type 0

abbrev pub kind_by : Bool → Kind → Kind
kind_by true k = eager k
kind_by false k = k

mutual
  pub data LikeAt (m : Change) : Datum → Datum → Type 0 where
    in_scope : (k : Kind) (ds es : Data) → is_scope_part (part k) ≡ true → m.scopes k ds es → LikeAt m (child (branch k ds)) (child (branch k es))
    in_node : (k : Kind) (ds es : Data) → LikeIn m ds es → LikeAt m (child (branch k ds)) (child (branch (kind_by m.eagerly k) es))
    in_list : (ds es : Data) → LikeIn m ds es → LikeAt m (listed ds) (listed es)
    a_name : (n : ℕ) → m.holds n ≡ true → LikeAt m (name n) (name (m.number n))
    a_flag : (b c : Bool) → m.flags b c → LikeAt m (flag b) (flag c)
    an_absence : LikeAt m absent absent
    an_index : (n : ℕ) → LikeAt m (index n) (index n)
    a_whole : (n : ℕ) → LikeAt m (whole n) (whole n)
    no_names : LikeAt m no_name no_name
    a_choice : (n : ℕ) → LikeAt m (choice n) (choice n)
    a_window : (from to : ℕ) → LikeAt m (window from to) (window from to)

  pub data LikeIn (m : Change) : Data → Data → Type 0 where
    end : LikeIn m none none
    next : (c d : Datum) (cs ds : Data) → LikeAt m c d → LikeIn m cs ds → LikeIn m (more c cs) (more d ds)

abbrev pub is_leaf : Datum → Bool
is_leaf (child t) = false
is_leaf (listed ds) = false
is_leaf (name n) = false
is_leaf (flag b) = false
is_leaf d = true

-- what no map changes
pub leaf_like : {m : Change} (d : Datum) → is_leaf d ≡ true → LikeAt m d d
leaf_like absent h = an_absence
leaf_like (index n) h = an_index n
leaf_like (whole n) h = a_whole n
leaf_like no_name h = no_names
leaf_like (choice n) h = a_choice n
leaf_like (window from to) h = a_window from to
leaf_like _ h = cc
