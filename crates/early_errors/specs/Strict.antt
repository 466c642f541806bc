-- The texts of names, and the directives that make code strict (ECMA-262, 6th edition, 14.1.1).
use Rattle.std.specs.Prelude.{ℕ, Bool, true, false, Option, Some, None, List, ◌||◌, ◌&&◌, slice_get, codes}
use Rattle.std.specs.Str.{bytes_eq}
use Rattle.bast_schema.specs.Tree.{branch, Datum, child, listed, Data, none, more}
use Rattle.scope_facts.specs.Uses.{first_name}
use Rattle.early_errors.specs.declared.kinds.Role.{Role}
use Rattle.early_errors.specs.declared.kinds.Role.TheVariants.{Directive}
use Rattle.early_errors.specs.Kinds.{role}

-- the texts of the names, by their numbers; the absent string and what stands behind the last have none
abbrev pub Texts : Type 0
Texts = List (Option (List ℕ))

abbrev pub text_among : Option (Option (List ℕ)) → Option (List ℕ)
text_among (Some t) = t
text_among None = None

abbrev pub text_of : Texts → Option ℕ → Option (List ℕ)
text_of s (Some n) = text_among (slice_get s n)
text_of s None = None

-- whether there is a text, and it passes a test
abbrev pub has_text : (List ℕ → Bool) → Option (List ℕ) → Bool
has_text p (Some t) = p t
has_text p None = false

abbrev pub is_use_strict : List ℕ → Bool
is_use_strict t = bytes_eq t (codes "use strict")

abbrev pub is_directive : Role → Bool
is_directive Directive = true
is_directive _ = false

abbrev pub strict_at : Texts → Datum → Bool
strict_at s (child (branch k ds)) = is_directive (role k) && has_text is_use_strict (text_of s (first_name ds))
strict_at s _ = false

abbrev pub strict_items : Texts → Data → Bool
strict_items s none = false
strict_items s (more d ds) = strict_at s d || strict_items s ds

abbrev pub strict_list : Texts → Datum → Bool
strict_list s (listed ds) = strict_items s ds
strict_list s _ = false

-- whether a directive in a list of the node says `use strict`; only a list of directives has one
abbrev pub own_strict : Texts → Data → Bool
own_strict s none = false
own_strict s (more d ds) = strict_list s d || own_strict s ds
