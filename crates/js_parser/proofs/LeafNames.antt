-- The names of leaves are texts of the table.
use Rattle.std.proofs.Common.{ℕ, List, [], ◌∷◌, Option, Some, None, ap}
use Rattle.std.specs.Prelude.{is_some}
use Rattle.std.proofs.lemmas.Option.{get_or_from_slice_get}
use Rattle.bast_base.specs.declared.errors.NameId.{NameId}
use Rattle.js_parser.specs.Leaves.{AreLeaves, Stands, raw_of, text_of}
use Rattle.js_parser.specs.Texts.{is_text}
use Rattle.js_tokens.specs.declared.kinds.Token.{Token}
use Rattle.js_tree.specs.Names.{AreNamesIn, IsNameIn}
use Rattle.js_tree.specs.declared.leaf.Leaf.{Leaf}
use Rattle.string_table.proofs.Laws.{slice_get-place_in}

name_of : (entries : List (Option (List ℕ))) (text : Option (List ℕ)) (n : Option NameId) → Stands entries text n → IsNameIn (is_text entries) n
name_of entries None None stands = tt
name_of entries (Some bytes) None stands = tt
name_of entries None (Some n) stands = absurd stands
name_of entries (Some bytes) (Some n) stands = ap is_some (get_or_from_slice_get entries n.0 (Some bytes) None (slice_get-place_in entries (Some bytes) n.0 stands))

pub names_of : (text : List ℕ) (entries : List (Option (List ℕ))) (ts : List Token) (ls : List Leaf) → AreLeaves text entries ts ls → AreNamesIn (is_text entries) ls
names_of text entries [] [] are = tt
names_of text entries (t ∷ ts) (l ∷ ls) are = ((name_of entries (text_of text t) l.text are.0.text_stands, name_of entries (raw_of text t) l.raw are.0.raw_stands), names_of text entries ts ls are.1)
names_of text entries [] (l ∷ ls) are = absurd are
names_of text entries (t ∷ ts) [] are = absurd are
