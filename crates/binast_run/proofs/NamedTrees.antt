-- Where each name of a tree is the place of a text, the tree is one of named names.
use Rattle.std.proofs.Common.{◌≡◌, ℕ, zero, suc, Bool, true, false, ◌&&◌, List, [], ◌∷◌, Option, Some, None, is_some, get_or, refl}
use Rattle.std.specs.Prelude.{slice_get}
use Rattle.bast_schema.specs.Tree.{Tree, branch, Datum, child, absent, listed, flag, index, whole, name, no_name, choice, window, Data, none, more}
use Rattle.bast_schema.proofs.Both.{and_first, and_second, both}
use Rattle.js_printer.specs.Names.{is_named, is_named_at, is_named_in}
use Rattle.tree_decoder.specs.Found.{is_text, stands, stands_at, all_stand}
use Rattle.tree_decoder.specs.Range.{Range}

text_there : (texts : List (Option (List ℕ))) (n : ℕ) → is_text (slice_get texts n) ≡ true → is_some (get_or texts n None) ≡ true
text_there [] n is = cc
text_there (Some text ∷ texts) zero is = refl
text_there (None ∷ texts) zero is = cc
text_there (entry ∷ texts) (suc n) is = text_there texts n is

mutual
  pub named_tree : (r : Range) (t : Tree) → stands r t ≡ true → is_named r.tables.texts t ≡ true
  named_tree r (branch k ds) is = named_data r ds is

  named_datum : (r : Range) (d : Datum) → stands_at r d ≡ true → is_named_at r.tables.texts d ≡ true
  named_datum r (child t) is = named_tree r t is
  named_datum r (listed ds) is = named_data r ds is
  named_datum r (name n) is = text_there r.tables.texts n is
  named_datum r _ is = refl

  named_data : (r : Range) (ds : Data) → all_stand r ds ≡ true → is_named_in r.tables.texts ds ≡ true
  named_data r none is = refl
  named_data r (more d ds) is =
      both (is_named_at r.tables.texts d) (is_named_in r.tables.texts ds)
      (named_datum r d (and_first (stands_at r d) (all_stand r ds) is)) (named_data r ds (and_second (stands_at r d) (all_stand r ds) is))
