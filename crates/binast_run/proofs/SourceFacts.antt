-- What holds of the tree of a source.
use Rattle.std.proofs.Common.{◌≡◌, ℕ, true, List, [], ◌∷◌, Option, Some, None, Ok, subst, sym}
use Rattle.std.specs.List.{IsDistinct}
use Rattle.bast_schema.specs.declared.kind.FieldType.TheVariants as field
use Rattle.bast_schema.specs.declared.kind.Kind.TheVariants.{Script}
use Rattle.bast_schema.specs.declared.kind.Union.TheVariants.{One}
use Rattle.bast_schema.specs.Counts.{is_whole}
use Rattle.bast_schema.specs.Eager.{is_eager}
use Rattle.bast_schema.specs.NamesHold.{names_hold}
use Rattle.bast_schema.specs.Tree.{Tree, typed, kind_of}
use Rattle.container.proofs.Values.{child_fits}
use Rattle.js_parser.specs.Leaves.{text_of, raw_of, with_text, with_texts_of, with_texts}
use Rattle.js_parser.specs.Source.{IsSource}
use Rattle.js_parser.specs.Texts.{is_text}
use Rattle.js_parser.proofs.Accepted.{leaves_tell}
use Rattle.js_parser.proofs.LeafNames.{names_of}
use Rattle.js_tokens.specs.declared.kinds.Token.{Token}
use Rattle.js_tree.specs.Nodes.{limited}
use Rattle.js_tree_laws.proofs.Scripts.{trees_are_scripts}
use Rattle.js_tree_laws.proofs.Sorts.{Is, Safely}
use Rattle.js_tree_laws.proofs.Told.{accepted_are_safe}
use Rattle.js_tree_laws.proofs.Trees.{limited_makes}
use Rattle.js_tree_laws.proofs.TreesHold.{trees_are_whole, trees_are_eager, trees_are_plain, trees_have_names}
use Rattle.scope_facts.specs.Bare.{bare}
use Rattle.string_table.specs.Entries.{AreDistinct}
use Rattle.string_table.proofs.Laws.{AreDistinct-added}

with_text_distinct : (entries : List (Option (List ℕ))) (o : Option (List ℕ)) → AreDistinct entries → AreDistinct (with_text entries o)
with_text_distinct entries None d = d
with_text_distinct entries (Some bytes) d = AreDistinct-added entries (Some bytes) d

with_texts_distinct : (text : List ℕ) (entries : List (Option (List ℕ))) (ts : List Token) → AreDistinct entries → AreDistinct (with_texts text entries ts)
with_texts_distinct text entries [] d = d
with_texts_distinct text entries (t ∷ ts) d =
    with_texts_distinct text (with_texts_of text entries t) ts (with_text_distinct (with_text entries (text_of text t)) (raw_of text t) (with_text_distinct entries (text_of text t) d))

none_distinct : AreDistinct []
unfolding IsDistinct
none_distinct = tt

pub record SourceFacts (texts : List (Option (List ℕ))) (t : Tree) : Type 0 where
  pub script : kind_of t ≡ Script
  pub typed : typed t ≡ true
  pub whole : is_whole t ≡ true
  pub eager : is_eager t ≡ true
  pub plain : bare t ≡ t
  pub named : names_hold (is_text texts) t ≡ true
  pub distinct : AreDistinct texts

pub source_facts : (input : List ℕ) (texts : List (Option (List ℕ))) (t : Tree) → IsSource input [] texts (Ok t) → SourceFacts texts t
source_facts input texts t source =
    let ls = source.leaves
    in let es = source.events
    in record {
      script = trees_are_scripts input source.tokens ls es t source.accepted source.image;
      typed = child_fits (field.Node (One Script)) t (subst (Safely (Is (One Script))) source.image (accepted_are_safe limited limited_makes input source.tokens ls es source.are_tokens (leaves_tell input texts source.tokens ls source.are_leaves) source.accepted));
      whole = trees_are_whole ls es t source.image;
      eager = trees_are_eager ls es t source.image;
      plain = trees_are_plain ls es t source.image;
      named = trees_have_names (is_text texts) ls es t (names_of input texts source.tokens ls source.are_leaves) source.image;
      distinct = subst AreDistinct (sym source.table) (with_texts_distinct input [] source.tokens none_distinct);
    }
