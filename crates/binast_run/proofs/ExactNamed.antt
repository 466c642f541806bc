-- Exact scopes keep the kind of a tree, and that its names stand for texts.
use Rattle.std.proofs.Common.{◌≡◌, ℕ, Bool, true, List, Option, refl, subst, ap, ◌∙◌, IsTrue}
use Rattle.bast_schema.specs.NamesHold.{names_hold, names_hold_at, names_hold_in}
use Rattle.bast_schema.specs.Tree.{Tree, branch, Datum, child, absent, listed, flag, index, whole, name, no_name, choice, window, Data, none, more, kind_of}
use Rattle.bast_schema.specs.declared.kind.Kind.TheVariants.{Script}
use Rattle.binast_run.specs.Sources.{source_file}
use Rattle.container.specs.InFile.{InFile}
use Rattle.container.specs.Named.{named, named_at, all_named}
use Rattle.js_parser.specs.Texts.{is_text}
use Rattle.scope_facts.specs.Exact.{exact}
use Rattle.tree_encoder.specs.File.{file, texts_held}

pub exact_kind : (texts : List (Option (List ℕ))) (t : Tree) → kind_of (exact texts t) ≡ kind_of t
exact_kind texts (branch k ds) = refl

mutual
  pub names_are : (texts : List (Option (List ℕ))) (t : Tree) → named (texts_held texts) t ≡ names_hold (is_text texts) t
  names_are texts (branch k ds) = names_are_in texts ds

  names_are_at : (texts : List (Option (List ℕ))) (d : Datum) → named_at (texts_held texts) d ≡ names_hold_at (is_text texts) d
  names_are_at texts (child t) = names_are texts t
  names_are_at texts (listed ds) = names_are_in texts ds
  names_are_at texts _ = refl

  names_are_in : (texts : List (Option (List ℕ))) (ds : Data) → all_named (texts_held texts) ds ≡ names_hold_in (is_text texts) ds
  names_are_in texts none = refl
  names_are_in texts (more d ds) = rw (names_are_at texts d, names_are_in texts ds) refl

-- so a file that was written of the tree with exact scopes is in the grammar of files
pub exact_in_grammar : (texts : List (Option (List ℕ))) (t e : Tree) (bytes : List ℕ) → e ≡ exact texts t → kind_of t ≡ Script → names_hold (is_text texts) t ≡ true
    → ((p : ℕ → Bool) → names_hold p t ≡ true → names_hold p e ≡ true) → bytes ≡ file (texts_held texts) e
    → (kind_of e ≡ Script → IsTrue (named (texts_held texts) e) → InFile bytes (texts_held texts) e) → InFile (source_file texts t) (texts_held texts) (exact texts t)
exact_in_grammar texts t e bytes is script names kept bytes_is made =
    let k : kind_of e ≡ Script = ap kind_of is ∙ exact_kind texts t ∙ script
    in let n : named (texts_held texts) e ≡ true = names_are texts e ∙ kept (is_text texts) names
    in subst (λ (x : Tree). InFile (file (texts_held texts) x) (texts_held texts) x) is (subst (λ (b : List ℕ). InFile b (texts_held texts) e) bytes_is (made k n))
