use Rattle.std.proofs.Common.{subst, sym, ◌≡◌, ◌∙◌, ap, arith, ◌≤◌, ℕ, List, Option}
use Rattle.bast_schema.specs.Tree.{Tree, depth}
use Rattle.bast_schema.specs.Counts.{is_whole, size}
use Rattle.scope_facts.specs.Exact.{exact, eval_name}
use Rattle.scope_facts.specs.Filled.{filled}
use Rattle.scope_facts.specs.Flagged.{flagged}
use Rattle.bast_schema.specs.NamesHold.{names_hold}
use Rattle.scope_facts.proofs.WholeKept.{exact_whole}
use Rattle.scope_facts.proofs.NamesKept.{exact_names}
use Rattle.scope_facts.proofs.Typed.{depth_same, size_same, filled_depth}
use Rattle.scope_facts.proofs.exact_scopes.annotate.Goals as goal

exact_depth : (texts : List (Option (List ℕ))) (t : Tree) → depth (exact texts t) ≤ depth t
exact_depth texts t = omega (arith, depth_same (eval_name texts) (filled t), filled_depth t)

pub returns : goal.returns
returns c =
    let is : c.in_ok-tree-2.tree ≡ exact c.args.strings.now c.args.tree
    = c.in_ok-tree-2.ensures.tree ∙ ap (λ e. flagged e c.in_ok-tree.tree) c.name_of_eval-eval.ensures ∙ ap (flagged (eval_name c.args.strings.now)) c.in_ok-tree.ensures.filled
    in record {
      exact = is;
      whole = λ h. ap is_whole is ∙ exact_whole c.args.strings.now c.args.tree h;
      names = λ p h. ap (names_hold p) is ∙ exact_names c.args.strings.now c.args.tree p h;
      depth = subst (λ t. depth t ≤ depth c.args.tree) (sym is) (exact_depth c.args.strings.now c.args.tree);
      size = omega (arith, c.requires, ap size c.in_ok-tree-2.ensures.tree ∙ size_same c.name_of_eval-eval.result c.in_ok-tree.tree, c.in_ok-tree.ensures.size);
    }
