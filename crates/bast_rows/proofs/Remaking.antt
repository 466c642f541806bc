-- Values of a well-typed node can be made.
use Rattle.std.proofs.Common.{◌≡◌, ◌≤◌, true, false, List, [], ◌∷◌, ◌++◌, sym, ap, ◌∙◌, Ok, Err, Result}
use Rattle.bast_schema.specs.declared.kind.Kind.{Kind}
use Rattle.bast_schema.specs.declared.node.NodeFault.{NodeFault}
use Rattle.bast_schema.specs.declared.node.Value.{Value}
use Rattle.bast_schema.specs.Counts.{join}
use Rattle.bast_schema.specs.Made.{node_of}
use Rattle.bast_schema.specs.Tree.{Tree, branch, Datum, Data, more, typed, depth}
use Rattle.bast_schema.specs.View.{datum, data_of}
use Rattle.bast_schema.proofs.Sums.{join_last}
use Rattle.bast_schema.proofs.Typed.{made_where_fit}

abbrev made_as : Tree → Result Tree NodeFault
made_as t = Ok t

abbrev fault_as : NodeFault → Result Tree NodeFault
fault_as f = Err f

same_tree : (t u : Tree) → made_as t ≡ made_as u → t ≡ u
same_tree t u e = cc

apart : (f : NodeFault) (u : Tree) → fault_as f ≡ made_as u → false ≡ true
apart f u e = cc

no_path : false ≡ true → ⊥
no_path e = absurd (truth e)
  where
    truth : false ≡ true → ⊥
    truth x = cc

-- the node is the one that is due
pub node_is : (k : Kind) (ds es : Data) (t : Tree) → es ≡ ds → typed (branch k ds) ≡ true → depth (branch k ds) ≤ 512 → made_as t ≡ node_of k es → t ≡ branch k ds
node_is k ds es t same h less e = same_tree t (branch k ds) (e ∙ ap (node_of k) same ∙ made_where_fit k ds h less)

pub no_fault : (k : Kind) (ds es : Data) (f : NodeFault) → es ≡ ds → typed (branch k ds) ≡ true → depth (branch k ds) ≤ 512 → fault_as f ≡ node_of k es → ⊥
no_fault k ds es f same h less e = no_path (apart f (branch k ds) (e ∙ ap (node_of k) same ∙ made_where_fit k ds h less))

pub goes_on : (vs : List Value) (v : Value) (d : Datum) (left rest all : Data) → datum v ≡ d → left ≡ more d rest → join (data_of vs) left ≡ all → join (data_of (vs ++ v ∷ [])) rest ≡ all
goes_on vs v d left rest all is l before = join_last vs v rest ∙ ap (λ x. join (data_of vs) (more x rest)) is ∙ ap (join (data_of vs)) (sym l) ∙ before
