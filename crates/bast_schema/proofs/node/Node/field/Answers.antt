use Rattle.std.proofs.Common.{◌≡◌, ◌∙◌, ap, ◌<◌, length}
use Rattle.bast_schema.specs.Tree.{values_of}
use Rattle.bast_schema.specs.View.{data_of}
use Rattle.bast_schema.proofs.Lists.{count_data_of, value_at_data_of}
use Rattle.bast_schema.proofs.node.Node.field.Goals as goal

pub bounds-as_slice-field : goal.bounds-as_slice-field
bounds-as_slice-field c =
    let e : data_of c.as_slice.result.now ≡ values_of c.args.self.now = c.as_slice.ensures ∙ ap values_of c.self.view_is
    in rw (← (count_data_of c.as_slice.result.now), e) c.requires

pub returns : goal.returns
returns c =
    let e : data_of c.as_slice.result.now ≡ values_of c.args.self.now = c.as_slice.ensures ∙ ap values_of c.self.view_is
    in let within : c.args.field < length c.as_slice.result.now = rw (← (count_data_of c.as_slice.result.now), e) c.requires
    in rw (← e) (value_at_data_of c.as_slice.result.now c.args.field c.index-as_slice-field.result c.index-as_slice-field.is within)
