use Rattle.std.proofs.Common.{◌∙◌, sym}
use Rattle.bast_rows.proofs.Stepping.{within_node, within_list, steps_node, steps_list, counts_list, typed_node}
use Rattle.bast_rows.proofs.flat.FlatSiblings.step.Goals as goal

pub split_at-requires : goal.split_at-requires
split_at-requires c = within_node _ _ _ _ _ c.in-Node.is c.in_ok-first.ensures.cases.0 c.self.invariant

pub invariant_of-result : goal.invariant_of-result
invariant_of-result c = (steps_node _ _ _ _ _ _ _ c.in-Node.is c.in_ok-first.ensures.cases.0 c.self.invariant c.split_at.ensures.front c.split_at.ensures.back).inside

pub invariant_of-self : goal.invariant_of-self
invariant_of-self c = (steps_node _ _ _ _ _ _ _ c.in-Node.is c.in_ok-first.ensures.cases.0 c.self.invariant c.split_at.ensures.front c.split_at.ensures.back).behind

pub split_at-requires-in-List : goal.split_at-requires-in-List
split_at-requires-in-List c = within_list _ _ _ _ _ c.in-List.is c.in_ok-first.ensures.cases.0 c.self.invariant

pub invariant_of-result-in-List : goal.invariant_of-result-in-List
invariant_of-result-in-List c = (steps_list _ _ _ _ _ _ _ c.in-List.is c.in_ok-first.ensures.cases.0 c.self.invariant c.split_at-in-List.ensures.front c.split_at-in-List.ensures.back).inside

pub invariant_of-self-in-List : goal.invariant_of-self-in-List
invariant_of-self-in-List c = (steps_list _ _ _ _ _ _ _ c.in-List.is c.in_ok-first.ensures.cases.0 c.self.invariant c.split_at-in-List.ensures.front c.split_at-in-List.ensures.back).behind

pub returns-in-Node-clause-values : goal.returns-in-Node-clause-values
returns-in-Node-clause-values c = sym c.self.view_is ∙ (steps_node _ _ _ _ _ _ _ c.in-Node.is c.in_ok-first.ensures.cases.0 c.self.invariant c.split_at.ensures.front c.split_at.ensures.back).seen

pub returns-in-List-clause-values : goal.returns-in-List-clause-values
returns-in-List-clause-values c = sym c.self.view_is ∙ (steps_list _ _ _ _ _ _ _ c.in-List.is c.in_ok-first.ensures.cases.0 c.self.invariant c.split_at-in-List.ensures.front c.split_at-in-List.ensures.back).seen

pub returns-in-List-clause-counts : goal.returns-in-List-clause-counts
returns-in-List-clause-counts c = counts_list _ _ _ _ _ _ c.in-List.is c.in_ok-first.ensures.cases.0 c.self.invariant c.split_at-in-List.ensures.front

pub returns-in-Node-clause-typed : goal.returns-in-Node-clause-typed
returns-in-Node-clause-typed c = typed_node _ _ _ _ _ _ c.in-Node.is c.in_ok-first.ensures.cases.0 c.self.invariant c.split_at.ensures.front
