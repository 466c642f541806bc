use Rattle.std.proofs.Common.{◌≡◌, drop}
use Rattle.js_tree.specs.Nodes.{limited}
use Rattle.js_tree.specs.Steps.{gathered, no_work}
use Rattle.js_tree.proofs.steps.gather.Given as goal

abbrev pub invariant-loop-step : goal.invariant-loop-step
invariant-loop-step l = gathered limited (drop l.step-index l.steps) l.work l.parts ≡ gathered limited l.fn.steps no_work l.fn.parts
