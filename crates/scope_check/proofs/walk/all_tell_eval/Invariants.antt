use Rattle.std.proofs.Common.{◌≡◌, drop}
use Rattle.scope_check.specs.Untrue.{all_tell}
use Rattle.scope_check.proofs.walk.all_tell_eval.Given as goal

abbrev pub invariant-loop-scope : goal.invariant-loop-scope
invariant-loop-scope l = all_tell (drop l.scope-index l.scopes) ≡ all_tell l.scopes
