use Rattle.std.proofs.Common.{◌≡◌, ℕ, None, drop}
use Rattle.scope_facts.specs.Covers.{cover_of}
use Rattle.scope_check.specs.Least.{cover_start}
use Rattle.scope_check.proofs.walk.start_covers.Given as goal

abbrev pub invariant-loop-scope : goal.invariant-loop-scope
invariant-loop-scope l = (x : ℕ) → cover_start (drop l.scope-index l.scopes) x (cover_of l.covers.items x) ≡ cover_start l.scopes x None
