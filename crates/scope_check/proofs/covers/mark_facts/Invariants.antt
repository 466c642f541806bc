use Rattle.std.proofs.Common.{◌≡◌, ℕ, drop}
use Rattle.scope_facts.specs.Covers.{cover_of}
use Rattle.scope_check.specs.Covers.{marked}
use Rattle.scope_check.proofs.covers.mark_facts.Given as goal

abbrev pub invariant-loop-fact : goal.invariant-loop-fact
invariant-loop-fact l = (x : ℕ) → marked l.now (drop l.fact-index l.facts) x (cover_of l.covers.items x) ≡ marked l.now l.facts x (cover_of l.fn.covers.items x)
