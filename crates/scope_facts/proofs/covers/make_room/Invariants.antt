use Rattle.std.proofs.Common.{◌≡◌, ◌≤◌, length, ℕ}
use Rattle.scope_facts.specs.Covers.{cover_of}
use Rattle.scope_facts.proofs.covers.make_room.Given as goal

abbrev pub invariant-loop : goal.invariant-loop
invariant-loop l = record {
  room : l.counter ≤ length l.covers.items;
  more : length l.fn.covers.items ≤ length l.covers.items;
  covers : (x : ℕ) → cover_of l.covers.items x ≡ cover_of l.fn.covers.items x;
}
