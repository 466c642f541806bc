use Rattle.scope_facts.proofs.Escapes.{captured_exactly}
use Rattle.scope_facts.proofs.laws.entries_are_captured_exactly.Goals as goal

pub returns : goal.returns
returns c = captured_exactly
