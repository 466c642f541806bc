use Rattle.scope_facts.proofs.Kept.{uses_captured}
use Rattle.scope_facts.proofs.laws.uses_find_captured_entries.Goals as goal

pub returns : goal.returns
returns c = uses_captured
