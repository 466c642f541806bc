use Rattle.std.proofs.Common.{◌+◌, ◌*◌}
use Rattle.scope_facts_tests.proofs.tests.shown.+show.Given as goal

abbrev pub decreases-put_scopes : goal.decreases-put_scopes
decreases-put_scopes l = 2 * l.levels + 1

abbrev pub decreases-put_scopes_in : goal.decreases-put_scopes_in
decreases-put_scopes_in l = 2 * l.levels
