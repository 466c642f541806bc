use Rattle.std.proofs.Common.{◌≡◌, ◌++◌, drop}
use Rattle.bast_schema.specs.View.{data_of}
use Rattle.scope_facts.specs.Names.{tops_among}
use Rattle.scope_facts.proofs.names.put_tops_among.Given as goal

abbrev pub invariant-loop-statement : goal.invariant-loop-statement
invariant-loop-statement l = l.out.items ++ tops_among (data_of (drop l.statement-index l.statements)) ≡ l.fn.out.items ++ tops_among (data_of l.statements)
