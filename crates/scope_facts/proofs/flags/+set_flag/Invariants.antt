use Rattle.bast_schema.specs.Tree.{count}
use Rattle.bast_schema.specs.View.{data_of}
use Rattle.scope_facts.proofs.flags.+set_flag.Given as goal

abbrev pub decreases-set_flag : goal.decreases-set_flag
decreases-set_flag l = count (data_of l.values.items)
