use Rattle.std.proofs.Common.{◌∙◌, ap, not}
use Rattle.scope_facts.proofs.Once.{member_is, member_added}
use Rattle.scope_facts.proofs.repeats.insert_name.Goals as goal

pub returns-clause-is_new : goal.returns-clause-is_new
returns-clause-is_new c = c.in_ok-insert.ensures.added ∙ ap not (member_is c.args.name c.args.seen.now.keys)

pub returns-clause-names : goal.returns-clause-names
returns-clause-names c = λ a. member_added a c.args.name c.args.seen.now.keys c.insert.new.self.keys (c.in_ok-insert.ensures.updates.0 a)
