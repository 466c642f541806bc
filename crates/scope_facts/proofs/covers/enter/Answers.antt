use Rattle.std.proofs.Common.{ap, ◌∙◌, Some, nat_eq, if◌then◌else◌}
use Rattle.std.specs.List.{list_any}
use Rattle.scope_facts.specs.Covers.{cover_of, has_name, restored}
use Rattle.scope_facts.proofs.Shadows.{named_among, restored_among}
use Rattle.scope_facts.proofs.covers.enter.Goals as goal

pub returns : goal.returns
returns c = record {
  covers = λ x. c.put_entries.ensures x
      ∙ ap (λ ss. if list_any (λ s. nat_eq s.name x) ss then Some c.args.entry else cover_of c.make_rooms.new.covers.items x) (c.deref-3.ensures.value ∙ c.in_ok-shadows.ensures)
      ∙ ap (λ b. if b then Some c.args.entry else cover_of c.make_rooms.new.covers.items x) (named_among (cover_of c.deref.result.now) c.args.names.now x)
      ∙ ap (λ o. if has_name x c.args.names.now then Some c.args.entry else o) (c.make_rooms.ensures.covers x);
  shadows = λ x o. ap (λ ss. restored ss x o) c.in_ok-shadows.ensures
      ∙ restored_among (cover_of c.deref.result.now) c.args.names.now x o
      ∙ ap (λ cs. if has_name x c.args.names.now then cover_of cs x else o) c.deref.ensures.value;
  unchanged = tt;
}
