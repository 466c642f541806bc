use Rattle.std.proofs.Common.{ap, ◌∙◌, ◌<◌, Option, Some, sym, arith, length, set, length-set}
use Rattle.std.proofs.lemmas.List.Elements.{All-pop, All-weaker}
use Rattle.scope_facts.specs.declared.covers.Cover.{Cover}
use Rattle.scope_facts.specs.Covers.{cover_of, restored}
use Rattle.scope_facts.proofs.Shadows.{restored_last, put_there}
use Rattle.scope_facts.proofs.covers.put_back.Goals as goal

pub loop-shadow-preserved : goal.loop-shadow-preserved
loop-shadow-preserved c =
    let rooms = All-pop (λ s. s.name < length c.loop-shadow.covers.items) c.loop-shadow.shadows.items c.pop.new.self.items (Some c.in-Some.shadow) c.in-Some.ensures.items c.loop-shadow.invariant.room
    in record {
      covers = λ x. ap (restored c.pop.new.self.items x) (put_there c.loop-shadow.covers.items c.in-Some.shadow.name x c.in-Some.shadow.cover rooms.1)
          ∙ sym (restored_last c.pop.new.self.items c.in-Some.shadow x (cover_of c.loop-shadow.covers.items x))
          ∙ ap (λ ss. restored ss x (cover_of c.loop-shadow.covers.items x)) (sym c.in-Some.ensures.items)
          ∙ c.loop-shadow.invariant.covers x;
      room = All-weaker (λ s. s.name < length c.loop-shadow.covers.items) (λ s. s.name < length (set c.loop-shadow.covers.items c.in-Some.shadow.name c.in-Some.shadow.cover)) (λ s h. omega (arith, length-set {A = Option Cover})) c.pop.new.self.items rooms.0;
    }
