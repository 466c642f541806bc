use Rattle.std.proofs.Common.{◌∙◌, ◌<◌, arith, length, sym, take}
use Rattle.std.proofs.lemmas.List.{take_all}
use Rattle.std.proofs.lemmas.List.Elements.{All-more, All-weaker, All-same}
use Rattle.scope_facts.proofs.covers.make_rooms.Goals as goal

pub loop-shadow-preserved : goal.loop-shadow-preserved
loop-shadow-preserved c = record {
  room = All-more (λ s. s.name < length c.make_room.new.covers.items) c.args.shadows.now c.loop-shadow.shadow-index _ c.loop-shadow-test.true
      (All-weaker (λ s. s.name < length c.loop-shadow.covers.items) (λ s. s.name < length c.make_room.new.covers.items) (λ s h. omega (arith, c.make_room.ensures.more)) (take c.loop-shadow.shadow-index c.args.shadows.now) c.loop-shadow.invariant.room)
      c.in_ok-make_room.ensures.room;
  covers = λ x. c.make_room.ensures.covers x ∙ c.loop-shadow.invariant.covers x;
}

pub returns-clause-room : goal.returns-clause-room
returns-clause-room c = All-same (λ s. s.name < length c.loop-shadow.covers.items) c.args.shadows.now (take c.loop-shadow.shadow-index c.args.shadows.now) (sym (take_all c.loop-shadow.shadow-index c.args.shadows.now c.loop-shadow-test.false)) c.loop-shadow.invariant.room
