use Rattle.std.proofs.Common.{arith, ◌≤◌, ◌^◌, length}
use Rattle.bast_schema.proofs.Lists.{count_data_of}
use Rattle.scope_facts.proofs.entries.put_item_entries.Goals as goal

pub overflow_add-place : goal.overflow_add-place
overflow_add-place c = let h : length c.args.items.now ≤ 2 ^ 30 = rw (← (count_data_of c.args.items.now)) c.requires in omega (arith, c.loop-item.invariant.place)
