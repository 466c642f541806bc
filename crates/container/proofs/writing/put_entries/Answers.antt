use Rattle.std.proofs.Common.{◌<◌, length, arith}
use Rattle.container.proofs.Entries.{entry_small, put_next}
use Rattle.container.proofs.writing.put_entries.Goals as goal

pub put_entry-requires : goal.put_entry-requires
put_entry-requires c =
    let within : c.places.place < length c.args.strings.now = omega arith
    in record { within = within; small = (entry_small c.args.strings.now c.places.place within c.places.invariant.1).0 }

pub places-preserved : goal.places-preserved
places-preserved c =
    let within : c.places.place < length c.args.strings.now = omega arith
    in (
      put_next c.put_entry.new.into.items c.places.into.items c.args.into.now.items c.args.strings.now c.places.place within c.in_ok-put_entry.ensures c.places.invariant.0,
      (entry_small c.args.strings.now c.places.place within c.places.invariant.1).1,
    )
