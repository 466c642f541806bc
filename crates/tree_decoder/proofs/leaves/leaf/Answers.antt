use Rattle.std.proofs.Common.{sym}
use Rattle.tree_decoder.specs.Range.{range_of}
use Rattle.tree_decoder.proofs.Single.{numbered_spends, numbered_gives, leaf_number, number_spells}
use Rattle.tree_decoder.proofs.leaves.leaf.Goals as goal

pub returns-in_ok-number-in_default-clause-is : goal.returns-in_ok-number-in_default-clause-is
returns-in_ok-number-in_default-clause-is g c =
    let read = leaf_number (range_of c.args.input.now) c.args.wanted c.args.at (c.in_ok-number-in_default.number, c.in_ok-number-in_default.next) c.in_default.not-Bool c.in_default.not-Whole (sym c.in_ok-number-in_default.ensures.is) in
    numbered_gives (range_of c.args.input.now) c.args.wanted c.args.at c.in_ok-number-in_default.number c.in_ok-number-in_default.next _ c.numbered.result c.numbered.ensures read

pub returns-in_ok-number-in_default-clause-cost : goal.returns-in_ok-number-in_default-clause-cost
returns-in_ok-number-in_default-clause-cost g c =
    let read = number_spells (range_of c.args.input.now) c.args.at (c.in_ok-number-in_default.number, c.in_ok-number-in_default.next) c.requires.sound c.requires.at (sym c.in_ok-number-in_default.ensures.is) in
    numbered_spends (range_of c.args.input.now) c.args.wanted c.args.at c.in_ok-number-in_default.number c.in_ok-number-in_default.next _ _ c.numbered.result c.requires.sound read c.numbered.ensures c.in_ok-number-in_default.ensures.cost
