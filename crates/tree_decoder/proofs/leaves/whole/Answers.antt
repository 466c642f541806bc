use Rattle.std.proofs.Common.{◌≡◌, ◌<◌, ◌^◌, ℕ, arith, rules}
use Rattle.var_numbers.specs.Pattern.{pattern}
use Rattle.tree_decoder.specs.Numbers.{whole_at}
use Rattle.tree_decoder.specs.Range.{range_of}
use Rattle.tree_decoder.proofs.Single.{whole_here, whole_bad}
use Rattle.tree_decoder.proofs.leaves.whole.Goals as goal

pub returns-then-input-at-lt8-clause-is : goal.returns-then-input-at-lt8-clause-is
unfolding whole_at
returns-then-input-at-lt8-clause-is g c = search rules

pub returns-in-Some-clause-is : goal.returns-in-Some-clause-is
returns-in-Some-clause-is g c =
    whole_here (range_of c.args.input.now) c.args.at c.long.result c.in-Some.whole (omega arith) c.long.ensures.is c.in-Some.ensures.some.0 c.in-Some.ensures.some.1

pub returns-in-None-clause-is : goal.returns-in-None-clause-is
returns-in-None-clause-is g c =
    let never : (n : ℕ) → n < 2 ^ 53 → pattern n ≡ c.long.result → ⊥ = λ n lt is. (let e = c.in-None.ensures.only n lt is in cc) in
    rw c.fault-in-None.ensures (whole_bad (range_of c.args.input.now) c.args.at c.long.result (omega arith) c.long.ensures.is never)
