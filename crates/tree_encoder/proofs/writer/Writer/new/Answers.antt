use Rattle.std.proofs.Common.{◌≡◌, ℕ, ap, arith, None, replicate, length, ◌∙◌}
use Rattle.tree_encoder.proofs.Stay.{numbers_none}
use Rattle.tree_encoder.proofs.writer.Writer.new.Goals as goal

pub returns-clause-sound : goal.returns-clause-sound
returns-clause-sound c =
    let same : c.in_ok-no_numbers.field-0.items ≡ replicate (length c.args.strings.now) None =
    c.in_ok-no_numbers.ensures ∙ ap (λ (n : ℕ). replicate n None) c.len.ensures.count in
    let none : length c.new-3.result.items ≡ 0 = ap length c.new-3.ensures.items in
    let empty : length c.new-2.result ≡ 0 = ap length c.new-2.ensures in
    record {
      small = omega (arith, none);
      few = omega (arith, none, empty);
      numbers = rw c.new-2.ensures (numbers_none c.args.strings.now c.in_ok-no_numbers.field-0.items same);
    }
