use Rattle.std.proofs.Common.{arith, inl, inr, sym}
use Rattle.var_numbers.proofs.PatternLemmas.{pattern-other_exponent, pattern-shifted_back}
use Rattle.var_numbers.proofs.pattern.nearest.Goals as goal

pub returns-then-biased-lt1023-clause-only : goal.returns-then-biased-lt1023-clause-only
returns-then-biased-lt1023-clause-only c n fits is =
    elim c.then-biased-lt1023.either [
      | inl low ↦ sym (pattern-other_exponent n c.args.bits fits is (inl (omega arith)))
      | inr high ↦ sym (pattern-other_exponent n c.args.bits fits is (inr (omega arith)))
    ]

pub returns-clause-only : goal.returns-clause-only
returns-clause-only c n fits is = pattern-shifted_back n c.args.bits fits is (omega arith)
