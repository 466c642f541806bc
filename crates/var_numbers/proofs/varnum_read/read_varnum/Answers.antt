use Rattle.std.proofs.Common.{◌≡◌, ◌-◌, ◌+◌, ◌<◌, ◌∙◌, length, slice_index, slice_range, sym, arith, inl, inr, ◌%◌}
use Rattle.std.proofs.lemmas.Bool.{cases_lt}
use Rattle.bast_base.specs.declared.errors.Why.TheVariants.{Ended, Overlong, TooBig}
use Rattle.var_numbers.proofs.ReadingLemmas.{Reading, Last, Fits, reading-fits, reading-more, scale_early, ended-here, too_big-here, overlong-here, number-here}
use Rattle.var_numbers.proofs.RangeLemmas.{range-length, range-byte, only-spelled, spells-here, fault-there, number-there, not_beyond, not_fifth}
use Rattle.var_numbers.proofs.varnum_read.read_varnum.Given as given
use Rattle.var_numbers.proofs.varnum_read.read_varnum.Goals as goal

pub returns-then-is_beyond-clause-exact : goal.returns-then-is_beyond-clause-exact
returns-then-is_beyond-clause-exact g c =
    let range = slice_range c.args.tape.now c.args.at c.args.end in
    let k = c.groups.place - c.args.at in
    let long : length range ≡ c.args.end - c.args.at = range-length c.args.tape.now c.args.at c.args.end c.requires.order c.requires.within in
    let is : c.byte-byte.result ≡ slice_index range k = c.byte-byte.ensures.value ∙ sym (range-byte c.args.tape.now c.args.at c.groups.place c.args.end (omega arith) (omega arith)) in
    let why = c.is_beyond.ensures.0 c.if-is_beyond.true in
    fault-there range c.args.at c.groups.place TooBig (omega arith)
    (too_big-here range k c.groups.number c.groups.scale c.byte-byte.result c.groups.invariant.0 why.0 (omega arith) is why.1)

pub returns-then-is_beyond-clause-only : goal.returns-then-is_beyond-clause-only
returns-then-is_beyond-clause-only g c n more fits is =
    returns-then-is_beyond-clause-exact g c ∙ only-spelled _ c.args.at n more fits is

pub returns-then-place-at-clause-exact : goal.returns-then-place-at-clause-exact
returns-then-place-at-clause-exact g c =
    let range = slice_range c.args.tape.now c.args.at c.args.end in
    let k = c.groups.place - c.args.at in
    let long : length range ≡ c.args.end - c.args.at = range-length c.args.tape.now c.args.at c.args.end c.requires.order c.requires.within in
    let is : c.byte-byte.result ≡ slice_index range k = c.byte-byte.ensures.value ∙ sym (range-byte c.args.tape.now c.args.at c.groups.place c.args.end (omega arith) (omega arith)) in
    fault-there range c.args.at c.groups.place Overlong (omega arith)
    (overlong-here range k c.groups.number c.groups.scale c.groups.invariant.0 (omega arith) (omega arith) (omega arith))

pub returns-then-place-at-clause-only : goal.returns-then-place-at-clause-only
returns-then-place-at-clause-only g c n more fits is =
    returns-then-place-at-clause-exact g c ∙ only-spelled _ c.args.at n more fits is

-- the byte that ends a spelling
last-byte : (g : given.Over) (c : goal.After-from g) → Last (c.groups.place - c.args.at) c.byte-byte.result
last-byte g c =
    let k = c.groups.place - c.args.at in
    record {
      even = c.if-byte-eq0.true;
      fits = omega arith;
      small = λ fifth. (not_beyond k c.byte-byte.result c.is_beyond.ensures c.if-is_beyond.false fifth).1;
      used = λ later. elim c.else-byte-eq0-2.either [
        | inl first ↦ absurd (omega arith)
        | inr some ↦ elim (cases_lt 0 c.byte-byte.result) [ inl p ↦ p | inr none ↦ absurd (some (omega arith)) ]
      ];
    }

last-fits : (g : given.Over) (c : goal.After-from g) → Fits c.groups.number c.groups.scale c.byte-byte.result
last-fits g c =
    reading-fits _ (c.groups.place - c.args.at) c.groups.number c.groups.scale c.byte-byte.result c.groups.invariant.0 (last-byte g c).fits (last-byte g c).small

pub overflow_mul-result : goal.overflow_mul-result
overflow_mul-result g c = let f = last-fits g c in rw c.from.ensures (omega arith)

pub overflow_add-result : goal.overflow_add-result
overflow_add-result g c = let f = last-fits g c in rw c.from.ensures (omega arith)

pub returns-then-byte-eq0-clause-exact : goal.returns-then-byte-eq0-clause-exact
returns-then-byte-eq0-clause-exact g c =
    let range = slice_range c.args.tape.now c.args.at c.args.end in
    let k = c.groups.place - c.args.at in
    let long : length range ≡ c.args.end - c.args.at = range-length c.args.tape.now c.args.at c.args.end c.requires.order c.requires.within in
    let is : c.byte-byte.result ≡ slice_index range k = c.byte-byte.ensures.value ∙ sym (range-byte c.args.tape.now c.args.at c.groups.place c.args.end (omega arith) (omega arith)) in
    rw c.from.ensures (number-there range c.args.at c.groups.place _ (omega arith)
    (number-here range k c.groups.number c.groups.scale c.byte-byte.result c.groups.invariant.0 (omega arith) is (last-byte g c)))

pub returns-then-byte-eq0-clause-spelled : goal.returns-then-byte-eq0-clause-spelled
returns-then-byte-eq0-clause-spelled g c =
    rw c.from.ensures (spells-here c.args.tape.now c.args.at c.groups.place c.args.end c.groups.number c.groups.scale c.byte-byte.result (omega arith) (omega arith) c.requires.within c.groups.invariant.0 c.byte-byte.ensures.value (last-byte g c))

pub returns-then-byte-eq0-clause-only : goal.returns-then-byte-eq0-clause-only
returns-then-byte-eq0-clause-only g c n more fits is =
    returns-then-byte-eq0-clause-exact g c ∙ only-spelled _ c.args.at n more fits is

more-fits : (g : given.Over) (c : goal.After-from-in-groups g) → Fits c.groups.number c.groups.scale c.byte-byte.result
more-fits g c =
    reading-fits _ (c.groups.place - c.args.at) c.groups.number c.groups.scale c.byte-byte.result c.groups.invariant.0 (omega arith) (λ fifth. absurd (not_fifth (c.groups.place - c.args.at) c.byte-byte.result c.is_beyond.ensures c.if-is_beyond.false c.if-byte-eq0.false fifth))

pub overflow_mul-number : goal.overflow_mul-number
overflow_mul-number g c = let f = more-fits g c in rw c.from-in-groups.ensures (omega arith)

pub overflow_add-number : goal.overflow_add-number
overflow_add-number g c = let f = more-fits g c in rw c.from-in-groups.ensures (omega arith)

pub overflow_mul-scale : goal.overflow_mul-scale
overflow_mul-scale g c =
    let r : Reading (slice_range c.args.tape.now c.args.at c.args.end) (c.groups.place - c.args.at) c.groups.number c.groups.scale = c.groups.invariant.0 in
    omega (arith, scale_early _ _ _ _ r (not_fifth (c.groups.place - c.args.at) c.byte-byte.result c.is_beyond.ensures c.if-is_beyond.false c.if-byte-eq0.false))

pub groups-preserved : goal.groups-preserved
groups-preserved g c =
    let range = slice_range c.args.tape.now c.args.at c.args.end in
    let k = c.groups.place - c.args.at in
    let long : length range ≡ c.args.end - c.args.at = range-length c.args.tape.now c.args.at c.args.end c.requires.order c.requires.within in
    let is : c.byte-byte.result ≡ slice_index range k = c.byte-byte.ensures.value ∙ sym (range-byte c.args.tape.now c.args.at c.groups.place c.args.end (omega arith) (omega arith)) in
    let next : c.groups.place + 1 - c.args.at ≡ k + 1 = omega arith in
    let early : k < 4 = elim (cases_lt k 4) [ inl p ↦ p | inr p ↦ absurd (not_fifth k c.byte-byte.result c.is_beyond.ensures c.if-is_beyond.false c.if-byte-eq0.false (omega (arith, c.groups.invariant.0.few))) ] in
    let odd : c.byte-byte.result % 2 ≡ 1 = elim (cases_lt 0 (c.byte-byte.result % 2)) [ inl p ↦ omega arith | inr p ↦ absurd (c.if-byte-eq0.false (omega arith)) ] in (
      rw (next, c.from-in-groups.ensures) (reading-more range k c.groups.number c.groups.scale c.byte-byte.result c.groups.invariant.0 (omega arith) is (omega arith) odd early),
      omega arith,
      omega arith,
      omega arith,
      omega arith,
    )

pub returns-clause-exact : goal.returns-clause-exact
returns-clause-exact g c =
    let range = slice_range c.args.tape.now c.args.at c.args.end in
    let long : length range ≡ c.args.end - c.args.at = range-length c.args.tape.now c.args.at c.args.end c.requires.order c.requires.within in
    fault-there range c.args.at c.groups.place Ended (omega arith)
    (ended-here range (c.groups.place - c.args.at) c.groups.number c.groups.scale c.groups.invariant.0 (omega arith))

pub returns-clause-only : goal.returns-clause-only
returns-clause-only g c n more fits is =
    returns-clause-exact g c ∙ only-spelled _ c.args.at n more fits is
