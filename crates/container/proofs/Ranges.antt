-- Parts of a file, one behind another.
use Rattle.std.proofs.Common.{◌≡◌, ℕ, ◌+◌, ◌-◌, ◌<◌, ◌≤◌, List, ◌++◌, length, take, drop, slice_range, refl, sym, ap, subst, ◌∙◌, arith, append_assoc, length-append}
use Rattle.std.proofs.Math.Seq.{take-add}
use Rattle.std.proofs.lemmas.List.{drop-drop, drop_at, take_at, take_rest}
use Rattle.var_numbers.proofs.RangeLemmas.{range-length}
use Rattle.var_numbers.specs.ReadClauses.{Spells}
use Rattle.var_numbers.specs.Varnum.{varnum}
use Rattle.container.specs.Container.{counted, section}

-- the part lies from `at` to `next`, before `end`
pub record Lies (bytes : List ℕ) (at end : ℕ) (part : List ℕ) (next : ℕ) : Type 0 where
  pub next_is : next ≡ at + length part
  pub within : next ≤ end
  pub front : slice_range bytes at end ≡ part ++ slice_range bytes next end

-- a length, and behind it so many bytes from one place to another
pub record LiesCounted (bytes : List ℕ) (at end from to : ℕ) : Type 0 where
  pub ahead : at < from
  pub order : from ≤ to
  pub lies : Lies bytes at end (counted (slice_range bytes from to)) to

-- a section: its title, its form, and after its length its content
pub record LiesSection (bytes title : List ℕ) (at from to : ℕ) : Type 0 where
  pub ahead : at < from
  pub order : from ≤ to
  pub lies : Lies bytes at (length bytes) (section title (slice_range bytes from to)) to

pub range_split : (bytes : List ℕ) (i j k : ℕ) → i ≤ j → j ≤ k → slice_range bytes i k ≡ slice_range bytes i j ++ slice_range bytes j k
range_split bytes i j k before behind =
    let whole : k - i ≡ (j - i) + (k - j) = omega arith in
    let there : i + (j - i) ≡ j = omega arith in
    ap (λ (n : ℕ). take n (drop i bytes)) whole
    ∙ take-add (j - i) (k - j) (drop i bytes)
    ∙ ap (λ (xs : List ℕ). take (j - i) (drop i bytes) ++ take (k - j) xs) (drop-drop (j - i) i bytes)
    ∙ ap (λ (n : ℕ). take (j - i) (drop i bytes) ++ take (k - j) (drop n bytes)) there

-- a range begins with a part, which ends at a place
pub record Splits (bytes : List ℕ) (at end : ℕ) (part more : List ℕ) (mid : ℕ) : Type 0 where
  pub mid_is : mid ≡ at + length part
  pub within : mid ≤ end
  pub here : slice_range bytes at mid ≡ part
  pub rest : slice_range bytes mid end ≡ more

pub split : (bytes : List ℕ) (at end : ℕ) (part more : List ℕ) → at ≤ end → end ≤ length bytes → slice_range bytes at end ≡ part ++ more → Splits bytes at end part more (at + length part)
split bytes at end part more order small is =
    let all : length part + length more ≡ end - at = sym (length-append part more) ∙ sym (ap length is) ∙ range-length bytes at end order small in
    let mid = at + length part in
    let two : slice_range bytes at mid ++ slice_range bytes mid end ≡ part ++ more = sym (range_split bytes at mid end (omega arith) (omega arith)) ∙ is in
    let first : length (slice_range bytes at mid) ≡ length part = range-length bytes at mid (omega arith) (omega arith) ∙ omega arith in
    record {
      mid_is = refl;
      within = omega arith;
      here = sym (take_at (slice_range bytes at mid) (slice_range bytes mid end) (length part) first) ∙ ap (take (length part)) two ∙ take_at part more (length part) refl;
      rest = sym (drop_at (slice_range bytes at mid) (slice_range bytes mid end) (length part) first) ∙ ap (drop (length part)) two ∙ drop_at part more (length part) refl;
    }

pub range_to_end : (bytes : List ℕ) (i : ℕ) → slice_range bytes i (length bytes) ≡ drop i bytes
range_to_end bytes i = take_rest bytes i

-- a range lies where it lies
pub lies_range : (bytes : List ℕ) (at to end : ℕ) → at ≤ to → to ≤ end → end ≤ length bytes → Lies bytes at end (slice_range bytes at to) to
lies_range bytes at to end order within small =
    let long : length (slice_range bytes at to) ≡ to - at = range-length bytes at to order (omega arith) in
    record { next_is = omega arith; within = within; front = range_split bytes at to end order within }

pub lies_more : {bytes p q : List ℕ} {at mid next end : ℕ} → Lies bytes at end p mid → Lies bytes mid end q next → Lies bytes at end (p ++ q) next
lies_more {bytes} {p} {q} {at} {mid} {next} {end} x y = record {
  next_is = omega (arith, x.next_is, y.next_is, length-append p q);
  within = y.within;
  front = x.front ∙ ap (λ (xs : List ℕ). p ++ xs) y.front ∙ sym (append_assoc p q (slice_range bytes next end));
}

pub counted_lies : (bytes : List ℕ) (at end n from : ℕ) → Spells bytes at end n from → from + n ≤ end → end ≤ length bytes → LiesCounted bytes at end from (from + n)
counted_lies bytes at end n from s within small =
    let number : Lies bytes at end (varnum n) from = record { next_is = s.next_is; within = s.within; front = s.front } in
    let content : Lies bytes from end (slice_range bytes from (from + n)) (from + n) = lies_range bytes from (from + n) end (omega arith) within small in
    let long : length (slice_range bytes from (from + n)) ≡ n = range-length bytes from (from + n) (omega arith) (omega arith) ∙ omega arith in
    record {
      ahead = s.ahead;
      order = omega arith;
      lies = subst (λ (m : ℕ). Lies bytes at end (varnum m ++ slice_range bytes from (from + n)) (from + n)) (sym long) (lies_more number content);
    }

pub number_lies : {bytes : List ℕ} {at end n from : ℕ} → Spells bytes at end n from → Lies bytes at end (varnum n) from
number_lies s = record { next_is = s.next_is; within = s.within; front = s.front }

pub version_lies : (bytes part : List ℕ) (at mid end n next : ℕ) → Lies bytes at end part mid → Spells bytes mid end n next → n ≡ 1 → Lies bytes at end (part ++ varnum 1) next
version_lies bytes part at mid end n next x s one = lies_more x (subst (λ (m : ℕ). Lies bytes mid end (varnum m) next) one (number_lies s))
