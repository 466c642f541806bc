-- Reading as one list of what is due, from left to right.
use Rattle.std.specs.Prelude.{ℕ, zero, suc, ◌+◌, ◌-◌, List, [], ◌∷◌, ◌++◌, nat_lt, if◌then◌else◌, Option, None, Some, Result, Ok, Err}
use Rattle.bast_base.specs.declared.errors.FormatFault.{FormatFault}
use Rattle.bast_base.specs.declared.errors.Why.TheVariants.{Trailing}
use Rattle.tree_decoder.specs.Dues.{Due, Taken, atom_at}
use Rattle.container.specs.Answers.{fault}
use Rattle.tree_decoder.specs.Range.{Range}

-- the windows that were passed, in order, and the first fault
pub record Outcome : Type 0 where
  pub windows : List (ℕ × ℕ)
  pub fault : Option FormatFault

abbrev pub ends : Option FormatFault → Outcome
ends o = record { windows = []; fault = o }

-- an outcome after further windows
abbrev pub behind : List (ℕ × ℕ) → Outcome → Outcome
behind ws o = record { windows = ws ++ o.windows; fault = o.fault }

-- goes on behind an atom, with what it puts before the other dues
abbrev pub after : (List Due → ℕ → Outcome) → List Due → Result Taken FormatFault → Outcome
after f ds (Ok x) = behind x.windows (f (x.puts ++ ds) x.next)
after f ds (Err e) = ends (Some e)

-- where nothing more is due, no byte may be left
abbrev pub done : Range → ℕ → Outcome
done r at = if nat_lt at r.end then ends (Some (fault at Trailing)) else ends None

-- The longest list of atoms that stand in a row from a place on, each for the first due after those before it, but at
-- most so many; and the cause for the first due after them.
abbrev pub go : Range → ℕ → List Due → ℕ → Outcome
go r n [] at = done r at
go r zero (x ∷ ds) at = ends None
go r (suc n) (x ∷ ds) at = after (go r n) ds (atom_at r x at)

-- each atom has a byte or more, so there are no more atoms than bytes
unfoldable pub outcome_from : Range → List Due → ℕ → Outcome
outcome_from r ds at = go r (r.end + 1 - at) ds at

-- the fault alone
abbrev pub fault_from : Range → List Due → ℕ → Option FormatFault
fault_from r ds at = (outcome_from r ds at).fault
