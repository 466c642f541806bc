-- Atoms that stand in a row, and what the reading answers behind them.
use Rattle.std.specs.Prelude.{◌≡◌, ℕ, ◌≤◌, ◌++◌, List, [], ◌∷◌, Option, Some, Ok, Err}
use Rattle.bast_base.specs.declared.errors.FormatFault.{FormatFault}
use Rattle.container.specs.Atoms.{Atom}
use Rattle.container.specs.SpelledAtom.{spelled_atom}
use Rattle.tree_decoder.specs.Dues.{Due, Taken, atom_at}
use Rattle.tree_decoder.specs.Left.{dues_left, puts}
use Rattle.tree_decoder.specs.Outcome.{done, outcome_from}
use Rattle.tree_decoder.specs.Range.{Range, IsSound, left}

-- the atom is spelled at a place, and it is of the due's type: it puts these dues in the due's place
pub record Standing (r : Range) (x : Due) (at : ℕ) (a : Atom) (y : Taken) : Type 0 where
  pub taken : atom_at r x at ≡ Ok y
  pub spelled : left r at ≡ spelled_atom r.tables a ++ left r y.next
  pub puts : puts x.type x.depth x.inside a ≡ Some y.puts

-- From these dues at a place on the atoms stand one after another, each for the first due. Behind them other dues are left.
pub data Row (r : Range) : List Due → ℕ → List Atom → List Due → ℕ → Type 0 where
  here : (ds : List Due) (at : ℕ) → Row r ds at [] ds at
  and_then : (x : Due) (ds : List Due) (at : ℕ) (a : Atom) (y : Taken) (others : List Atom) (rest : List Due) (place : ℕ)
      → Standing r x at a y → Row r (y.puts ++ ds) y.next others rest place → Row r (x ∷ ds) at (a ∷ others) rest place

-- the answer where these dues are left at a place: the cause for the first of them, or what the end has
abbrev pub Stops : Range → List Due → ℕ → Option FormatFault → Type 0
Stops r [] place fault = fault ≡ (done r place).fault
Stops r (x ∷ ds) place fault = (f : FormatFault) × (atom_at r x place ≡ Err f) × (fault ≡ Some f)

-- a row that can't go on, and the answer behind it
pub record Longest (r : Range) (ds : List Due) (at : ℕ) (fault : Option FormatFault) : Type 0 where
  pub atoms : List Atom
  pub rest : List Due
  pub place : ℕ
  pub row : Row r ds at atoms rest place
  pub due : dues_left ds atoms ≡ Some rest
  pub stops : Stops r rest place fault

-- The reading answers the cause for the first due behind the longest row of atoms.
abbrev pub IsFirstBehindRow : Type 0
IsFirstBehindRow = (r : Range) (ds : List Due) (at : ℕ) → IsSound r → at ≤ r.end → Longest r ds at (outcome_from r ds at).fault
