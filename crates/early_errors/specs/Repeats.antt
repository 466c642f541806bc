-- The first name of a list that comes again, and the first that stands in another list too.
use Rattle.std.specs.Prelude.{ℕ, Bool, false, Option, Some, None, List, [], ◌∷◌, ◌||◌, nat_eq, if◌then◌else◌}

-- the first name that was seen, or that is equal to one before it
abbrev pub repeat_from : (ℕ → Bool) → List ℕ → Option ℕ
repeat_from seen [] = None
repeat_from seen (n ∷ ns) = if seen n then Some n else repeat_from (λ m. nat_eq n m || seen m) ns

-- the first that is equal to one before it: the earliest second declaration
abbrev pub repeated : List ℕ → Option ℕ
repeated ns = repeat_from (λ m. false) ns

-- the first that passes a test
abbrev pub first_where : (ℕ → Bool) → List ℕ → Option ℕ
first_where p [] = None
first_where p (n ∷ ns) = if p n then Some n else first_where p ns

abbrev pub is_among : List ℕ → ℕ → Bool
is_among [] n = false
is_among (m ∷ ms) n = nat_eq m n || is_among ms n

-- the first that is one of the others
abbrev pub shared : List ℕ → List ℕ → Option ℕ
shared ns others = first_where (is_among others) ns
