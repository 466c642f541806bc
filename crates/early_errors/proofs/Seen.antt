-- The names of a list that are seen by a set.
use Rattle.std.proofs.Common.{ℕ, Bool, true, false, Option, List, [], ◌∷◌, ◌||◌, ◌≡◌, ◌<◌, ◌+◌, refl, nat_eq, ap, sym, ◌∙◌, if◌then◌else◌, cond, Some, not, length, drop, get_or, drop-cons, add-one}
use Rattle.early_errors.specs.Repeats.{repeat_from, is_among, first_where}

or_again : (b x y : Bool) → x ≡ y → (b || x) ≡ (b || y)
or_again b x y e = rw e refl

repeat_by : (n : ℕ) (b c : Bool) (x y : Option ℕ) → b ≡ c → x ≡ y → (if b then Some n else x) ≡ (if c then Some n else y)
repeat_by n b c x y e f = rw (e, f) refl

-- only what is seen counts
pub repeat_ext : (f g : ℕ → Bool) (ns : List ℕ) → ((m : ℕ) → f m ≡ g m) → repeat_from f ns ≡ repeat_from g ns
repeat_ext f g [] e = refl
repeat_ext f g (n ∷ ns) e = repeat_by n (f n) (g n) (repeat_from (λ m. nat_eq n m || f m) ns) (repeat_from (λ m. nat_eq n m || g m) ns) (e n) (repeat_ext (λ m. nat_eq n m || f m) (λ m. nat_eq n m || g m) ns (λ m. or_again (nat_eq n m) (f m) (g m) (e m)))

or_is : (b x : Bool) → cond b true x ≡ (b || x)
or_is true x = refl
or_is false x = refl

if_not : (b : Bool) (x y : Option ℕ) → b ≡ false → y ≡ (if b then x else y)
if_not b x y e = rw e refl

seen_step : (n : ℕ) (ns : List ℕ) (f g : ℕ → Bool) → f n ≡ false → ((q : ℕ) → g q ≡ cond (nat_eq n q) true (f q)) → repeat_from g ns ≡ repeat_from f (n ∷ ns)
seen_step n ns f g fresh e = repeat_ext g (λ m. nat_eq n m || f m) ns (λ m. e m ∙ or_is (nat_eq n m) (f m)) ∙ if_not (f n) (Some n) (repeat_from (λ m. nat_eq n m || f m) ns) fresh

not_true : (b x : Bool) → b ≡ not x → b ≡ true → x ≡ false
not_true b true e f = cc
not_true b false e f = refl

-- a name more among those seen
pub seen_more : (d : ℕ) (ns : List ℕ) (i : ℕ) (f g : ℕ → Bool) (new : Bool) → i < length ns → new ≡ not (f (get_or ns i d)) → new ≡ true
    → ((q : ℕ) → g q ≡ cond (nat_eq (get_or ns i d) q) true (f q)) → repeat_from g (drop (i + 1) ns) ≡ repeat_from f (drop i ns)
seen_more d ns i f g new within was is e =
    let there : drop i ns ≡ get_or ns i d ∷ drop (i + 1) ns = drop-cons ns i d within ∙ rw add-one refl
    in seen_step (get_or ns i d) (drop (i + 1) ns) f g (not_true new (f (get_or ns i d)) was is) e ∙ ap (repeat_from f) (sym there)

or_all : (a b : Bool) → (cond a true b) ≡ (b || a)
or_all true true = refl
or_all true false = refl
or_all false true = refl
or_all false false = refl

or_assoc : (a b c : Bool) → ((a || b) || c) ≡ (a || (b || c))
or_assoc true b c = refl
or_assoc false b c = refl

or_with : (a b c : Bool) → a ≡ b → (a || c) ≡ (b || c)
or_with a b c e = rw e refl

or_none : (a : Bool) → (a || false) ≡ a
or_none true = refl
or_none false = refl

-- a name more in the set
pub set_more : (d : ℕ) (ns : List ℕ) (i : ℕ) (f g : ℕ → Bool) (q : ℕ) → i < length ns
    → ((q : ℕ) → g q ≡ cond (nat_eq (get_or ns i d) q) true (f q)) → (g q || is_among (drop (i + 1) ns) q) ≡ (f q || is_among (drop i ns) q)
set_more d ns i f g q within e =
    let there : drop i ns ≡ get_or ns i d ∷ drop (i + 1) ns = drop-cons ns i d within ∙ rw add-one refl
    in or_with (g q) (f q || nat_eq (get_or ns i d) q) (is_among (drop (i + 1) ns) q) (e q ∙ or_all (nat_eq (get_or ns i d) q) (f q))
    ∙ or_assoc (f q) (nat_eq (get_or ns i d) q) (is_among (drop (i + 1) ns) q)
    ∙ ap (λ xs. f q || is_among xs q) (sym there)

-- the set at the end
pub set_whole : (f : ℕ → Bool) (rest ns : List ℕ) (q : ℕ) → rest ≡ [] → (f q || is_among rest q) ≡ is_among ns q → f q ≡ is_among ns q
set_whole f rest ns q e h = sym (or_none (f q)) ∙ ap (λ xs. f q || is_among xs q) (sym e) ∙ h

-- the first name in it
pub first_ext : (f g : ℕ → Bool) (ns : List ℕ) → ((m : ℕ) → f m ≡ g m) → first_where f ns ≡ first_where g ns
first_ext f g [] e = refl
first_ext f g (n ∷ ns) e = repeat_by n (f n) (g n) (first_where f ns) (first_where g ns) (e n) (first_ext f g ns e)
