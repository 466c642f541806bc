-- Where the characters before a byte end.
use Rattle.std.proofs.Common.{◌≡◌, ℕ, ◌+◌, ◌≤◌, Bool, List, [], ◌∷◌, ◌++◌, refl, sym, ap, ◌∙◌, append-nil, if◌then◌else◌}
use Rattle.std.specs.Prelude.{encode_utf8_all}
use Rattle.std.specs.Char.{len_utf8}
use Rattle.std.proofs.lemmas.Bool.{le-ltb}
use Rattle.js_tokens.specs.Values.{until, line_feeds}

until_ends : (closing stop : ℕ) (cs : List ℕ) (at : ℕ) → stop ≤ at + closing → until closing stop cs at ≡ []
until_ends closing stop [] at h = refl
until_ends closing stop (c ∷ cs) at h = ap (λ b. if b then c ∷ until closing stop cs (at + len_utf8 c) else []) (le-ltb (at + closing) stop h)

pub ends : (closing stop : ℕ) (cs : List ℕ) (at : ℕ) (bs wanted : List ℕ) → bs ++ encode_utf8_all (until closing stop cs at) ≡ wanted → stop ≤ at + closing → bs ≡ wanted
ends closing stop cs at bs wanted is h = sym (append-nil bs) ∙ ap (λ l. bs ++ encode_utf8_all l) (sym (until_ends closing stop cs at h)) ∙ is

pub feeds_end : (closing stop : ℕ) (cs : List ℕ) (at : ℕ) (bs wanted : List ℕ) (return : Bool) → bs ++ encode_utf8_all (line_feeds return (until closing stop cs at)) ≡ wanted → stop ≤ at + closing → bs ≡ wanted
feeds_end closing stop cs at bs wanted return is h = sym (append-nil bs) ∙ ap (λ l. bs ++ encode_utf8_all (line_feeds return l)) (sym (until_ends closing stop cs at h)) ∙ is
