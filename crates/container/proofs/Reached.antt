-- Where reading stands behind each part of a container.
use Rattle.std.proofs.Common.{◌≡◌, ℕ, List, length, sym, ◌∙◌, codes, Option, Result, Ok, Err}
use Rattle.bast_base.specs.declared.errors.FormatFault.{FormatFault}
use Rattle.bast_base.specs.declared.errors.Halt.{Halt}
use Rattle.bast_base.specs.declared.errors.Halt.TheVariants as halt
use Rattle.bast_schema.specs.declared.kind.Kind.{Kind}
use Rattle.container.specs.declared.layout.Layout.{Layout}
use Rattle.container.specs.Answers.{Answers}
use Rattle.container.specs.Clauses.{head_at, section_at, whole_table}
use Rattle.container.specs.Entries.{more_kinds, more_texts}
use Rattle.container.specs.Layout.{Reached, before_tree, layout_of, outside, reach_all, start}
use Rattle.container.proofs.Answered.{answered, refused}
use Rattle.container.proofs.LayoutLemmas.{from_grammar, from_kinds, from_strings, from_texts, from_tree, layout_stops, parts, read}
use Rattle.container.proofs.OutsideLemmas.{outside_all}

abbrev pub reached : List ℕ → Result Reached FormatFault
reached bytes = reach_all bytes before_tree start

-- reading stops with a fault before the tree
pub record Stops (bytes : List ℕ) (f : FormatFault) : Type 0 where
  pub layout : layout_of bytes ≡ Err f
  pub all : outside bytes ≡ length bytes

stops : (bytes : List ℕ) (f : FormatFault) → reached bytes ≡ Err f → Stops bytes f
stops bytes f is = record { layout = layout_stops bytes f is; all = outside_all bytes f is }

pub stops_in_head : (bytes : List ℕ) (f : FormatFault) → Err f ≡ head_at bytes → Stops bytes f
stops_in_head bytes f is = stops bytes f (parts bytes ∙ refused (head_at bytes) (λ h. from_grammar bytes h) f (sym is))

pub record AtGrammar (bytes : List ℕ) (at : ℕ) : Type 0 where
  pub is : reached bytes ≡ from_grammar bytes at

pub behind_head : (bytes : List ℕ) (at : ℕ) → Ok at ≡ head_at bytes → AtGrammar bytes at
behind_head bytes at is = record { is = parts bytes ∙ answered (head_at bytes) (λ h. from_grammar bytes h) at (sym is) }

pub stops_in_grammar : {bytes : List ℕ} {at : ℕ} → AtGrammar bytes at → (f : FormatFault) → Err f ≡ section_at bytes (codes "[GRAMMAR]") at → Stops bytes f
stops_in_grammar {bytes} {at} a f is = stops bytes f (a.is ∙ refused (section_at bytes (codes "[GRAMMAR]") at) (λ g. from_kinds bytes g) f (sym is))

pub record AtKinds (bytes : List ℕ) (g : ℕ × ℕ) : Type 0 where
  pub is : reached bytes ≡ from_kinds bytes g

pub behind_grammar : {bytes : List ℕ} {at : ℕ} → AtGrammar bytes at → (g : ℕ × ℕ) → Ok g ≡ section_at bytes (codes "[GRAMMAR]") at → AtKinds bytes g
behind_grammar {bytes} {at} a g is = record { is = a.is ∙ answered (section_at bytes (codes "[GRAMMAR]") at) (λ g. from_kinds bytes g) g (sym is) }

pub fails_in_kinds : {bytes : List ℕ} {g : ℕ × ℕ} → AtKinds bytes g → (e : Halt) → Answers {A = List Kind} (Err e) (whole_table more_kinds bytes g.1 g.0) → Answers {A = Layout} (Err e) (layout_of bytes)
fails_in_kinds a halt.Memory fails = tt
fails_in_kinds {bytes} {g} a (halt.Format f) fails = layout_stops bytes f (a.is ∙ refused (whole_table more_kinds bytes g.1 g.0) (λ ks. from_strings bytes ks g.1) f fails)

pub record AtStrings (bytes : List ℕ) (ks : List Kind) (at : ℕ) : Type 0 where
  pub is : reached bytes ≡ from_strings bytes ks at

pub behind_kinds : {bytes : List ℕ} {g : ℕ × ℕ} → AtKinds bytes g → (ks : List Kind) → whole_table more_kinds bytes g.1 g.0 ≡ Ok ks → AtStrings bytes ks g.1
behind_kinds {bytes} {g} a ks is = record { is = a.is ∙ answered (whole_table more_kinds bytes g.1 g.0) (λ ks. from_strings bytes ks g.1) ks is }

pub stops_in_strings : {bytes : List ℕ} {ks : List Kind} {at : ℕ} → AtStrings bytes ks at → (f : FormatFault) → Err f ≡ section_at bytes (codes "[STRINGS]") at → Stops bytes f
stops_in_strings {bytes} {ks} {at} a f is = stops bytes f (a.is ∙ refused (section_at bytes (codes "[STRINGS]") at) (λ s. from_texts bytes ks s) f (sym is))

pub record AtTexts (bytes : List ℕ) (ks : List Kind) (s : ℕ × ℕ) : Type 0 where
  pub is : reached bytes ≡ from_texts bytes ks s

pub behind_strings : {bytes : List ℕ} {ks : List Kind} {at : ℕ} → AtStrings bytes ks at → (s : ℕ × ℕ) → Ok s ≡ section_at bytes (codes "[STRINGS]") at → AtTexts bytes ks s
behind_strings {bytes} {ks} {at} a s is = record { is = a.is ∙ answered (section_at bytes (codes "[STRINGS]") at) (λ s. from_texts bytes ks s) s (sym is) }

pub fails_in_texts : {bytes : List ℕ} {ks : List Kind} {s : ℕ × ℕ} → AtTexts bytes ks s → (e : Halt) → Answers {A = List (Option (List ℕ))} (Err e) (whole_table more_texts bytes s.1 s.0) → Answers {A = Layout} (Err e) (layout_of bytes)
fails_in_texts a halt.Memory fails = tt
fails_in_texts {bytes} {ks} {s} a (halt.Format f) fails = layout_stops bytes f (a.is ∙ refused (whole_table more_texts bytes s.1 s.0) (λ ts. from_tree bytes ks ts s.1) f fails)

pub record AtTree (bytes : List ℕ) (ks : List Kind) (ts : List (Option (List ℕ))) (at : ℕ) : Type 0 where
  pub is : reached bytes ≡ from_tree bytes ks ts at

pub behind_texts : {bytes : List ℕ} {ks : List Kind} {s : ℕ × ℕ} → AtTexts bytes ks s → (ts : List (Option (List ℕ))) → whole_table more_texts bytes s.1 s.0 ≡ Ok ts → AtTree bytes ks ts s.1
behind_texts {bytes} {ks} {s} a ts is = record { is = a.is ∙ answered (whole_table more_texts bytes s.1 s.0) (λ ts. from_tree bytes ks ts s.1) ts is }

pub stops_in_tree : {bytes : List ℕ} {ks : List Kind} {ts : List (Option (List ℕ))} {at : ℕ} → AtTree bytes ks ts at → (f : FormatFault) → Err f ≡ section_at bytes (codes "[TREE]") at → Stops bytes f
stops_in_tree {bytes} {ks} {ts} {at} a f is = stops bytes f (a.is ∙ refused (section_at bytes (codes "[TREE]") at) (λ t. Ok (read ks ts t)) f (sym is))

pub behind_tree : {bytes : List ℕ} {ks : List Kind} {ts : List (Option (List ℕ))} {at : ℕ} → AtTree bytes ks ts at → (t : ℕ × ℕ) → Ok t ≡ section_at bytes (codes "[TREE]") at → reached bytes ≡ Ok (read ks ts t)
behind_tree {bytes} {ks} {ts} {at} a t is = a.is ∙ answered (section_at bytes (codes "[TREE]") at) (λ t. Ok (read ks ts t)) t (sym is)
