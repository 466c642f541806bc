use Rattle.std.proofs.Common.{◌≡◌, ◌<◌, ◌+◌, ℕ, length, ap, arith, List}
use Rattle.bast_schema.specs.declared.kind.Kind.{Kind}
use Rattle.container.specs.Clauses.{kind_entries, text_entries}
use Rattle.container.specs.Container.{container}
use Rattle.container.specs.Tables.{Tables}
use Rattle.tree_encoder.specs.File.{most_bytes}
use Rattle.var_numbers.specs.Varnum.{varnum}
use Rattle.tree_encoder.proofs.Lengths.{container_length, parts_within, tells_small, too_long}
use Rattle.tree_encoder.proofs.length.is_small.Goals as goal

pub returns-in_default-clause-small : goal.returns-in_default-clause-small
returns-in_default-clause-small c =
    let s : Tables = record { kinds = c.args.kinds.now; texts = c.args.texts.now } in
    too_long (length (text_entries c.args.texts.now)) (length (container s c.args.tree.now)) c.in_default.ensures'.len (parts_within s c.args.tree.now).1

pub returns-in_default-2-clause-small : goal.returns-in_default-2-clause-small
returns-in_default-2-clause-small c =
    let s : Tables = record { kinds = c.args.kinds.now; texts = c.args.texts.now } in
    let long : most_bytes < length (kind_entries c.as_slice.result.now) = rw c.in_default.is-0 at c.names_len.ensures in
    let same : length (kind_entries c.as_slice.result.now) ≡ length (kind_entries c.args.kinds.now) = ap (λ (ks : List Kind). length (kind_entries ks)) c.as_slice.ensures.is in
    too_long (length (kind_entries c.args.kinds.now)) (length (container s c.args.tree.now)) (omega arith) (parts_within s c.args.tree.now).0

pub returns-clause-small : goal.returns-clause-small
returns-clause-small c =
    let s : Tables = record { kinds = c.args.kinds.now; texts = c.args.texts.now } in
    let g : c.varnum_len.result + c.in-Some-Some.names ≡ length (varnum (length s.kinds)) + length (kind_entries s.kinds) =
    let names = ap (λ (ks : List Kind). length (kind_entries ks)) c.as_slice.ensures.is in
    let counted = ap (λ (n : ℕ). length (varnum n)) c.len.ensures.is in
    omega (arith, names, counted) in
    let x : c.varnum_len-2.result + c.in-Some-Some.entries ≡ length (varnum (length s.texts)) + length (text_entries s.texts) =
    let counted = ap (λ (n : ℕ). length (varnum n)) c.len-2.ensures.count in
    let entries : c.in-Some-Some.entries ≡ length (text_entries s.texts) = c.in-Some-Some.ensures'.len.0 in
    omega (arith, counted, entries) in
    let all = container_length s c.args.tree.now (c.varnum_len.result + c.in-Some-Some.names) (c.varnum_len-2.result + c.in-Some-Some.entries) g x in
    tells_small (6 + (c.section_len.result + c.section_len-2.result + c.section_len-3.result)) (length (container s c.args.tree.now)) (omega (arith, all))
