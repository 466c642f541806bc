use Rattle.std.proofs.Common.{◌≡◌, true, false, None, sym, ap, ◌∙◌, ℕ, ◌+◌, Err}
use Rattle.std.specs.Str.{bytes_eq}
use Rattle.std.specs.Str.Lossy.{utf8_valid_len}
use Rattle.bast_base.specs.declared.errors.Why.TheVariants.{NotUtf8}
use Rattle.container.specs.Answers.{fault}
use Rattle.container.specs.Container.{entry_bytes}
use Rattle.container.proofs.Named.{text_read, absent_read, no_text}
use Rattle.container.proofs.tables.add_entry.Goals as goal

pub returns-in-Ok : goal.returns-in-Ok
returns-in-Ok c =
    rw (text_read c.args.strings.now c.args.bytes.now c.args.at c.in-Ok.ensures.cases.1, ← c.in-Ok.ensures.cases.0) c.add_text.ensures

pub returns-in-Err : goal.returns-in-Err
returns-in-Err c =
    let same : bytes_eq c.args.bytes.now (entry_bytes None) ≡ true = sym (c.if-eq.ensures ∙ ap (bytes_eq c.args.bytes.now) c.as_slice.ensures) in
    rw (absent_read c.args.strings.now c.args.bytes.now c.args.at c.in-Err.ensures.cases.0 same) c.add_absent.ensures

pub returns-in-Err-2 : goal.returns-in-Err-2
returns-in-Err-2 c =
    let other : bytes_eq c.args.bytes.now (entry_bytes None) ≡ false = sym (c.if-eq.ensures ∙ ap (bytes_eq c.args.bytes.now) c.as_slice.ensures) in
    let here : utf8_valid_len c.args.bytes.now ≡ c.valid_up_to.result = sym (c.valid_up_to.ensures ∙ c.in-Err.ensures.valid_len) in
    no_text c.args.strings.now c.args.bytes.now c.args.at c.in-Err.ensures.cases.0 other
    ∙ ap (λ (n : ℕ). Err (fault (c.args.at + n) NotUtf8)) here
