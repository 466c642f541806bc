use Rattle.js_tokens.proofs.Scalars.{value_is_text, raw_is_text}
use Rattle.js_tokens.proofs.laws.values_are_texts.Goals as goal

pub returns-clause-value : goal.returns-clause-value
returns-clause-value c = value_is_text

pub returns-clause-raw : goal.returns-clause-raw
returns-clause-raw c = raw_is_text
