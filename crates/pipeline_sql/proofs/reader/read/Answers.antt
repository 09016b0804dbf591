use Rattle.std.proofs.Common.{ap, ◌∙◌}
use Rattle.pipeline_sql.specs.Read.{lexemes_of, placed}
use Rattle.pipeline_sql.proofs.Told.{told_tokens}
use Rattle.pipeline_sql.proofs.OneAnswer.{answer_read, answer_refused}
use Rattle.pipeline_sql.proofs.reader.read.Goals as goal

-- ---- a text without tokens

pub returns-in-Err-clause-refused : goal.returns-in-Err-clause-refused
returns-in-Err-clause-refused c =
    let e = c.in-Err.ensures in
    (told_tokens c.args.text.now c.in-Err.refusal (record { too_long = e.too_long; not_utf8 = e.not_utf8; scanned = e.scanned })).refused

pub returns-in-Err-clause-only_read : goal.returns-in-Err-clause-only_read
returns-in-Err-clause-only_read c =
    let e = c.in-Err.ensures in
    (told_tokens c.args.text.now c.in-Err.refusal (record { too_long = e.too_long; not_utf8 = e.not_utf8; scanned = e.scanned })).only_read

pub returns-in-Err-clause-only_refused : goal.returns-in-Err-clause-only_refused
returns-in-Err-clause-only_refused c =
    let e = c.in-Err.ensures in
    (told_tokens c.args.text.now c.in-Err.refusal (record { too_long = e.too_long; not_utf8 = e.not_utf8; scanned = e.scanned })).only_refused

-- ---- statements

pub returns-in-Ok-read_tokens-clause-only_read : goal.returns-in-Ok-read_tokens-clause-only_read
returns-in-Ok-read_tokens-clause-only_read c =
    let text = c.args.text.now in
    let e = c.in-Ok.ensures in
    let p = c.in-Ok-read_tokens.ensures in
    (answer_read text c.in-Ok.tokens c.as_slice-2.result.now c.in-Ok-read_tokens.statements (record { too_long = e.too_long; not_utf8 = e.not_utf8; scanned = e.scanned })
    (c.as_slice-2.ensures ∙ c.in_ok-lexemes.ensures.value ∙ ap (lexemes_of text) c.as_slice.ensures) (record { ok = p.ok; only = p.only; refused = p.refused; only_refused = p.only_refused })).only_read

pub returns-in-Ok-read_tokens-clause-only_refused : goal.returns-in-Ok-read_tokens-clause-only_refused
returns-in-Ok-read_tokens-clause-only_refused c =
    let text = c.args.text.now in
    let e = c.in-Ok.ensures in
    let p = c.in-Ok-read_tokens.ensures in
    (answer_read text c.in-Ok.tokens c.as_slice-2.result.now c.in-Ok-read_tokens.statements (record { too_long = e.too_long; not_utf8 = e.not_utf8; scanned = e.scanned })
    (c.as_slice-2.ensures ∙ c.in_ok-lexemes.ensures.value ∙ ap (lexemes_of text) c.as_slice.ensures) (record { ok = p.ok; only = p.only; refused = p.refused; only_refused = p.only_refused })).only_refused

-- ---- tokens that are refused

pub returns-clause-refused : goal.returns-clause-refused
returns-clause-refused c =
    let text = c.args.text.now in
    let e = c.in-Ok.ensures in
    let p = c.in-Err-read_tokens.ensures in
    (answer_refused text c.in-Ok.tokens c.as_slice-2.result.now c.in-Err-read_tokens.refusal c.placed.result (record { too_long = e.too_long; not_utf8 = e.not_utf8; scanned = e.scanned })
    (c.as_slice-2.ensures ∙ c.in_ok-lexemes.ensures.value ∙ ap (lexemes_of text) c.as_slice.ensures) (record { ok = p.ok; only = p.only; refused = p.refused; only_refused = p.only_refused })
    (c.placed.ensures ∙ ap (λ ts. placed text ts c.in-Err-read_tokens.refusal) c.as_slice-in-Err-read_tokens.ensures)).refused

pub returns-clause-only_read : goal.returns-clause-only_read
returns-clause-only_read c =
    let text = c.args.text.now in
    let e = c.in-Ok.ensures in
    let p = c.in-Err-read_tokens.ensures in
    (answer_refused text c.in-Ok.tokens c.as_slice-2.result.now c.in-Err-read_tokens.refusal c.placed.result (record { too_long = e.too_long; not_utf8 = e.not_utf8; scanned = e.scanned })
    (c.as_slice-2.ensures ∙ c.in_ok-lexemes.ensures.value ∙ ap (lexemes_of text) c.as_slice.ensures) (record { ok = p.ok; only = p.only; refused = p.refused; only_refused = p.only_refused })
    (c.placed.ensures ∙ ap (λ ts. placed text ts c.in-Err-read_tokens.refusal) c.as_slice-in-Err-read_tokens.ensures)).only_read

pub returns-clause-only_refused : goal.returns-clause-only_refused
returns-clause-only_refused c =
    let text = c.args.text.now in
    let e = c.in-Ok.ensures in
    let p = c.in-Err-read_tokens.ensures in
    (answer_refused text c.in-Ok.tokens c.as_slice-2.result.now c.in-Err-read_tokens.refusal c.placed.result (record { too_long = e.too_long; not_utf8 = e.not_utf8; scanned = e.scanned })
    (c.as_slice-2.ensures ∙ c.in_ok-lexemes.ensures.value ∙ ap (lexemes_of text) c.as_slice.ensures) (record { ok = p.ok; only = p.only; refused = p.refused; only_refused = p.only_refused })
    (c.placed.ensures ∙ ap (λ ts. placed text ts c.in-Err-read_tokens.refusal) c.as_slice-in-Err-read_tokens.ensures)).only_refused
