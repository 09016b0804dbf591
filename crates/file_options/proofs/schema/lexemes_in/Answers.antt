use Rattle.std.proofs.Common.{ap, ◌∙◌, map, subst, Some, None, Ok, Err, refl}
use Rattle.sql_lexemes.specs.Lexing.{lexeme_of}
use Rattle.file_options.specs.Schemas.{HasLexemes}
use Rattle.file_options.proofs.Scans.{scan_of, not_memory}
use Rattle.file_options.proofs.schema.lexemes_in.Goals as goal

pub returns-in_ok-lexemes-in-Ok : goal.returns-in_ok-lexemes-in-Ok
returns-in_ok-lexemes-in-Ok c =
    let text = c.as_bytes-bytes.result.now in
    let e = c.in-Ok.ensures in
    let found : HasLexemes text (Some c.in_ok-lexemes-in-Ok.field-0) = record {
      scan = Ok c.in-Ok.tokens;
      scanned = scan_of text (Ok c.in-Ok.tokens) e.too_long e.scanned e.utf8 (λ m. cc);
      read = ap Some (c.in_ok-lexemes-in-Ok.ensures.value ∙ ap (map (lexeme_of text)) c.as_slice.ensures);
    } in
    subst (λ z. HasLexemes z (Some c.in_ok-lexemes-in-Ok.field-0)) c.as_bytes-bytes.ensures.value found

pub returns-in_default : goal.returns-in_default
returns-in_default c =
    let text = c.as_bytes-bytes.result.now in
    let e = c.in-Err.ensures in
    let found : HasLexemes text None = record {
      scan = Err c.in-Err.refusal;
      scanned = scan_of text (Err c.in-Err.refusal) e.too_long e.scanned c.as_bytes-bytes.ensures.utf8 (not_memory c.in-Err.refusal c.in_default.not-Memory);
      read = refl;
    } in
    subst (λ z. HasLexemes z None) c.as_bytes-bytes.ensures.value found
