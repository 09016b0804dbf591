-- What lines of listed files come to that were read.
use Rattle.std.proofs.Common.{◌≡◌, ℕ, ◌∷◌, List, [], map, inr, true, refl, ap, ◌∙◌}
use Rattle.std.specs.Prelude.{Result, Ok, Err, IfOk, None, slice_index_or}
use Rattle.std.specs.declared.alloc.AllocError.{AllocError}
use Rattle.value_core.specs.declared.cursor.Cursor.TheVariants.{Files}
use Rattle.value_core.specs.declared.cursor.FilePlace.{FilePlace}
use Rattle.value_core.specs.declared.shape.Shape.{Shape}
use Rattle.value_core.specs.FilePlaces.{IsPlaces}
use Rattle.landing_core.specs.declared.fresh.Fresh.{Fresh}
use Rattle.landing_core.specs.declared.landing.LandingFile.{LandingFile}
use Rattle.landing_core.specs.declared.landing.Listed.{Listed}
use Rattle.landing_core.specs.declared.lines.FreshLine.{FreshLine}
use Rattle.landing_core.specs.Fresh.{heads_of, new_lines, reach, shrunk}
use Rattle.landing_core.specs.Places.{NoneFalls}
use Rattle.landing_history.specs.Taken.{with_heads}
use Rattle.line_rows.specs.Lines.{keeps_text}
use Rattle.line_rows.proofs.FitLemmas.{row_fits_columns}
use Rattle.flow_kinds.proofs.FitTools.{both_of}
use Rattle.plan_core.specs.declared.flow.Origin.TheVariants as origin
use Rattle.row_flow.specs.Rows.{head_given, line_row}
use Rattle.state_model.specs.Follows.{all_fit, is_row_of}
use Rattle.state_steps.specs.Consumed.{row_of_line}
use Rattle.flow_news.specs.declared.news.News.{News}
use Rattle.flow_news.specs.Finds.{Follow, OfListed, found_of}
use Rattle.flow_news.specs.News.{AreRead, rows_read}

-- a line gives one row, whether its head stands beside it or is found by the number of its file
rows_alike : (shape : Shape) (heads : List (List ℕ)) (lines : List FreshLine) → map (line_row shape heads) lines ≡ map (row_of_line shape) (with_heads heads lines)
rows_alike shape heads [] = refl
rows_alike shape heads (line ∷ lines) = ap (λ rows. line_row shape heads line ∷ rows) (rows_alike shape heads lines)

-- each line gives a row that fits the columns
lines_fit : (shape : Shape) → keeps_text shape ≡ true → (heads : List (List ℕ)) (lines : List FreshLine) → all_fit shape.columns (map (line_row shape heads) lines) ≡ true
lines_fit shape keeps heads [] = refl
lines_fit shape keeps heads (line ∷ lines) =
    both_of (is_row_of shape.columns) (line_row shape heads line) (map (line_row shape heads) lines) (row_fits_columns shape (head_given shape (slice_index_or heads line.file [])) line.line keeps)
    (lines_fit shape keeps heads lines)

module _ (tells : Type 0) (files : List LandingFile) (shape : Shape) (dir : List ℕ) (listing : List Listed) (places : List FilePlace) (fresh : Fresh) where
  pub are_read : (tells → fresh.heads ≡ heads_of shape.format shape.header dir files listing) → (tells → fresh.lines ≡ new_lines shape.format shape.header dir files places 0 listing)
      → (tells → fresh.cursor ≡ reach dir files places listing) → IsPlaces fresh.cursor → NoneFalls places fresh.cursor
      → AreRead tells shape dir files listing places (rows_read (origin.Files dir shape) fresh) fresh.cursor
  are_read heads lines cursor form later = record {
    rows_are = λ told. rows_alike shape fresh.heads fresh.lines ∙ (λ i. map (row_of_line shape) (with_heads (heads told i) (lines told i)));
    reach_is = cursor;
    form = form;
    later = later;
    fit = λ keeps. lines_fit shape keeps fresh.heads fresh.lines;
  }

  pub lines_come : (was now : ℕ) (result : Result News AllocError)
      → shrunk places listing ≡ None
      → AreRead tells shape dir files listing places (rows_read (origin.Files dir shape) fresh) fresh.cursor
      → IfOk result (λ news. Follow (Files places) (rows_read (origin.Files dir shape) fresh) (Files fresh.cursor) (found_of (origin.Files dir shape) news))
      → IfOk result (λ news. OfListed tells was now files shape dir listing places (shrunk places listing) (found_of (origin.Files dir shape) news))
  lines_come was now (Ok news) none read comes = rw none (inr (rows_read (origin.Files dir shape) fresh, fresh.cursor, read, comes))
  lines_come was now (Err end) none read comes = tt
