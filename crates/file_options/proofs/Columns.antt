-- The columns of a schema and the rescued one.
use Rattle.std.proofs.Common.{◌≡◌, ℕ, zero, suc, ◌<◌, ◌==◌, Bool, true, false, cond, not, ◌||◌, List, [], ◌∷◌, ◌++◌, length, get_or, Option, Some, None, Ok, Err, refl, sym, ap, ◌∙◌, arith}
use Rattle.std.specs.Prelude.{is_some, ok_or, codes, option_and_then}
use Rattle.std.specs.List.{list_any}
use Rattle.std.proofs.lemmas.Bool.{and_parts, and_from, or_parts, or_from, both_ways, false_from_ne_true, not-true, not_from_false}
use Rattle.std.proofs.lemmas.Cmp.{nat_list_eq_equiv}
use Rattle.std.proofs.lemmas.List.Folds.{list_any_at, list_any-append}
use Rattle.sql_tree.specs.declared.lexeme.Lexeme.{Lexeme}
use Rattle.sql_tree.specs.declared.statement.OptionValue.{OptionValue}
use Rattle.sql_tree.specs.declared.statement.OptionValue.TheVariants as value
use Rattle.sql_tree.specs.declared.statement.SqlOption.{SqlOption}
use Rattle.value_core.specs.declared.cursor.Format.{Format}
use Rattle.value_core.specs.declared.schema.Column.{Column}
use Rattle.value_core.specs.declared.value.Kind.TheVariants as kind
use Rattle.value_core.specs.NameFold.{folded, same_name}
use Rattle.file_options.specs.declared.files.FilesRead.{FilesRead}
use Rattle.file_options.specs.Options.{Word, set_to, separator_of, header_of, idle_word}
use Rattle.file_options.specs.Schemas.{column, has_name, are_distinct, are_sound, if_sound, listed, columns_of, SchemaBy, SchemaOf, with_rescued}
use Rattle.file_options.specs.Rules.{By, then_by, no_option, files_with, begun_by, ended_by, Ends, FilesBy, HasDistinctNames, EndsInText}

-- ---- names

same_symm : (a b : Word) → same_name a b ≡ same_name b a
same_symm a b = nat_list_eq_equiv.symm (folded a) (folded b)

none_at : (test : Column → Bool) (columns : List Column) (at : ℕ) (d : Column) → list_any test columns ≡ false →
    at < length columns → test (get_or columns at d) ≡ false
none_at test columns at d none within = false_from_ne_true _ (λ here. both_ways (list_any test columns) none (list_any_at test columns at d within here))

pub pairs_distinct : (columns : List Column) → are_distinct columns ≡ true → HasDistinctNames columns
pairs_distinct [] h i j d before within = absurd (omega arith)
pairs_distinct (first ∷ others) h i zero d before within = absurd (omega arith)
pairs_distinct (first ∷ others) h zero (suc j) d before within =
    let parts = and_parts (not (has_name others first.name)) (are_distinct others) h in
    let apart = none_at (λ found. same_name found.name first.name) others j d (not-true (has_name others first.name) parts.0) (omega arith) in
    not_from_false (same_name first.name (get_or others j d).name) (same_symm first.name (get_or others j d).name ∙ apart)
pairs_distinct (first ∷ others) h (suc i) (suc j) d before within =
    pairs_distinct others (and_parts (not (has_name others first.name)) (are_distinct others) h).1 i j d (omega arith) (omega arith)

distinct_more : (columns : List Column) (last : Column) → are_distinct columns ≡ true → has_name columns last.name ≡ false →
    are_distinct (columns ++ last ∷ []) ≡ true
distinct_more [] last h new = refl
distinct_more (first ∷ others) last h new =
    let parts = and_parts (not (has_name others first.name)) (are_distinct others) h in
    let news = or_parts (same_name first.name last.name) (has_name others last.name) new in
    let same = same_symm last.name first.name ∙ news.0 in
    let later = or_from (same_name last.name first.name) false same refl in
    let both = or_from (has_name others first.name) (same_name last.name first.name || false) (not-true (has_name others first.name) parts.0) later in
    let none = list_any-append (λ found. same_name found.name first.name) others (last ∷ []) ∙ both in
    and_from (not (has_name (others ++ last ∷ []) first.name)) (are_distinct (others ++ last ∷ []))
    (not_from_false (has_name (others ++ last ∷ []) first.name) none) (distinct_more others last parts.1 news.1)

-- ---- the rescued column

abbrev refused : List Column → Word → Bool
refused columns name = (length name == 0) || has_name columns name

abbrev IsMade : List Column → Word → List Column → Type 0
IsMade columns name all = (has_name columns name ≡ false) × (all ≡ columns ++ column name kind.Str ∷ [])

made : (columns all : List Column) (name : Word) (test : Bool) → refused columns name ≡ test →
    cond test None (Some (columns ++ column name kind.Str ∷ [])) ≡ Some all → IsMade columns name all
made columns all name true e h = absurd (cc)
made columns all name false e h = ((or_parts (length name == 0) (has_name columns name) e).1, (cc))

pub distinct_all : (columns all : List Column) (set : Option OptionValue) → are_distinct columns ≡ true →
    with_rescued columns set ≡ Some all → are_distinct all ≡ true
distinct_all columns all None h e = let same : columns ≡ all = cc in ap are_distinct (sym same) ∙ h
distinct_all columns all (Some (value.Bool truth)) h e = absurd (cc)
distinct_all columns all (Some (value.Str name)) h e =
    let is = made columns all name (refused columns name) refl e in
    ap are_distinct is.1 ∙ distinct_more columns (column name kind.Str) h is.0

pub text_last : (columns all : List Column) (set : Option OptionValue) → with_rescued columns set ≡ Some all → is_some set ≡ true → EndsInText all
text_last columns all None e some = absurd (cc)
text_last columns all (Some (value.Bool truth)) e some = absurd (cc)
text_last columns all (Some (value.Str name)) e some = (columns, name, (made columns all name (refused columns name) refl e).1)

-- ---- the schema

sound_if : (columns : List Column) (found : List Column) (test : Bool) → are_sound found ≡ test →
    Some columns ≡ cond test (Some found) None → are_sound columns ≡ true
sound_if columns found true e h = let same : columns ≡ found = cc in ap are_sound same ∙ e
sound_if columns found false e h = absurd (cc)

sound_listed : (columns : List Column) (found : Option (List Column)) → Some columns ≡ option_and_then if_sound found → are_sound columns ≡ true
sound_listed columns None h = absurd (cc)
sound_listed columns (Some found) h = sound_if columns found (are_sound found) refl h

sound_read : (columns : List Column) (lexemes : Option (List Lexeme)) → Some columns ≡ option_and_then columns_of lexemes → are_sound columns ≡ true
sound_read columns None h = absurd (cc)
sound_read columns (Some lexemes) h = sound_listed columns (listed lexemes) h

pub sound_schema : (columns : List Column) (set : Option OptionValue) → SchemaBy set (Some columns) → are_sound columns ≡ true
sound_schema columns None h = absurd (cc)
sound_schema columns (Some (value.Bool truth)) h = absurd (cc)
sound_schema columns (Some (value.Str text)) h = sound_read columns h.lexemes h.listed

-- ---- all of it

abbrev IsShaped : Option (List Column) → Bool → FilesRead → Type 0
IsShaped all rescued files = (all ≡ Some files.shape.columns) × (files.shape.rescued ≡ rescued)

shaped : (dir : List ℕ) (format : Format) (rescued : Bool) (files : FilesRead) (sep : Option ℕ) (header : Option Bool) (idle : Option Word)
    (all : Option (List Column)) →
    then_by (ok_or sep (codes "sep")) (λ s. then_by (ok_or header (codes "header")) (λ h.
    then_by (no_option idle) (λ _. then_by (ok_or all (codes "rescuedDataColumn")) (λ a.
    Ok (files_with dir format a rescued h s))))) ≡ Ok files → IsShaped all rescued files
shaped dir format rescued files None header idle all e = absurd (cc)
shaped dir format rescued files (Some s) None idle all e = absurd (cc)
shaped dir format rescued files (Some s) (Some h) (Some word) all e = absurd (cc)
shaped dir format rescued files (Some s) (Some h) None None e = absurd (cc)
shaped dir format rescued files (Some s) (Some h) None (Some a) e =
    let same : files_with dir format a rescued h s ≡ files = cc in
    (ap (λ f. Some f.shape.columns) same, ap (λ f. f.shape.rescued) (sym same))

abbrev rescued_set : List SqlOption → Option OptionValue
rescued_set options = set_to (codes "rescuedDataColumn") options

pub ended_shape : (dir : List ℕ) (format : Format) (columns : List Column) (options : List SqlOption) (files : FilesRead) →
    ended_by dir format (Some columns) options ≡ Ok files → IsShaped (with_rescued columns (rescued_set options)) (is_some (rescued_set options)) files
ended_shape dir format columns options files e =
    shaped dir format (is_some (rescued_set options)) files (separator_of options) (header_of options) (idle_word format options) (with_rescued columns (rescued_set options)) e

pub distinct_names : (dir : List ℕ) (format : Format) (schema : Option (List Column)) (options : List SqlOption) (files : FilesRead) → SchemaOf options schema →
    ended_by dir format schema options ≡ Ok files → HasDistinctNames files.shape.columns
distinct_names dir format None options files h e = absurd (cc)
distinct_names dir format (Some columns) options files h e =
    let sound = and_parts _ (are_distinct columns) (sound_schema columns (set_to (codes "schema") options) h) in
    pairs_distinct files.shape.columns (distinct_all columns files.shape.columns (rescued_set options) sound.1 (ended_shape dir format columns options files e).0)

pub rescued_last : (dir : List ℕ) (format : Format) (schema : Option (List Column)) (options : List SqlOption) (files : FilesRead) →
    ended_by dir format schema options ≡ Ok files → files.shape.rescued ≡ true → EndsInText files.shape.columns
rescued_last dir format None options files e some = absurd (cc)
rescued_last dir format (Some columns) options files e some =
    let is = ended_shape dir format columns options files e in
    text_last columns files.shape.columns (rescued_set options) is.0 (sym is.1 ∙ some)

ends_text : (options : List SqlOption) (begun : By (List ℕ × Format)) (files : FilesRead) → Ends options begun (Ok files) →
    files.shape.rescued ≡ true → EndsInText files.shape.columns
ends_text options (Err word) files f some = absurd (cc)
ends_text options (Ok begun) files f some = rescued_last begun.0 begun.1 f.0 options files (sym f.2) some

pub read_text : (path : List ℕ) (options : List SqlOption) (files : FilesRead) → FilesBy path options (Ok files) →
    files.shape.rescued ≡ true → EndsInText files.shape.columns
read_text path options files f some = ends_text options (begun_by path options) files f.by_rules some
