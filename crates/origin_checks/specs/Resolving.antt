-- What statements read, the options of `read_files` resolved.
use Rattle.std.specs.Prelude.{◌≡◌, ℕ, Bool, List, [], ◌∷◌, Option, Some, None, option_map, Ok, Err}
use Rattle.sql_tree.specs.declared.statement.Select.{Select}
use Rattle.sql_tree.specs.declared.statement.SqlOption.{SqlOption}
use Rattle.sql_tree.specs.declared.statement.SqlOrigin.{SqlOrigin}
use Rattle.sql_tree.specs.declared.statement.SqlOrigin.TheVariants as origin
use Rattle.sql_tree.specs.declared.statement.Statement.{Statement}
use Rattle.sql_tree.specs.declared.statement.Statement.TheVariants as statement
use Rattle.file_options.specs.declared.files.FilesRead.{FilesRead}
use Rattle.file_options.specs.Rules.{By, FilesBy}
use Rattle.origin_checks.specs.declared.resolved.Resolved.{Resolved}
use Rattle.origin_checks.specs.declared.resolved.Resolved.TheVariants.{Nothing, Bad, From}
use Rattle.origin_checks.specs.declared.resolved.Source.TheVariants.{Dataset, Files}

abbrev pub origin_of_select : Option Select → Option SqlOrigin
origin_of_select select = option_map (λ (s : Select). s.origin) select

-- what a statement reads, as it is written; a streaming table without AS reads nothing
abbrev pub written_origin : Statement → Option SqlOrigin
written_origin (statement.Table name items select) = origin_of_select select
written_origin (statement.View name items select) = Some select.origin
written_origin (statement.Insert flow target select) = Some select.origin
written_origin (statement.Cdc flow feed) = Some feed.origin

-- files as the rules of the options give them, or the word of the rule that is broken
abbrev pub files_resolved : Bool → By FilesRead → Resolved
files_resolved stream (Ok read) = From (Files stream read)
files_resolved stream (Err word) = Bad word

-- `read_files` by the rules of its options
pub record IsFilesResolved (stream : Bool) (path : List ℕ) (options : List SqlOption) (resolved : Resolved) : Type 0 where
  pub files : By FilesRead
  pub by_rules : FilesBy path options files
  pub is : resolved ≡ files_resolved stream files

-- a dataset by its name, or files
abbrev pub IsOriginResolved : SqlOrigin → Resolved → Type 0
IsOriginResolved (origin.Table stream name) resolved = resolved ≡ From (Dataset stream name)
IsOriginResolved (origin.Files stream path options) resolved = IsFilesResolved stream path options resolved

abbrev pub IsResolvedAs : Option SqlOrigin → Resolved → Type 0
IsResolvedAs None resolved = resolved ≡ Nothing
IsResolvedAs (Some written) resolved = IsOriginResolved written resolved

-- what a statement reads
abbrev pub IsResolved : Statement → Resolved → Type 0
IsResolved statement resolved = IsResolvedAs (written_origin statement) resolved

-- what each statement reads, in order
abbrev pub AreResolved : List Statement → List Resolved → Type 0
AreResolved [] all = all ≡ []
AreResolved (statement ∷ more) all = (first : Resolved) × (others : List Resolved) × (all ≡ first ∷ others) × IsResolved statement first × AreResolved more others
