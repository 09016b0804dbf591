-- What statements read is resolved in one way.
use Rattle.std.proofs.Common.{◌≡◌, ℕ, zero, suc, Bool, List, [], ◌∷◌, Option, Some, None, Ok, Err, refl, sym, ap, subst, ◌∙◌}
use Rattle.std.specs.Prelude.{option_and_then, slice_get}
use Rattle.sql_tree.specs.declared.statement.SqlOption.{SqlOption}
use Rattle.sql_tree.specs.declared.statement.SqlOrigin.{SqlOrigin}
use Rattle.sql_tree.specs.declared.statement.SqlOrigin.TheVariants as origin
use Rattle.sql_tree.specs.declared.statement.Statement.{Statement}
use Rattle.sql_tree.specs.declared.statement.Statement.TheVariants as statement
use Rattle.file_options.specs.declared.files.FilesRead.{FilesRead}
use Rattle.file_options.specs.Rules.{By, FilesBy}
use Rattle.name_checks.specs.Sources.{origin_name, source_name}
use Rattle.origin_checks.specs.declared.resolved.Resolved.{Resolved}
use Rattle.origin_checks.specs.declared.resolved.Resolved.TheVariants.{Nothing, From}
use Rattle.origin_checks.specs.declared.resolved.Source.TheVariants as source
use Rattle.origin_checks.specs.Resolving.{AreResolved, IsOriginResolved, IsResolved, IsResolvedAs, files_resolved, written_origin}
use Rattle.plan_texts.proofs.Lists.{in_some, no_some}

-- ---- one answer

-- the rules of `read_files` give one answer
abbrev pub HasOneAnswer : Type 0
HasOneAnswer = (path : List ℕ) (options : List SqlOption) (one other : By FilesRead) → FilesBy path options one → FilesBy path options other → one ≡ other

one_origin : HasOneAnswer → (written : SqlOrigin) (a b : Resolved) → IsOriginResolved written a → IsOriginResolved written b → a ≡ b
one_origin law (origin.Table stream name) a b p q = p ∙ sym q
one_origin law (origin.Files stream path options) a b p q = p.is ∙ ap (files_resolved stream) (law path options p.files q.files p.by_rules q.by_rules) ∙ sym q.is

one_written : HasOneAnswer → (written : Option SqlOrigin) (a b : Resolved) → IsResolvedAs written a → IsResolvedAs written b → a ≡ b
one_written law None a b p q = p ∙ sym q
one_written law (Some written) a b p q = one_origin law written a b p q

pub one_resolved : HasOneAnswer → (one : Statement) (a b : Resolved) → IsResolved one a → IsResolved one b → a ≡ b
one_resolved law one a b p q = one_written law (written_origin one) a b p q

-- ---- by the place

-- what the statement at a place reads
pub record IsResolvedAt (resolved : List Resolved) (place : ℕ) (statement : Statement) : Type 0 where
  pub found : Resolved
  pub is_there : slice_get resolved place ≡ Some found
  pub is_resolved : IsResolved statement found

pub resolved_at : (statements : List Statement) (resolved : List Resolved) (place : ℕ) (statement : Statement) → AreResolved statements resolved → slice_get statements place ≡ Some statement → IsResolvedAt resolved place statement
resolved_at [] resolved place statement are e = absurd (no_some e)
resolved_at (first ∷ more) resolved zero statement are e =
    record { found = are.0; is_there = ap (λ (all : List Resolved). slice_get all zero) are.2; is_resolved = subst (λ (s : Statement). IsResolved s are.0) (in_some e) are.3 }
resolved_at (first ∷ more) resolved (suc place) statement are e =
    let r = resolved_at more are.1 place statement are.4 e in
    record { found = r.found; is_there = ap (λ (all : List Resolved). slice_get all (suc place)) are.2 ∙ r.is_there; is_resolved = r.is_resolved }

-- ---- datasets that are read

source_written : (one : Statement) → source_name one ≡ option_and_then origin_name (written_origin one)
source_written (statement.Table name items None) = refl
source_written (statement.Table name items (Some select)) = refl
source_written (statement.View name items select) = refl
source_written (statement.Insert flow target select) = refl
source_written (statement.Cdc flow feed) = refl

-- a dataset of this name
abbrev pub from_dataset : Bool → List ℕ → Resolved
from_dataset stream name = From (source.Dataset stream name)

origin_resolved : (written : SqlOrigin) (name : List ℕ) (a : Resolved) → origin_name written ≡ Some name → IsOriginResolved written a → (stream : Bool) × (a ≡ from_dataset stream name)
origin_resolved (origin.Table stream table) name a e p = (stream, p ∙ ap (from_dataset stream) (in_some e))
origin_resolved (origin.Files stream path options) name a e p = absurd (no_some e)

written_resolved : (written : Option SqlOrigin) (name : List ℕ) (a : Resolved) → option_and_then origin_name written ≡ Some name → IsResolvedAs written a → (stream : Bool) × (a ≡ from_dataset stream name)
written_resolved None name a e p = absurd (no_some e)
written_resolved (Some written) name a e p = origin_resolved written name a e p

-- a statement that reads a dataset is resolved to it
pub source_resolved : (one : Statement) (name : List ℕ) (a : Resolved) → source_name one ≡ Some name → IsResolved one a → (stream : Bool) × (a ≡ from_dataset stream name)
source_resolved one name a e p = written_resolved (written_origin one) name a (sym (source_written one) ∙ e) p

from_is : (stream other : Bool) (table name : List ℕ) → from_dataset other name ≡ from_dataset stream table → table ≡ name
from_is stream other table name e = cc

files_no_dataset : (stream other : Bool) (files : By FilesRead) (name : List ℕ) → from_dataset other name ≡ files_resolved stream files → ⊥
files_no_dataset stream other (Ok read) name e = cc
files_no_dataset stream other (Err word) name e = cc

origin_read : (written : SqlOrigin) (stream : Bool) (name : List ℕ) → IsOriginResolved written (from_dataset stream name) → origin_name written ≡ Some name
origin_read (origin.Table other table) stream name p = ap Some (from_is other stream table name p)
origin_read (origin.Files other path options) stream name p = absurd (files_no_dataset other stream p.files name p.is)

written_read : (written : Option SqlOrigin) (stream : Bool) (name : List ℕ) → IsResolvedAs written (from_dataset stream name) → option_and_then origin_name written ≡ Some name
written_read None stream name p = absurd (nothing p)
  where
    nothing : from_dataset stream name ≡ Nothing → ⊥
    nothing e = cc
written_read (Some written) stream name p = origin_read written stream name p

-- a statement that is resolved to a dataset reads it
pub resolved_source : (one : Statement) (stream : Bool) (name : List ℕ) → IsResolved one (from_dataset stream name) → source_name one ≡ Some name
resolved_source one stream name p = source_written one ∙ written_read (written_origin one) stream name p
