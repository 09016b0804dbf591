-- The columns that a flow and a view read, where their checks are passed.
use Rattle.std.proofs.Common.{◌≡◌, ℕ, ◌<◌, Bool, true, false, List, [], ◌∷◌, Option, Some, None, inl, inr, refl, sym, subst, lt-ltb}
use Rattle.std.specs.Prelude.{cond, nat_lt, ◌&&◌, if◌then◌else◌, option_and_then}
use Rattle.value_core.specs.declared.schema.Column.{Column}
use Rattle.value_core.specs.NameFold.{same_name}
use Rattle.plan_core.specs.declared.plan.Dataset.{Dataset}
use Rattle.plan_core.specs.Sound.{dataset_named, flow_columns, is_append, query_columns}
use Rattle.statement_checks.specs.declared.fault.CheckFault.TheVariants.{StreamOfChanging}
use Rattle.statement_checks.specs.Repeats.{first_of}
use Rattle.origin_checks.specs.declared.resolved.Source.{Source}
use Rattle.origin_checks.specs.declared.resolved.Source.TheVariants as source
use Rattle.origin_checks.specs.Origins.{columns_found, columns_read, found_as, is_batch, is_stream, only_gains, origin_as, origin_batch_checks, origin_stream_checks}
use Rattle.dataset_checks.specs.Reading.{found_in}
use Rattle.plan_check.proofs.Visiting.{Among}
use Rattle.plan_laws.proofs.Binding.{neither, passes}

-- ---- what is found

some_same : (a b : Dataset) → Some a ≡ Some b → a ≡ b
some_same a b e = cc

-- what is found under a name is there, and has it
pub record IsFound (datasets : List Dataset) (name : List ℕ) (found : Dataset) : Type 0 where
  pub there : Among found datasets
  pub named : same_name found.name name ≡ true

found_by : (first : Dataset) (more : List Dataset) (name : List ℕ) (found : Dataset) (here : Bool) → same_name first.name name ≡ here → (dataset_named more name ≡ Some found → IsFound more name found) →
    cond here (Some first) (dataset_named more name) ≡ Some found → IsFound (first ∷ more) name found
found_by first more name found true here rest e = let same : first ≡ found = some_same first found e in
    record { there = inl (sym same); named = subst (λ (d : Dataset). same_name d.name name ≡ true) same here }
found_by first more name found false here rest e = let later = rest e in record { there = inr later.there; named = later.named }

pub found_there : (datasets : List Dataset) (name : List ℕ) (found : Dataset) → dataset_named datasets name ≡ Some found → IsFound datasets name found
found_there [] name found e = absurd (cc)
found_there (first ∷ more) name found e = found_by first more name found (same_name first.name name) refl (found_there more name found) e

-- ---- datasets of lesser levels

-- each dataset is of a lesser level
abbrev pub AreBelow : ℕ → List Dataset → Type 0
AreBelow level datasets = (dataset : Dataset) → Among dataset datasets → dataset.level < level

abbrev IsBelow : ℕ → Option Dataset → Type 0
IsBelow level None = Unit {0}
IsBelow level (Some found) = nat_lt found.level level ≡ true

below_by : (level : ℕ) (datasets : List Dataset) (name : List ℕ) (found : Option Dataset) → dataset_named datasets name ≡ found → AreBelow level datasets → IsBelow level found
below_by level datasets name None e below = tt
below_by level datasets name (Some found) e below = lt-ltb found.level level (below found (found_there datasets name found e).there)

found_below : (level : ℕ) (datasets : List Dataset) (name : List ℕ) → AreBelow level datasets → IsBelow level (dataset_named datasets name)
found_below level datasets name below = below_by level datasets name (dataset_named datasets name) refl below

-- ---- a flow

if_both : (lesser appends : Bool) (columns : List Column) → lesser ≡ true → appends ≡ true → (if lesser && appends then Some columns else None) ≡ Some columns
if_both true true columns a b = refl
if_both false appends columns a b = absurd (cc)
if_both true false columns a b = absurd (cc)

found_flow : (level : ℕ) (stream : Bool) (name : List ℕ) (found : Option Dataset) → first_of (origin_stream_checks (source.Dataset stream name) found) ≡ None → IsBelow level found →
    option_and_then (λ (s : Dataset). if nat_lt s.level level && is_append s.body then Some s.columns else None) found ≡ Some (columns_found found)
found_flow level stream name None is lesser = absurd (cc (neither (found_as name None) (first_of (only_gains None ∷ [])) (neither (is_stream (source.Dataset stream name)) (first_of (found_as name None ∷ only_gains None ∷ [])) is).1).0)
found_flow level stream name (Some found) is lesser =
    let more = (neither (is_stream (source.Dataset stream name)) (first_of (found_as name (Some found) ∷ only_gains (Some found) ∷ [])) is).1 in
    let gains = (neither (only_gains (Some found)) None (neither (found_as name (Some found)) (first_of (only_gains (Some found) ∷ [])) more).1).0 in
    if_both (nat_lt found.level level) (is_append found.body) found.columns lesser (passes (is_append found.body) None StreamOfChanging gains).0

pub flow_reads : (level : ℕ) (sofar : List Dataset) (reads : Source) → AreBelow level sofar → first_of (origin_stream_checks reads (found_in sofar reads)) ≡ None →
    flow_columns sofar level (origin_as reads) ≡ Some (columns_read reads (found_in sofar reads))
flow_reads level sofar (source.Files stream read) below is = refl
flow_reads level sofar (source.Dataset stream name) below is = found_flow level stream name (dataset_named sofar name) is (found_below level sofar name below)

-- ---- a view

if_lesser : (lesser : Bool) (columns : List Column) → lesser ≡ true → (if lesser then Some columns else None) ≡ Some columns
if_lesser true columns a = refl
if_lesser false columns a = absurd (cc)

found_view : (level : ℕ) (stream : Bool) (name : List ℕ) (found : Option Dataset) → first_of (origin_batch_checks (source.Dataset stream name) found) ≡ None → IsBelow level found →
    option_and_then (λ (s : Dataset). if nat_lt s.level level then Some s.columns else None) found ≡ Some (columns_found found)
found_view level stream name None is lesser = absurd (cc (neither (found_as name None) None (neither (is_batch (source.Dataset stream name)) (first_of (found_as name None ∷ [])) is).1).0)
found_view level stream name (Some found) is lesser = if_lesser (nat_lt found.level level) found.columns lesser

pub view_reads : (level : ℕ) (sofar : List Dataset) (stream : Bool) (name : List ℕ) → AreBelow level sofar → first_of (origin_batch_checks (source.Dataset stream name) (dataset_named sofar name)) ≡ None →
    query_columns sofar level name ≡ Some (columns_found (dataset_named sofar name))
view_reads level sofar stream name below is = found_view level stream name (dataset_named sofar name) is (found_below level sofar name below)
