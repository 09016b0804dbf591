-- A reset keeps a store standing.
use Rattle.std.proofs.Common.{◌≡◌, ℕ, List, [], ◌∷◌, ◌++◌, map, Bool, true, false, cond, if◌then◌else◌, Some, refl, sym, ap, ◌∙◌, subst, arith}
use Rattle.std.specs.Prelude.{bytes_eq}
use Rattle.std.specs.List.{list_any}
use Rattle.std.proofs.lemmas.Slice.Eq.{bytes_eq-Decides}
use Rattle.value_core.specs.declared.change.Change.{Change}
use Rattle.value_core.specs.Bags.{SameBag, changed, count_of, in_row_order, surplus}
use Rattle.value_core.specs.NameFold.{folded, same_name}
use Rattle.value_core.specs.Order.{Row}
use Rattle.value_core.proofs.BagLemmas.{count-in_row_order}
use Rattle.value_core.proofs.ChangeLemmas.{count-surplus}
use Rattle.landing_core.specs.declared.landing.LandingFile.{LandingFile}
use Rattle.plan_core.specs.declared.flow.Origin.{Origin}
use Rattle.plan_core.specs.declared.flow.Origin.TheVariants as origin
use Rattle.plan_core.specs.declared.plan.Dataset.{Dataset as Part}
use Rattle.state_model.specs.After.{emptied, emptied_if, first_cursor, is_member, no_tally, reset}
use Rattle.state_model.specs.Dataset.{Dataset, State, content, dataset_of, is_named}
use Rattle.state_steps.specs.Stands.{AllStand, DatasetStands, Stands}
use Rattle.state_steps.specs.Steps.{AreClosed, TakesAllAlong, is_named_in}
use Rattle.state_steps.specs.Parts.{streams_of}
use Rattle.state_steps.proofs.AllLemmas.{same_more, same_streamed}
use Rattle.state_steps.proofs.EmptyLemmas.{bare_stands, zero_counts}
use Rattle.state_steps.proofs.KeepLemmas.{AllGo, dataset_stays, origins_keep}
use Rattle.state_steps.proofs.Lookups.{Goes, some_same}
use Rattle.state_steps.proofs.VersionLemmas.{IsMore, IsStreamedOn, count-append, content_after-append}

-- ---- a dataset that is emptied

abbrev all_removed : List Row → Change
all_removed rows = record { removed = in_row_order rows; added = [] }

none_left : (rows : List Row) → SameBag (changed rows (all_removed rows)) []
none_left rows a =
    omega (arith, count-in_row_order a (surplus rows (in_row_order rows) ++ []), count-append a (surplus rows (in_row_order rows)) [], count-surplus a rows (in_row_order rows), count-in_row_order a rows)

emptied_none : (dataset : Dataset) → SameBag (content (emptied dataset)) []
emptied_none dataset a = ap (count_of a) (content_after-append dataset.table.rows dataset.table.changes (all_removed (content dataset) ∷ [])) ∙ none_left (content dataset) a

emptied_stands : (ever : List LandingFile) (was now : State) (part : Part) (dataset : Dataset) → DatasetStands ever was part dataset → DatasetStands ever now part (emptied dataset)
emptied_stands ever was now part dataset stood =
    bare_stands ever now part (emptied dataset) stood.is_of
    (record {
      cursors = ap (map first_cursor) stood.is_of.flows;
      none = emptied_none dataset;
      zero = ap (map no_tally) stood.is_of.expectations ∙ zero_counts part.expectations;
      no_events = refl;
    })

emptied_more : (dataset : Dataset) → IsMore dataset (emptied dataset)
emptied_more dataset = record { definition = refl; base = refl; rows = refl; more = all_removed (content dataset) ∷ []; changes = refl }

-- ---- names

name_is : (a b : List ℕ) → same_name a b ≡ true → folded a ≡ folded b
name_is a b e = (bytes_eq-Decides (folded a) (folded b)).0 e

-- a dataset that is found under a name is one of the members where the name is that of one
member_is : (names : List (List ℕ)) (a b : List ℕ) → same_name a b ≡ true → is_named_in names a ≡ is_named_in names b
member_is names a b e = ap (λ (f : List ℕ). list_any (λ n. bytes_eq f (folded n)) names) (name_is a b e)

module _ (names : List (List ℕ)) where
  found_by : (name : List ℕ) (d : Dataset) (here : Bool) (ds : State) (old : Dataset) → is_named name d ≡ here → cond here (Some d) (dataset_of ds name) ≡ Some old
      → (dataset_of ds name ≡ Some old → (is_named name old ≡ true) × (dataset_of (reset names ds) name ≡ Some (emptied_if names old)))
      → (is_named name old ≡ true) × (cond here (Some (emptied_if names d)) (dataset_of (reset names ds) name) ≡ Some (emptied_if names old))
  found_by name d true ds old is e behind = let one : d ≡ old = some_same d old e in (subst (λ w. is_named name w ≡ true) one is, ap (λ w. Some (emptied_if names w)) one)
  found_by name d false ds old is e behind = behind e

  same_definition : (d : Dataset) → (emptied_if names d).definition ≡ d.definition
  same_definition d = by (is_member names d)
    where
      by : (b : Bool) → (if b then emptied d else d).definition ≡ d.definition
      by true = refl
      by false = refl

  found_reset : (state : State) (name : List ℕ) (old : Dataset) → dataset_of state name ≡ Some old → (is_named name old ≡ true) × (dataset_of (reset names state) name ≡ Some (emptied_if names old))
  found_reset [] name old e = cc
  found_reset (d ∷ ds) name old e =
      let both = found_by name d (is_named name d) ds old refl e (found_reset ds name old) in
      (both.0, ap (λ k. cond (same_name k.name name) (Some (emptied_if names d)) (dataset_of (reset names ds) name)) (same_definition d) ∙ both.1)

  more_by : (old : Dataset) (b : Bool) → IsMore old (if b then emptied old else old)
  more_by old true = emptied_more old
  more_by old false = same_more old

  reset_goes : (state : State) (name : List ℕ) → Goes IsMore state (reset names state) name
  reset_goes state name old e = let both = found_reset state name old e in (emptied_if names old, both.1, more_by old (is_member names old))

  streamed_by : (old : Dataset) (b : Bool) → b ≡ false → IsStreamedOn old (if b then emptied old else old)
  streamed_by old true e = cc
  streamed_by old false e = same_streamed old

  -- a dataset that is no member stays
  stays_goes : (state : State) (name : List ℕ) → is_named_in names name ≡ false → Goes IsStreamedOn state (reset names state) name
  stays_goes state name none old e =
      let both = found_reset state name old e in
      let not_member : is_member names old ≡ false = member_is names old.definition.name name both.0 ∙ none in
      (emptied_if names old, both.1, streamed_by old (is_member names old) not_member)

  outside : (a b : Bool) → (a ≡ true → b ≡ true) → b ≡ false → a ≡ false
  outside true b f e = sym (f refl) ∙ e
  outside false b f e = refl

  streams_go : (state : State) (part : Part) (origins : List Origin) → is_named_in names part.name ≡ false → TakesAllAlong names part origins → AllGo state (reset names state) origins
  streams_go state part [] none along = tt
  streams_go state part (origin.Files dir shape ∷ origins) none along = streams_go state part origins none along.1
  streams_go state part (origin.Table source ∷ origins) none along =
      (stays_goes state source (outside (is_named_in names source) (is_named_in names part.name) along.0 none), streams_go state part origins none along.1)

  module _ (ever : List LandingFile) (state : State) where
    reset_by : (part : Part) (dataset : Dataset) (b : Bool) → (b ≡ false → is_named_in names part.name ≡ false) → TakesAllAlong names part (streams_of part.body) → DatasetStands ever state part dataset
        → DatasetStands ever (reset names state) part (if b then emptied dataset else dataset)
    reset_by part dataset true is along stood = emptied_stands ever state (reset names state) part dataset stood
    reset_by part dataset false is along stood =
        dataset_stays ever ever state (reset names state) part dataset
        (origins_keep ever state (reset names state) (streams_of part.body) (streams_go state part (streams_of part.body) (is refl) along)) (reset_goes state) stood

    all_reset : (parts : List Part) (datasets : State) → AreClosed names parts → AllStand ever state parts datasets → AllStand ever (reset names state) parts (reset names datasets)
    all_reset [] [] closed all = tt
    all_reset [] (d ∷ ds) closed all = absurd all
    all_reset (p ∷ ps) [] closed all = absurd all
    all_reset (p ∷ ps) (d ∷ ds) closed all =
        (reset_by p d (is_member names d) (λ e. ap (λ (k : List ℕ). is_named_in names k) (sym all.0.is_of.name) ∙ e) closed.0 all.0, all_reset ps ds closed.1 all.1)

pub reset_stands : (parts : List Part) (ever : List LandingFile) (state : State) (names : List (List ℕ)) → Stands parts ever state → AreClosed names parts → Stands parts ever (reset names state)
reset_stands parts ever state names stands closed = record { sound = stands.sound; each = all_reset names ever state parts state closed stands.each }
