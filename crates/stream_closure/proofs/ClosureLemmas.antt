-- The names of a closure are the least closed ones.
use Rattle.std.proofs.Common.{◌≡◌, ℕ, zero, suc, List, [], ◌∷◌, Bool, true, false, ◌||◌, Contains, slice_get, Option, Some, None, option_map, refl, sym, ap, ◌∙◌, subst}
use Rattle.std.specs.List.{list_any}
use Rattle.std.specs.Option.{option_map_or}
use Rattle.std.specs.List.Sorted.{IsStrictlyIncreasing}
use Rattle.value_core.specs.NameFold.{same_name}
use Rattle.graph_check.specs.Graphs.{IsInClosure, Reads, Walk}
use Rattle.landing_core.specs.declared.landing.LandingFile.{LandingFile}
use Rattle.plan_core.specs.declared.flow.Origin.{Origin}
use Rattle.plan_core.specs.declared.flow.Origin.TheVariants as origin
use Rattle.plan_core.specs.declared.plan.Dataset.{Dataset as Part}
use Rattle.commit_payloads.specs.declared.payload.Payload.TheVariants as payload
use Rattle.state_model.specs.Dataset.{State}
use Rattle.state_steps.specs.Parts.{streams_of}
use Rattle.state_steps.specs.Stands.{Stands}
use Rattle.state_steps.specs.Steps.{AreClosed, Commits, TakesAllAlong, is_named_in}
use Rattle.stream_closure.specs.Streams.{AreStreams, IsClosureOf, holds_names, names_at, reads_name, streams_from}
use Rattle.stream_closure.proofs.NameLemmas.{all_names, at_place, each_name, fits_reset, found_at, name_itself, named_alike, named_at, or_right}

-- ---- closed

of_reader : (edges : List (ℕ × ℕ)) (set : List ℕ) (reader source : ℕ) → Reads edges reader source → IsInClosure edges set source → IsInClosure edges set reader
of_reader edges set reader source reads is = (is.0, is.1, (suc is.2.0, (source, reads, is.2.1)))

module _ (plan : List Part) (edges : List (ℕ × ℕ)) (set places : List ℕ) (are : AreStreams plan edges) (closure : IsClosureOf edges set places) where
  taken_along : (place : ℕ) (part : Part) (source : List ℕ) → slice_get plan place ≡ Some part → ((name : List ℕ) → same_name source name ≡ true → streams_from name part.body ≡ true)
      → is_named_in (names_at plan places) source ≡ true → is_named_in (names_at plan places) part.name ≡ true
  taken_along place part source is streams named =
      let f = found_at plan places source named in
      let reads : Reads edges place f.place = (are place f.place).1 (record { table = part; table_is = is; from = f.part; from_is = f.part_is; streams = streams f.part.name f.same }) in
      let there : Contains places place = (closure place).1 (of_reader edges set place f.place reads ((closure f.place).0 f.there)) in
      named_at plan places place part part.name there is (name_itself part.name)

  all_along : (place : ℕ) (part : Part) (origins : List Origin) → slice_get plan place ≡ Some part → ((name : List ℕ) → list_any (reads_name name) origins ≡ true → streams_from name part.body ≡ true) → TakesAllAlong (names_at plan places) part origins
  all_along place part [] is streams = tt
  all_along place part (origin.Files dir shape ∷ origins) is streams = (tt, all_along place part origins is streams)
  all_along place part (origin.Table source ∷ origins) is streams = (
    taken_along place part source is (λ name same. streams name (ap (λ b. b || list_any (reads_name name) origins) same)),
    all_along place part origins is (λ name later. streams name (or_right (same_name source name) (list_any (reads_name name) origins) later)),
  )

  closed_from : (parts : List Part) → ((k : ℕ) (part : Part) → slice_get parts k ≡ Some part → (place : ℕ) × (slice_get plan place ≡ Some part)) → AreClosed (names_at plan places) parts
  closed_from [] each = tt
  closed_from (part ∷ parts) each =
      let here = each zero part refl in
      (all_along here.0 part (streams_of part.body) here.1 (λ name e. e), closed_from parts (λ k. each (suc k)))

  pub closure_closed : AreClosed (names_at plan places) plan
  closure_closed = closed_from plan (λ k part is. (k, is))

-- ---- the set

held_by : (plan : List Part) (places : List ℕ) (place : ℕ) (o : Option Part) → slice_get plan place ≡ o → Contains places place → option_map_or (is_named_in (names_at plan places)) (option_map (λ p. p.name) o) true ≡ true
held_by plan places place None is there = refl
held_by plan places place (Some part) is there = named_at plan places place part part.name there is (name_itself part.name)

pub closure_holds : (plan : List Part) (edges : List (ℕ × ℕ)) (set places : List ℕ) → IsClosureOf edges set places → holds_names (names_at plan places) (names_at plan set) ≡ true
closure_holds plan edges set places closure =
    all_names plan (is_named_in (names_at plan places)) set (λ place there. held_by plan places place (slice_get plan place) refl ((closure place).1 (place, there, (zero, refl))))

-- ---- the least

module _ (names : List (List ℕ)) where
  along_by : (part : Part) (name source : List ℕ) (test later : Bool) → same_name source name ≡ test → (is_named_in names source ≡ true → is_named_in names part.name ≡ true) → (later ≡ true → is_named_in names part.name ≡ true) → (test || later) ≡ true → is_named_in names name ≡ true → is_named_in names part.name ≡ true
  along_by part name source true later same here behind e named = here (named_alike names source name same ∙ named)
  along_by part name source false later same here behind e named = behind e

  along : (part : Part) (name : List ℕ) (origins : List Origin) → TakesAllAlong names part origins → list_any (reads_name name) origins ≡ true → is_named_in names name ≡ true → is_named_in names part.name ≡ true
  along part name [] takes e named = cc
  along part name (origin.Files dir shape ∷ origins) takes e named = along part name origins takes.1 e named
  along part name (origin.Table source ∷ origins) takes e named =
      along_by part name source (same_name source name) (list_any (reads_name name) origins) refl takes.0 (λ later. along part name origins takes.1 later named) e named

  closed_at : (parts : List Part) (k : ℕ) (part : Part) → AreClosed names parts → slice_get parts k ≡ Some part → TakesAllAlong names part (streams_of part.body)
  closed_at [] k part closed is = cc
  closed_at (p ∷ ps) zero part closed is = let one : p ≡ part = ap (λ o. option_map_or (λ q. q) o p) is in subst (λ (q : Part). TakesAllAlong names q (streams_of q.body)) one closed.0
  closed_at (p ∷ ps) (suc k) part closed is = closed_at ps k part closed.1 is

  named_by : (plan : List Part) (place : ℕ) (part : Part) → slice_get plan place ≡ Some part → at_place plan (is_named_in names) place ≡ is_named_in names part.name
  named_by plan place part is = ap (λ o. option_map_or (is_named_in names) (option_map (λ p. p.name) o) true) is

  module _ (plan : List Part) (edges : List (ℕ × ℕ)) (are : AreStreams plan edges) (closed : AreClosed names plan) where
    reader_named : (reader source : ℕ) → Reads edges reader source → at_place plan (is_named_in names) source ≡ true → at_place plan (is_named_in names) reader ≡ true
    reader_named reader source reads named =
        let s = (are reader source).0 reads in
        named_by plan reader s.table s.table_is
        ∙ along s.table s.from.name (streams_of s.table.body) (closed_at plan reader s.table closed s.table_is) s.streams (sym (named_by plan source s.from s.from_is) ∙ named)

    walked : (steps from to : ℕ) → Walk edges from steps to → at_place plan (is_named_in names) to ≡ true → at_place plan (is_named_in names) from ≡ true
    walked zero from to walk named = ap (at_place plan (is_named_in names)) walk ∙ named
    walked (suc steps) from to walk named = reader_named from walk.0 walk.1 (walked steps walk.0 to walk.2 named)

    pub closure_least : (set places : List ℕ) → IsClosureOf edges set places → holds_names names (names_at plan set) ≡ true → holds_names names (names_at plan places) ≡ true
    closure_least set places closure held =
        all_names plan (is_named_in names) places (λ place there.
        let in_closure = (closure place).0 there in
        walked in_closure.2.0 place in_closure.0 in_closure.2.1 (each_name plan (is_named_in names) set held in_closure.0 in_closure.1))

-- ---- a reset

pub closure_resets : (parts : List Part) (ever : List LandingFile) (state : State) (edges : List (ℕ × ℕ)) (set places : List ℕ) → Stands parts ever state → AreStreams parts edges → IsClosureOf edges set places → IsStrictlyIncreasing places
    → Commits parts ever state (payload.Reset (names_at parts places)) parts
closure_resets parts ever state edges set places stands are closure up =
    (refl, record { closed = closure_closed parts edges set places are closure; are_set = fits_reset parts ever state places stands up })
