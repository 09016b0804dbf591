-- A plan in another order: what is sound and typed in one is so in the other.
use Rattle.std.proofs.Common.{◌≡◌, ℕ, zero, suc, List, [], ◌∷◌, ◌++◌, map, filter, get_or, Bool, true, false, not, cond, ◌||◌, ◌&&◌, if◌then◌else◌, IsTrue, All, AllPairs, Option, Some, None, refl, sym, ap, ◌∙◌, arith}
use Rattle.std.specs.Prelude.{nat_lt, option_and_then, unwrap_or}
use Rattle.std.specs.List.{AllByRecursion}
use Rattle.std.proofs.lemmas.List.Elements.{All-append, All-cons, All-head, All-nil, All-tail}
use Rattle.std.proofs.lemmas.List.Kept.{AllPairs-cons, AllPairs-filter}
use Rattle.value_core.specs.NameFold.{same_name}
use Rattle.value_core.specs.declared.schema.Column.{Column}
use Rattle.landing_core.specs.declared.landing.LandingFile.{LandingFile}
use Rattle.plan_core.specs.declared.flow.AppendFlow.{AppendFlow}
use Rattle.plan_core.specs.declared.flow.Origin.{Origin}
use Rattle.plan_core.specs.declared.flow.Origin.TheVariants as origin
use Rattle.plan_core.specs.declared.plan.Body.{Body}
use Rattle.plan_core.specs.declared.plan.Body.TheVariants as body
use Rattle.plan_core.specs.declared.plan.Dataset.{Dataset as Part}
use Rattle.plan_core.specs.Sound.{IsSoundBody, IsSoundFlow, IsSoundPlan, dataset_named, flow_columns, is_append, kinds_at, kinds_of, query_columns}
use Rattle.commit_payloads.specs.declared.definition.Definition.{Definition}
use Rattle.state_model.specs.Dataset.{State, definitions_of}
use Rattle.state_steps.specs.Parts.{AreTyped, definition_of, sequence_kinds}
use Rattle.state_steps.specs.Stands.{AllStand}
use Rattle.state_steps.specs.Steps.{AreOf}
use Rattle.update_plan.specs.Commits.{AreOfPlan, PartsKeepText}
use Rattle.update_plan.specs.Payloads.{is_new, is_stored}
use Rattle.update_plan.proofs.LookupLemmas.{found_all, name_itself, stored_alike}

-- ---- lists

pub map_all : {A : Type 0} (P Q : A → Type 0) (xs : List A) → ((x : A) → P x → Q x) → AllByRecursion P xs → AllByRecursion Q xs
map_all P Q [] f all = tt
map_all P Q (x ∷ xs) f all = (f x all.0, map_all P Q xs f all.1)

pub append_all : {A : Type 0} (P : A → Type 0) (xs ys : List A) → AllByRecursion P xs → AllByRecursion P ys → AllByRecursion P (xs ++ ys)
append_all P [] ys one two = two
append_all P (x ∷ xs) ys one two = (one.0, append_all P xs ys one.1 two)

filter_by : {A : Type 0} (P : A → Type 0) (x : A) (xs : List A) (test : Bool) → P x → AllByRecursion P xs → AllByRecursion P (cond test (x ∷ xs) xs)
filter_by P x xs true here rest = (here, rest)
filter_by P x xs false here rest = rest

pub filter_all : {A : Type 0} (P : A → Type 0) (p : A → Bool) (xs : List A) → AllByRecursion P xs → AllByRecursion P (filter p xs)
filter_all P p [] all = tt
filter_all P p (x ∷ xs) all = filter_by P x (filter p xs) (p x) all.0 (filter_all P p xs all.1)

pub from_all : {A : Type 0} (P : A → Type 0) (xs : List A) → All P xs → AllByRecursion P xs
from_all P [] all = tt
from_all P (x ∷ xs) all = (All-head P x xs all, from_all P xs (All-tail P x xs all))

pub to_all : {A : Type 0} (P : A → Type 0) (xs : List A) → AllByRecursion P xs → All P xs
to_all P [] all = All-nil P
to_all P (x ∷ xs) all = All-cons P x xs all.0 (to_all P xs all.1)

-- ---- where both have the same under each name

module _ (one other : List Part) (agree : (name : List ℕ) → dataset_named one name ≡ dataset_named other name) where
  columns_agree : (level : ℕ) (from : Origin) → flow_columns one level from ≡ flow_columns other level from
  columns_agree level (origin.Files dir shape) = refl
  columns_agree level (origin.Table name) = ap (λ (o : Option Part). option_and_then (λ (source : Part). if nat_lt source.level level && is_append source.body then Some source.columns else None) o) (agree name)

  query_agree : (level : ℕ) (name : List ℕ) → query_columns one level name ≡ query_columns other level name
  query_agree level name = ap (λ (o : Option Part). option_and_then (λ (source : Part). if nat_lt source.level level then Some source.columns else None) o) (agree name)

  flow_sound : (part : Part) (flow : AppendFlow) → IsSoundFlow other part flow → IsSoundFlow one part flow
  flow_sound part flow s = record { source = s.source; reads = columns_agree part.level flow.origin ∙ s.reads; gives = s.gives }

  pub body_sound : (part : Part) (b : Body) → IsSoundBody other part b → IsSoundBody one part b
  body_sound part (body.Append flows) s = record { each_flow = λ k d inside. flow_sound part (get_or flows k d) (s.each_flow k d inside); expectations = s.expectations }
  body_sound part (body.Cdc cdc) s = record {
    source = s.source;
    sequences = s.sequences;
    columns = s.columns;
    reads = columns_agree part.level cdc.origin ∙ s.reads;
    feed = s.feed;
    gives = s.gives;
    expectations = s.expectations;
  }
  body_sound part (body.View query) s = record { source = s.source; reads = query_agree part.level query.origin ∙ s.reads; gives = s.gives; expectations = s.expectations }

  sequence_agree : (part : Part) (b : Body) → sequence_kinds one part b ≡ sequence_kinds other part b
  sequence_agree part (body.Append flows) = refl
  sequence_agree part (body.Cdc cdc) = ap (λ (o : Option (List Column)). unwrap_or (option_and_then (λ columns. kinds_at (kinds_of columns) cdc.sequence) o) []) (columns_agree part.level cdc.origin)
  sequence_agree part (body.View query) = refl

  pub typed_new : (parts : List Part) → PartsKeepText parts → AreTyped one parts (map (definition_of other) parts)
  typed_new [] texts = tt
  typed_new (part ∷ parts) texts = (record { sequence = sym (sequence_agree part part.body); texts = texts.0 }, typed_new parts texts.1)

pub parts_of : (plan parts : List Part) → AreOf parts (map (definition_of plan) parts)
parts_of plan [] = tt
parts_of plan (part ∷ parts) = (record { name = refl; text = refl; body = refl; columns = refl; expectations = refl; flows = refl; keys = refl }, parts_of plan parts)

pub typed_append : (plan parts more : List Part) (list behind : List Definition) → AreTyped plan parts list → AreTyped plan more behind → AreTyped plan (parts ++ more) (list ++ behind)
typed_append plan [] more [] behind first second = second
typed_append plan [] more (d ∷ ds) behind first second = absurd first
typed_append plan (p ∷ ps) more [] behind first second = absurd first
typed_append plan (p ∷ ps) more (d ∷ ds) behind first second = (first.0, typed_append plan ps more ds behind first.1 second)

-- ---- where one has what the other has

columns_by : (o p : Option Part) (f : Part → Option (List Column)) (source : List Column) → ((x : Part) → o ≡ Some x → p ≡ Some x) → option_and_then f o ≡ Some source → option_and_then f p ≡ Some source
columns_by None p f source more e = cc
columns_by (Some x) p f source more e = ap (option_and_then f) (more x refl) ∙ e

module _ (old new : List Part) (more : (name : List ℕ) (x : Part) → dataset_named old name ≡ Some x → dataset_named new name ≡ Some x) where
  columns_more : (level : ℕ) (from : Origin) (source : List Column) → flow_columns old level from ≡ Some source → flow_columns new level from ≡ Some source
  columns_more level (origin.Files dir shape) source e = e
  columns_more level (origin.Table name) source e = columns_by (dataset_named old name) (dataset_named new name) (λ (from : Part). if nat_lt from.level level && is_append from.body then Some from.columns else None) source (more name) e

  sequence_more : (part : Part) (b : Body) → IsSoundBody old part b → sequence_kinds old part b ≡ sequence_kinds new part b
  sequence_more part (body.Append flows) s = refl
  sequence_more part (body.Cdc cdc) s =
      ap (λ (o : Option (List Column)). unwrap_or (option_and_then (λ columns. kinds_at (kinds_of columns) cdc.sequence) o) []) (s.reads ∙ sym (columns_more part.level cdc.origin s.source s.reads))
  sequence_more part (body.View query) s = refl

  pub typed_old : (parts : List Part) (list : List Definition) → AllByRecursion (λ part. IsSoundBody old part part.body) parts → AreTyped old parts list → AreTyped new parts list
  typed_old [] [] sound typed = tt
  typed_old [] (d ∷ ds) sound typed = absurd typed
  typed_old (p ∷ ps) [] sound typed = absurd typed
  typed_old (p ∷ ps) (d ∷ ds) sound typed = (record { sequence = typed.0.sequence ∙ sequence_more p p.body sound.0; texts = typed.0.texts }, typed_old ps ds sound.1 typed.1)

-- ---- names differ

-- the names of two datasets
abbrev pub Differ : Part → Part → Type 0
Differ a b = IsTrue (not (same_name a.name b.name))

differ_append : (xs ys : List Part) → AllPairs Differ xs → AllPairs Differ ys → AllByRecursion (λ x. All (Differ x) ys) xs → AllPairs Differ (xs ++ ys)
differ_append [] ys first second each = second
differ_append (x ∷ xs) ys first second each =
    let head : All (Differ x) xs = λ k d inside. first zero (suc k) d (omega arith) (omega (arith, inside)) in
    let tail : AllPairs Differ xs = λ i j d less inside. first (suc i) (suc j) d (omega (arith, less)) (omega (arith, inside)) in
    AllPairs-cons Differ x (xs ++ ys) (All-append (Differ x) xs ys head each.0) (differ_append xs ys tail second each.1)

module _ (stored : List Definition) (p : Part) (there : is_stored stored p.name ≡ true) where
  apart : (q : Part) (test : Bool) → is_new stored q ≡ true → same_name p.name q.name ≡ test → IsTrue (not test)
  apart q true is same = sym (ap not (sym (stored_alike stored p.name q.name same) ∙ there)) ∙ is
  apart q false is same = refl

  apart_by : (q : Part) (qs : List Part) (new : Bool) → is_new stored q ≡ new → All (Differ p) qs → All (Differ p) (cond new (q ∷ qs) qs)
  apart_by q qs true is rest = All-cons (Differ p) q qs (apart q (same_name p.name q.name) is refl) rest
  apart_by q qs false is rest = rest

  pub all_apart : (plan : List Part) → All (Differ p) (filter (is_new stored) plan)
  all_apart [] = All-nil (Differ p)
  all_apart (q ∷ qs) = apart_by q (filter (is_new stored) qs) (is_new stored q) refl (all_apart qs)

or_right : (a b : Bool) → b ≡ true → (a || b) ≡ true
or_right true b e = refl
or_right false b e = e

module _ (ever : List LandingFile) (whole : State) where
  pub all_stored : (parts : List Part) (state : State) → AllStand ever whole parts state → AllByRecursion (λ p. is_stored (definitions_of state) p.name ≡ true) parts
  all_stored [] [] all = tt
  all_stored [] (d ∷ ds) all = absurd all
  all_stored (p ∷ ps) [] all = absurd all
  all_stored (p ∷ ps) (d ∷ ds) all = (
    ap (λ (n : List ℕ). same_name n p.name || is_stored (definitions_of ds) p.name) all.0.is_of.name ∙ ap (λ b. b || is_stored (definitions_of ds) p.name) (name_itself p.name),
    map_all (λ (q : Part). is_stored (definitions_of ds) q.name ≡ true) (λ (q : Part). is_stored (definitions_of (d ∷ ds)) q.name ≡ true) ps (λ q. or_right (same_name d.definition.name q.name) (is_stored (definitions_of ds) q.name)) (all_stored ps ds all.1),
  )

-- ---- a store and what is new of a plan

module _ (plan parts : List Part) (stored : List Definition) (sound : IsSoundPlan plan) (was : IsSoundPlan parts) (are : AreOfPlan plan parts)
    (there : AllByRecursion (λ p. is_stored stored p.name ≡ true) parts) (same : (name : List ℕ) → dataset_named (parts ++ filter (is_new stored) plan) name ≡ dataset_named plan name) where
  abbrev pub together : List Part
  together = parts ++ filter (is_new stored) plan

  in_plan : AllByRecursion (λ part. IsSoundBody plan part part.body) plan
  in_plan = from_all (λ (part : Part). IsSoundBody plan part part.body) plan sound.each_dataset

  sound_here : AllByRecursion (λ part. IsSoundBody together part part.body) parts
  sound_here = map_all (λ (part : Part). dataset_named plan part.name ≡ Some part) (λ (part : Part). IsSoundBody together part part.body) parts
      (λ part is. body_sound together plan same part part.body (found_all (λ (p : Part). IsSoundBody plan p p.body) plan part.name part in_plan is).1) are

  sound_new : AllByRecursion (λ part. IsSoundBody together part part.body) (filter (is_new stored) plan)
  sound_new = filter_all (λ (part : Part). IsSoundBody together part part.body) (is_new stored) plan
      (map_all (λ (part : Part). IsSoundBody plan part part.body) (λ (part : Part). IsSoundBody together part part.body) plan (λ part. body_sound together plan same part part.body) in_plan)

  pub sound_together : IsSoundPlan together
  sound_together = record {
    names_differ = differ_append parts (filter (is_new stored) plan) was.names_differ (AllPairs-filter Differ (is_new stored) plan sound.names_differ)
        (map_all (λ (p : Part). is_stored stored p.name ≡ true) (λ (p : Part). All (Differ p) (filter (is_new stored) plan)) parts (λ p is. all_apart stored p is plan) there);
    each_dataset = to_all (λ (part : Part). IsSoundBody together part part.body) together (append_all (λ (part : Part). IsSoundBody together part part.body) parts (filter (is_new stored) plan) sound_here sound_new);
  }
