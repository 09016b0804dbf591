-- Datasets of one text, and of what they read with one text each, are one.
use Rattle.std.proofs.Common.{◌≡◌, inl, inr, ℕ, zero, suc, ◌+◌, ◌<◌, ◌≤◌, Bool, List, [], ◌∷◌, Option, Some, None, Ok, refl, sym, ap, subst, ◌∙◌, arith}
use Rattle.std.specs.Prelude.{◌&&◌, IsSomeAnd, if◌then◌else◌, nat_lt, option_and_then, slice_get}
use Rattle.std.specs.List.{AllByRecursion}
use Rattle.std.proofs.lemmas.List.Elements.{All-contains}
use Rattle.value_core.specs.declared.schema.Column.{Column}
use Rattle.sql_tree.specs.declared.statement.Statement.{Statement}
use Rattle.sql_print.specs.Placed.{statements_at}
use Rattle.pipeline_sql.specs.Read.{print_text}
use Rattle.plan_core.specs.declared.flow.Origin.{Origin}
use Rattle.plan_core.specs.declared.flow.Origin.TheVariants as plan
use Rattle.plan_core.specs.declared.plan.Body.{Body}
use Rattle.plan_core.specs.declared.plan.Body.TheVariants as body
use Rattle.plan_core.specs.declared.plan.Dataset.{Dataset}
use Rattle.plan_core.specs.Sound.{IsSoundBody, IsSoundFlow, IsSoundPlan, dataset_named, flow_columns, is_append, query_columns}
use Rattle.statement_checks.specs.Declares.{dataset_name}
use Rattle.name_checks.specs.Names.{first_name_break}
use Rattle.name_checks.specs.Sources.{source_name}
use Rattle.origin_checks.specs.declared.resolved.Resolved.{Resolved}
use Rattle.origin_checks.specs.declared.resolved.Resolved.TheVariants.{From}
use Rattle.origin_checks.specs.declared.resolved.Source.{Source}
use Rattle.origin_checks.specs.declared.resolved.Source.TheVariants as source
use Rattle.origin_checks.specs.Resolving.{IsResolved}
use Rattle.dataset_checks.specs.Datasets.{dataset_judged}
use Rattle.dataset_checks.specs.Filling.{dataset_places, fillers_from}
use Rattle.dataset_checks.specs.Reading.{found_in}
use Rattle.plan_check.specs.Walks.{name_at, text_at, text_named}
use Rattle.plan_texts.specs.Judged.{AreJudged, IsJudged, IsLevelAbove, IsSource, statements_of}
use Rattle.plan_texts.specs.Texts.{AreOfPlan, HaveTexts}
use Rattle.plan_texts.proofs.Alike.{AllAlike, AreAlike, judged_alike}
use Rattle.plan_texts.proofs.Found.{read_found}
use Rattle.plan_texts.proofs.Lists.{Among, among_at, among_contains, among_found, at_among, found_among, in_some, no_some}
use Rattle.plan_texts.proofs.Names.{found, named_alike, of_found}
use Rattle.plan_texts.proofs.Pairs.{Each, fillers_there, first_same, paired}
use Rattle.plan_texts.proofs.Resolving.{HasOneAnswer, one_resolved, resolved_at, resolved_source}
use Rattle.plan_texts.proofs.Results.{in_ok}
use Rattle.plan_texts.proofs.Sourced.{ReadsName}

-- ---- what the bodies of a sound plan read is in the plan

found_if : (o : Option Dataset) (f : Dataset → Option (List Column)) (columns : List Column) → option_and_then f o ≡ Some columns → (dataset : Dataset) × (o ≡ Some dataset)
found_if None f columns e = absurd (no_some e)
found_if (Some dataset) f columns e = (dataset, refl)

-- the plan has a dataset of this name
abbrev IsNamed : List Dataset → List ℕ → Type 0
IsNamed parts name = (dataset : Dataset) × (dataset_named parts name ≡ Some dataset)

flow_named : (parts : List Dataset) (level : ℕ) (name : List ℕ) (columns : List Column) → flow_columns parts level (plan.Table name) ≡ Some columns → IsNamed parts name
flow_named parts level name columns e = found_if (dataset_named parts name) (λ read. if nat_lt read.level level && is_append read.body then Some read.columns else None) columns e

origin_named : (parts : List Dataset) (level : ℕ) (origin : Origin) (name : List ℕ) (columns : List Column) → origin ≡ plan.Table name → flow_columns parts level origin ≡ Some columns → IsNamed parts name
origin_named parts level origin name columns is e = flow_named parts level name columns (ap (flow_columns parts level) (sym is) ∙ e)

query_named : (parts : List Dataset) (level : ℕ) (name : List ℕ) (columns : List Column) → query_columns parts level name ≡ Some columns → IsNamed parts name
query_named parts level name columns e = found_if (dataset_named parts name) (λ read. if nat_lt read.level level then Some read.columns else None) columns e

body_named : (parts : List Dataset) (part : Dataset) (given : Body) (name : List ℕ) → IsSoundBody parts part given → ReadsName name given → IsNamed parts name
body_named parts part (body.Append flows) name sound (flow, m, is) =
    let one = All-contains (IsSoundFlow parts part) flows flow sound.each_flow (among_contains flows flow m) in
    origin_named parts part.level flow.origin name one.source is one.reads
body_named parts part (body.Cdc cdc) name sound is = origin_named parts part.level cdc.origin name sound.source is sound.reads
body_named parts part (body.View query) name sound is = query_named parts part.level name sound.source (ap (query_columns parts part.level) (sym is) ∙ sound.reads)

part_named : (parts : List Dataset) (part : Dataset) (name : List ℕ) → IsSoundPlan parts → Among part parts → ReadsName name part.body → IsNamed parts name
part_named parts part name sound m reads = body_named parts part part.body name (All-contains (λ (d : Dataset). IsSoundBody parts d d.body) parts part sound.each_dataset (among_contains parts part m)) reads

-- ---- levels

-- the sources of some statements are the same in two plans
abbrev HasSources : List Dataset → List Dataset → List Statement → Type 0
HasSources one other readers = (dataset : Dataset) → IsSource one readers dataset → IsSource other readers dataset

no_more : (one other : List Dataset) (readers : List Statement) (a b : ℕ) → IsLevelAbove one readers a → IsLevelAbove other readers b → HasSources one other readers → a ≤ b
no_more one other readers a b p q same = elim p.least [
  | inl none ↦ omega (arith, none)
  | inr above ↦ (let less : above.0.level < b = q.above above.0 (same above.0 above.1) in let is : a ≡ above.0.level + 1 = above.2 in omega (arith, less, is))
]

same_level : (one other : List Dataset) (readers : List Statement) (a b : ℕ) → IsLevelAbove one readers a → IsLevelAbove other readers b → HasSources one other readers → HasSources other one readers → a ≡ b
same_level one other readers a b p q there back =
    let up : a ≤ b = no_more one other readers a b p q there in
    let down : b ≤ a = no_more other one readers b a q p back in
    omega (arith, up, down)

-- ---- texts

text_is : (statements : List Statement) (place : ℕ) (name : List ℕ) → name_at statements place ≡ Some name → text_at statements place ≡ print_text (statements_of statements place name)
text_is statements place name e = ap (text_named statements place) e

-- where a dataset is declared, its statement is there
declared_there : (statements : List Statement) (place : ℕ) (name : List ℕ) (o : Option Statement) → slice_get statements place ≡ o → option_and_then dataset_name o ≡ Some name → (one : Statement) × (slice_get statements place ≡ Some one) × (dataset_name one ≡ Some name)
declared_there statements place name None is e = absurd (no_some e)
declared_there statements place name (Some one) is e = (one, is, e)

some_and : (o : Option Dataset) (P : Dataset → Type 0) → IsSomeAnd o P → (dataset : Dataset) × (o ≡ Some dataset) × P dataset
some_and None P h = absurd h
some_and (Some dataset) P h = (dataset, refl, h)

all_among : (P : Dataset → Type 0) (parts : List Dataset) (part : Dataset) → AllByRecursion P parts → Among part parts → P part
all_among P [] part all m = absurd m
all_among P (first ∷ more) part all (inl e) = subst P (sym e) all.0
all_among P (first ∷ more) part all (inr m) = all_among P more part all.1 m

each_among : (P : Dataset → Type 0) (parts : List Dataset) → ((part : Dataset) → Among part parts → P part) → AllByRecursion P parts
each_among P [] each = tt
each_among P (first ∷ more) each = (each first (inl refl), each_among P more (λ part m. each part (inr m)))

-- ---- two pipelines

-- no two lists of statements of two readings have one print
abbrev pub ArePartsApart : List Statement → List Statement → Type 0
ArePartsApart first second = (some others : List ℕ) → print_text (statements_at first some) ≡ print_text (statements_at second others) → statements_at first some ≡ statements_at second others

module _ (first second : List Statement) (old new parts : List Dataset) (answer : HasOneAnswer) (apart : ArePartsApart first second)
    (one : AreJudged first old) (two : AreJudged second new) (none : first_name_break first ≡ None) (free : first_name_break second ≡ None)
    (sound : IsSoundPlan parts) (stored : AreOfPlan old parts) (texts : HaveTexts new parts) where
  -- a dataset is in the other plan as it is here
  abbrev IsThere : Dataset → Type 0
  IsThere part = dataset_named new part.name ≡ Some part

  -- of a part and of the dataset of its name and its text
  module _ (part other : Dataset) (m : Among part parts) (is_old : dataset_named old part.name ≡ Some part) (is_new : dataset_named new part.name ≡ Some other) (same : part.text ≡ other.text)
      (here : IsJudged first one.resolved old part) (there : IsJudged second two.resolved new other) (lesser : (dataset : Dataset) → Among dataset parts → dataset.level < part.level → IsThere dataset) where
    abbrev Own : List Statement
    Own = statements_of first here.place part.name

    abbrev Other : List Statement
    Other = statements_of second there.place other.name

    own_is : Own ≡ Other
    own_is = apart (dataset_places first here.place part.name) (dataset_places second there.place other.name)
        (sym (text_is first here.place part.name here.named) ∙ sym here.text_is ∙ same ∙ there.text_is ∙ text_is second there.place other.name there.named)

    -- ---- what is read

    -- a dataset that one of the statements reads is one of both plans, and of the parts
    record IsShared (read : List ℕ) : Type 0 where
      dataset : Dataset
      found_here : dataset_named here.sofar read ≡ Some dataset
      in_old : dataset_named old read ≡ Some dataset
      is_part : Among dataset parts

    in_parts : (read : List ℕ) (dataset : Dataset) → dataset_named old read ≡ Some dataset → IsNamed parts read → Among dataset parts
    in_parts read dataset e named =
        let f = found parts read named.0 named.1 in
        let kept = of_found (λ (d : Dataset). dataset_named old d.name ≡ Some d) parts f.index named.0 stored f.is_there in
        let same_one : named.0 ≡ dataset = in_some (sym kept ∙ named_alike old named.0.name read f.same ∙ e) in
        subst (λ (d : Dataset). Among d parts) same_one (among_at parts f.index named.0 f.is_there)

    shared : (place : ℕ) (reader : Statement) (read : List ℕ) → Among place (dataset_places first here.place part.name) → slice_get first place ≡ Some reader → source_name reader ≡ Some read → IsShared read
    shared place reader read at is reads =
        let r = read_found first one.resolved here.sofar one.are_resolved none here.place part.level part.text part here.judged here.named place reader read at is reads in
        let in_old : dataset_named old read ≡ Some r.0.0 = here.of_plan read r.0.0 r.0.1 in
        record { dataset = r.0.0; found_here = r.0.1; in_old = in_old; is_part = in_parts read r.0.0 in_old (part_named parts part read sound m r.1) }

    in_new : (index : ℕ) (reader : Statement) (read : List ℕ) (dataset : Dataset) → slice_get Own index ≡ Some reader → source_name reader ≡ Some read → dataset_named old read ≡ Some dataset → Among dataset parts → dataset_named new read ≡ Some dataset
    in_new index reader read dataset at reads e is_part =
        let less : dataset.level < part.level = here.level_is.above dataset (record { index = index; reader = reader; is_there = at; name = read; reads = reads; found = e }) in
        sym (named_alike new dataset.name read (found old read dataset e).same) ∙ lesser dataset is_part less

    -- by the place of the reader
    record IsBoth (read : List ℕ) : Type 0 where
      dataset : Dataset
      found_here : dataset_named here.sofar read ≡ Some dataset
      in_old : dataset_named old read ≡ Some dataset
      in_new : dataset_named new read ≡ Some dataset

    both : (place : ℕ) (reader : Statement) (read : List ℕ) → Among place (dataset_places first here.place part.name) → slice_get first place ≡ Some reader → source_name reader ≡ Some read → IsBoth read
    both place reader read at is reads =
        let s = shared place reader read at is reads in
        let k = at_among Own reader (found_among (slice_get first) (dataset_places first here.place part.name) place reader at is) in
        record { dataset = s.dataset; found_here = s.found_here; in_old = s.in_old; in_new = in_new k.0 reader read s.dataset k.1 reads s.in_old s.is_part }

    both_at : (index : ℕ) (reader : Statement) (read : List ℕ) → slice_get Own index ≡ Some reader → source_name reader ≡ Some read → IsBoth read
    both_at index reader read at reads =
        let p = among_found (slice_get first) (dataset_places first here.place part.name) reader (among_at Own index reader at) in
        both p.0 reader read p.1 p.2 reads

    -- ---- the level

    to_new : HasSources old new Own
    to_new dataset s =
        let b = both_at s.index s.reader s.name s.is_there s.reads in
        let same_one : b.dataset ≡ dataset = in_some (sym b.in_old ∙ s.found) in
        record { index = s.index; reader = s.reader; is_there = s.is_there; name = s.name; reads = s.reads; found = b.in_new ∙ ap Some same_one }

    to_old : HasSources new old Own
    to_old dataset s =
        let b = both_at s.index s.reader s.name s.is_there s.reads in
        let same_one : b.dataset ≡ dataset = in_some (sym b.in_new ∙ s.found) in
        record { index = s.index; reader = s.reader; is_there = s.is_there; name = s.name; reads = s.reads; found = b.in_old ∙ ap Some same_one }

    level_is : part.level ≡ other.level
    level_is = same_level old new Own part.level other.level here.level_is (subst (λ (readers : List Statement). IsLevelAbove new readers other.level) (sym own_is) there.level_is) to_new to_old

    -- ---- place by place

    finds_alike : (place also : ℕ) (reader : Statement) (stream : Bool) (read : List ℕ) → Among place (dataset_places first here.place part.name) → Among also (dataset_places second there.place other.name) →
        slice_get first place ≡ Some reader → slice_get second also ≡ Some reader → source_name reader ≡ Some read → dataset_named here.sofar read ≡ dataset_named there.sofar read
    finds_alike place also reader stream read at at_also is is_also reads =
        let b = both place reader read at is reads in
        let r = read_found second two.resolved there.sofar two.are_resolved free there.place other.level other.text other there.judged there.named also reader read at_also is_also reads in
        let found_new : dataset_named new read ≡ Some r.0.0 = there.of_plan read r.0.0 r.0.1 in
        let same_one : b.dataset ≡ r.0.0 = in_some (sym b.in_new ∙ found_new) in
        b.found_here ∙ ap Some same_one ∙ sym r.0.1

    source_alike : (place also : ℕ) (reader : Statement) (reads : Source) → Among place (dataset_places first here.place part.name) → Among also (dataset_places second there.place other.name) →
        slice_get first place ≡ Some reader → slice_get second also ≡ Some reader → IsResolved reader (From reads) → found_in here.sofar reads ≡ found_in there.sofar reads
    source_alike place also reader (source.Files stream read) at at_also is is_also resolved = refl
    source_alike place also reader (source.Dataset stream read) at at_also is is_also resolved = finds_alike place also reader stream read at at_also is is_also (resolved_source reader stream read resolved)

    abbrev Alike : ℕ → ℕ → Type 0
    Alike = AreAlike first second one.resolved two.resolved here.sofar there.sofar

    alike_at : (place also : ℕ) (reader : Statement) → Among place (dataset_places first here.place part.name) → Among also (dataset_places second there.place other.name) →
        slice_get first place ≡ Some reader → slice_get second also ≡ Some reader → Alike place also
    alike_at place also reader at at_also is is_also =
        let r = resolved_at first one.resolved place reader one.are_resolved is in
        let s = resolved_at second two.resolved also reader two.are_resolved is_also in
        let same_one : r.found ≡ s.found = one_resolved answer reader r.found s.found r.is_resolved s.is_resolved in
        record {
          statements = is ∙ sym is_also;
          resolved = r.is_there ∙ ap Some same_one ∙ sym s.is_there;
          finds = λ reads from. source_alike place also reader reads at at_also is is_also (subst (IsResolved reader) (in_some (sym r.is_there ∙ from)) r.is_resolved);
        }

    -- ---- the datasets

    own_statement : (one_own : Statement) × (slice_get first here.place ≡ Some one_own) × (dataset_name one_own ≡ Some part.name)
    own_statement = declared_there first here.place part.name (slice_get first here.place) refl here.named

    other_statement : (one_own : Statement) × (slice_get second there.place ≡ Some one_own) × (dataset_name one_own ≡ Some other.name)
    other_statement = declared_there second there.place other.name (slice_get second there.place) refl there.named

    all_alike : Each Alike (dataset_places first here.place part.name) (dataset_places second there.place other.name)
    all_alike = paired first second Alike (dataset_places first here.place part.name) (dataset_places second there.place other.name)
        ((own_statement.0, own_statement.1), fillers_there part.name first) ((other_statement.0, other_statement.1), fillers_there other.name second) own_is alike_at

    name_is : part.name ≡ other.name
    name_is =
        let same_one : own_statement.0 ≡ other_statement.0 = (first_same first second here.place there.place (fillers_from part.name 0 first) (fillers_from other.name 0 second) own_statement.0 other_statement.0 own_statement.1 other_statement.1 own_is).0 in
        in_some (sym own_statement.2 ∙ ap dataset_name same_one ∙ other_statement.2)

    made : dataset_judged second two.resolved there.sofar there.place part.level part.text ≡ Ok part
    made = judged_alike first second one.resolved two.resolved here.sofar there.sofar here.place there.place part.level part.text part here.named all_alike.0
        (subst (λ (name : List ℕ). AllAlike first second one.resolved two.resolved here.sofar there.sofar (fillers_from part.name 0 first) (fillers_from name 0 second)) (sym name_is) all_alike.1) here.judged

    pub is_one : part ≡ other
    is_one =
        in_ok (sym made ∙ ap (λ (level : ℕ). dataset_judged second two.resolved there.sofar there.place level part.text) level_is
        ∙ ap (dataset_judged second two.resolved there.sofar there.place other.level) same ∙ there.judged)

  judged_in : (statements : List Statement) (resolved : List Resolved) (plan : List Dataset) (name : List ℕ) (dataset : Dataset) → AllByRecursion (IsJudged statements resolved plan) plan → dataset_named plan name ≡ Some dataset → IsJudged statements resolved plan dataset
  judged_in statements resolved plan name dataset each e = let f = found plan name dataset e in of_found (IsJudged statements resolved plan) plan f.index dataset each f.is_there

  -- each part below a level is in the other plan
  below : (bound : ℕ) (part : Dataset) → Among part parts → part.level < bound → IsThere part
  below zero part m less = absurd (omega (arith, less))
  below (suc bound) part m less =
      let is_old = all_among (λ (d : Dataset). dataset_named old d.name ≡ Some d) parts part stored m in
      let there = some_and (dataset_named new part.name) (λ (d : Dataset). part.text ≡ d.text) (all_among (λ (p : Dataset). IsSomeAnd (dataset_named new p.name) (λ (d : Dataset). p.text ≡ d.text)) parts part texts m) in
      let same : part ≡ there.0 =
      is_one part there.0 m is_old there.1 there.2 (judged_in first one.resolved old part.name part one.each is_old) (judged_in second two.resolved new part.name there.0 two.each there.1)
      (λ d n lower. below bound d n (omega (arith, lower, less))) in
      there.1 ∙ ap Some (sym same)

  pub are_one : AreOfPlan new parts
  are_one = each_among IsThere parts (λ part m. below (suc part.level) part m (omega arith))
