-- The edges of a plan.
use Rattle.std.proofs.Common.{◌≡◌, ◌⊎◌, inl, inr, ℕ, zero, suc, ◌+◌, ◌<◌, List, [], ◌∷◌, ◌++◌, length, get_or, Bool, true, false, cond, ◌||◌, Contains, slice_get, filter_map, Option, Some, None, option_map, refl, sym, ap, ◌∙◌, subst, arith}
use Rattle.std.specs.List.{cons_option, list_any}
use Rattle.std.specs.Option.{option_map_or}
use Rattle.std.proofs.lemmas.Option.{slice_get_within}
use Rattle.value_core.specs.NameFold.{same_name}
use Rattle.graph_check.specs.Graphs.{AreWithin, Reads}
use Rattle.plan_core.specs.declared.flow.Origin.{Origin}
use Rattle.plan_core.specs.declared.flow.Origin.TheVariants as origin
use Rattle.plan_core.specs.declared.plan.Dataset.{Dataset as Part}
use Rattle.plan_core.specs.Sound.{IsSoundPlan}
use Rattle.state_steps.specs.Parts.{streams_of}
use Rattle.stream_closure.specs.Streams.{AreStreams, StreamsFrom, edge_of, edges_from, edges_of, place_from, reads_name, streams_from}
use Rattle.stream_closure.proofs.NameLemmas.{apart_at, name_itself, or_right, two_names}

pub edges_within : (plan : List Part) (edges : List (ℕ × ℕ)) → AreStreams plan edges → AreWithin (length plan) edges
edges_within plan edges are k d inside =
    let edge : ℕ × ℕ = get_or edges k d in
    let s = (are edge.0 edge.1).0 (k, inside, get_or_other edges k d edge inside) in
    (slice_get_within plan edge.0 s.table s.table_is, slice_get_within plan edge.1 s.from s.from_is)
  where
    get_or_other : (xs : List (ℕ × ℕ)) (i : ℕ) (d e : ℕ × ℕ) → i < length xs → get_or xs i e ≡ get_or xs i d
    get_or_other [] i d e inside = absurd (omega arith)
    get_or_other (x ∷ xs) zero d e inside = refl
    get_or_other (x ∷ xs) (suc i) d e inside = get_or_other xs i d e (omega arith)

-- ---- members of a list of edges

first_in : (x z : ℕ × ℕ) (xs : List (ℕ × ℕ)) → x ≡ z → Contains (x ∷ xs) z
first_in x z xs here = (zero, omega arith, here)

rest_in : (x z : ℕ × ℕ) (xs : List (ℕ × ℕ)) → Contains xs z → Contains (x ∷ xs) z
rest_in x z xs there = (suc there.0, omega (arith, there.1), there.2)

cases_in : (x z : ℕ × ℕ) (xs : List (ℕ × ℕ)) (k : ℕ) → k < length (x ∷ xs) → get_or (x ∷ xs) k z ≡ z → (x ≡ z) ⊎ Contains xs z
cases_in x z xs zero inside e = inl e
cases_in x z xs (suc k) inside e = inr (k, omega arith, e)

left_in : (xs ys : List (ℕ × ℕ)) (z : ℕ × ℕ) → Contains xs z → Contains (xs ++ ys) z
left_in [] ys z there = absurd (omega (arith, there.1))
left_in (x ∷ xs) ys z there =
    elim (cases_in x z xs there.0 there.1 there.2) [
      | inl here ↦ first_in x z (xs ++ ys) here
      | inr later ↦ rest_in x z (xs ++ ys) (left_in xs ys z later)
    ]

right_in : (xs ys : List (ℕ × ℕ)) (z : ℕ × ℕ) → Contains ys z → Contains (xs ++ ys) z
right_in [] ys z there = there
right_in (x ∷ xs) ys z there = rest_in x z (xs ++ ys) (right_in xs ys z there)

split_in : (xs ys : List (ℕ × ℕ)) (z : ℕ × ℕ) → Contains (xs ++ ys) z → Contains xs z ⊎ Contains ys z
split_in [] ys z there = inr there
split_in (x ∷ xs) ys z there =
    elim (cases_in x z (xs ++ ys) there.0 there.1 there.2) [
      | inl here ↦ inl (first_in x z xs here)
      | inr later ↦
          elim (split_in xs ys z later) [
            | inl front ↦ inl (rest_in x z xs front)
            | inr back ↦ inr back
          ]
    ]

behind_in : (o : Option (ℕ × ℕ)) (xs : List (ℕ × ℕ)) (z : ℕ × ℕ) → Contains xs z → Contains (cons_option o xs) z
behind_in None xs z there = there
behind_in (Some x) xs z there = rest_in x z xs there

-- ---- the place of a name

-- the dataset of a name is at a place of these parts
record IsPlaced (parts : List Part) (base at : ℕ) (name : List ℕ) : Type 0 where
  place : ℕ
  at_is : at ≡ base + place
  part : Part
  part_is : slice_get parts place ≡ Some part
  same : same_name part.name name ≡ true

later_placed : (p : Part) (ps : List Part) (base at : ℕ) (name : List ℕ) → IsPlaced ps (base + 1) at name → IsPlaced (p ∷ ps) base at name
later_placed p ps base at name f = record { place = suc f.place; at_is = omega (arith, f.at_is); part = f.part; part_is = f.part_is; same = f.same }

placed_by : (p : Part) (ps : List Part) (base at : ℕ) (name : List ℕ) (test : Bool) → same_name p.name name ≡ test → cond test (Some base) (place_from (base + 1) ps name) ≡ Some at
    → (place_from (base + 1) ps name ≡ Some at → IsPlaced ps (base + 1) at name) → IsPlaced (p ∷ ps) base at name
placed_by p ps base at name true is e behind = let same_place : base ≡ at = ap (λ o. option_map_or (λ n. n) o base) e in record { place = zero; at_is = omega arith; part = p; part_is = refl; same = is }
placed_by p ps base at name false is e behind = later_placed p ps base at name (behind e)

placed_at : (parts : List Part) (base at : ℕ) (name : List ℕ) → place_from base parts name ≡ Some at → IsPlaced parts base at name
placed_at [] base at name e = cc
placed_at (p ∷ ps) base at name e = placed_by p ps base at name (same_name p.name name) refl e (placed_at ps (base + 1) at name)

place_is : (parts : List Part) (base i : ℕ) (from : Part) (name : List ℕ) → slice_get parts i ≡ Some from → same_name from.name name ≡ true → ((j : ℕ) (p : Part) → j < i → slice_get parts j ≡ Some p → same_name p.name name ≡ false)
    → place_from base parts name ≡ Some (base + i)
place_is [] base i from name is same clear = cc
place_is (p ∷ ps) base zero from name is same clear =
    let one : p ≡ from = ap (λ o. option_map_or (λ q. q) o p) is in
    let here : same_name p.name name ≡ true = ap (λ (q : Part). same_name q.name name) one ∙ same in
    let e : base ≡ base + 0 = omega arith in
    ap (λ b. cond b (Some base) (place_from (base + 1) ps name)) here ∙ ap Some e
place_is (p ∷ ps) base (suc i) from name is same clear =
    let e : base + 1 + i ≡ base + suc i = omega arith in
    ap (λ b. cond b (Some base) (place_from (base + 1) ps name)) (clear zero p (omega arith) refl)
    ∙ place_is ps (base + 1) i from name is same (λ j q less. clear (suc j) q (omega arith)) ∙ ap Some e

apart_too : (a b c : List ℕ) (test : Bool) → same_name a c ≡ test → same_name b c ≡ true → same_name a b ≡ false → test ≡ false
apart_too a b c true is same apart = let both : true ≡ false = sym (two_names a b c is same) ∙ apart in absurd (let never : ⊥ = cc in never)
apart_too a b c false is same apart = refl

-- ---- the edges of one table

module _ (plan : List Part) where
  -- a flow of these reads the dataset at a place
  record ReadsAt (base reader source : ℕ) (origins : List Origin) : Type 0 where
    reader_is : base ≡ reader
    from : Part
    from_is : slice_get plan source ≡ Some from
    reads : list_any (reads_name from.name) origins ≡ true

  -- one flow does
  record ReadsOne (base reader source : ℕ) (o : Origin) : Type 0 where
    reader_is : base ≡ reader
    from : Part
    from_is : slice_get plan source ≡ Some from
    reads : reads_name from.name o ≡ true

  one_by : (base reader source : ℕ) (name : List ℕ) (q : Option ℕ) → place_from 0 plan name ≡ q → option_map {U = ℕ × ℕ} (λ n. (base, n)) q ≡ Some (reader, source) → ReadsOne base reader source (origin.Table name)
  one_by base reader source name None is e = cc
  one_by base reader source name (Some n) is e =
      let f = placed_at plan 0 n name is in
      let place_eq : n ≡ source = ap (λ (o : Option (ℕ × ℕ)). option_map_or (λ p. p.1) o n) e in
      let at_place : f.place ≡ source = omega (arith, f.at_is) in
      record {
        reader_is = ap (λ (o : Option (ℕ × ℕ)). option_map_or (λ p. p.0) o base) e;
        from = f.part;
        from_is = ap (slice_get plan) (sym at_place) ∙ f.part_is;
        reads = two_names name f.part.name name (name_itself name) f.same;
      }

  one_edge : (base reader source : ℕ) (o : Origin) → edge_of plan base o ≡ Some (reader, source) → ReadsOne base reader source o
  one_edge base reader source (origin.Files dir shape) e = cc
  one_edge base reader source (origin.Table name) e = one_by base reader source name (place_from 0 plan name) refl e

  behind_reads : (base reader source : ℕ) (o : Origin) (os : List Origin) → ReadsAt base reader source os → ReadsAt base reader source (o ∷ os)
  behind_reads base reader source o os r =
      record { reader_is = r.reader_is; from = r.from; from_is = r.from_is; reads = or_right (reads_name r.from.name o) (list_any (reads_name r.from.name) os) r.reads }

  reads_by : (base reader source : ℕ) (o : Origin) (os : List Origin) (edge : Option (ℕ × ℕ)) → edge_of plan base o ≡ edge → Contains (cons_option edge (filter_map (edge_of plan base) os)) (reader, source)
      → (Contains (filter_map (edge_of plan base) os) (reader, source) → ReadsAt base reader source os) → ReadsAt base reader source (o ∷ os)
  reads_by base reader source o os None is there behind = behind_reads base reader source o os (behind there)
  reads_by base reader source o os (Some x) is there behind =
      elim (cases_in x (reader, source) (filter_map (edge_of plan base) os) there.0 there.1 there.2) [
        | inl here ↦
            let r = one_edge base reader source o (is ∙ ap Some here) in
            record { reader_is = r.reader_is; from = r.from; from_is = r.from_is; reads = ap (λ b. b || list_any (reads_name r.from.name) os) r.reads }
        | inr later ↦ behind_reads base reader source o os (behind later)
      ]

  reads_of : (base reader source : ℕ) (origins : List Origin) → Contains (filter_map (edge_of plan base) origins) (reader, source) → ReadsAt base reader source origins
  reads_of base reader source [] there = absurd (omega (arith, there.1))
  reads_of base reader source (o ∷ os) there = reads_by base reader source o os (edge_of plan base o) refl there (reads_of base reader source os)

  -- ---- the edges of all

  -- the table at a place of these parts streams from the dataset at a place of the plan
  record Streams (base reader source : ℕ) (parts : List Part) : Type 0 where
    place : ℕ
    reader_is : reader ≡ base + place
    table : Part
    table_is : slice_get parts place ≡ Some table
    from : Part
    from_is : slice_get plan source ≡ Some from
    streams : streams_from from.name table.body ≡ true

  streams_in : (base reader source : ℕ) (parts : List Part) → Contains (edges_from plan base parts) (reader, source) → Streams base reader source parts
  streams_in base reader source [] there = absurd (omega (arith, there.1))
  streams_in base reader source (part ∷ parts) there =
      elim (split_in (filter_map (edge_of plan base) (streams_of part.body)) (edges_from plan (base + 1) parts) (reader, source) there) [
        | inl front ↦
            let r = reads_of base reader source (streams_of part.body) front in
            record { place = zero; reader_is = omega (arith, r.reader_is); table = part; table_is = refl; from = r.from; from_is = r.from_is; streams = r.reads }
        | inr back ↦
            let s = streams_in (base + 1) reader source parts back in
            record { place = suc s.place; reader_is = omega (arith, s.reader_is); table = s.table; table_is = s.table_is; from = s.from; from_is = s.from_is; streams = s.streams }
      ]

  edge_streams : (reader source : ℕ) → Reads (edges_of plan) reader source → StreamsFrom plan reader source
  edge_streams reader source there =
      let s = streams_in 0 reader source plan there in
      let e : reader ≡ s.place = omega (arith, s.reader_is) in
      record { table = s.table; table_is = ap (slice_get plan) e ∙ s.table_is; from = s.from; from_is = s.from_is; streams = s.streams }

  -- ---- each stream has its edge

  kept_by : (base : ℕ) (z : ℕ × ℕ) (o : Origin) (os : List Origin) (test later : Bool) → (test ≡ true → edge_of plan base o ≡ Some z) → (later ≡ true → Contains (filter_map (edge_of plan base) os) z) → (test || later) ≡ true
      → Contains (filter_map (edge_of plan base) (o ∷ os)) z
  kept_by base z o os true later here behind e = subst (λ edge. Contains (cons_option edge (filter_map (edge_of plan base) os)) z) (sym (here refl)) (first_in z z (filter_map (edge_of plan base) os) refl)
  kept_by base z o os false later here behind e = behind_in (edge_of plan base o) (filter_map (edge_of plan base) os) z (behind e)

  kept_in : (base : ℕ) (z : ℕ × ℕ) (name : List ℕ) (origins : List Origin) → ((o : Origin) → reads_name name o ≡ true → edge_of plan base o ≡ Some z) → list_any (reads_name name) origins ≡ true → Contains (filter_map (edge_of plan base) origins) z
  kept_in base z name [] each e = cc
  kept_in base z name (o ∷ os) each e = kept_by base z o os (reads_name name o) (list_any (reads_name name) os) (each o) (kept_in base z name os each) e

  of_table : (parts : List Part) (base i at : ℕ) (z : ℕ × ℕ) (table : Part) → at ≡ base + i → slice_get parts i ≡ Some table → Contains (filter_map (edge_of plan at) (streams_of table.body)) z → Contains (edges_from plan base parts) z
  of_table [] base i at z table e is there = cc
  of_table (p ∷ ps) base zero at z table e is there =
      let one : table ≡ p = sym (ap (λ o. option_map_or (λ q. q) o p) is) in
      let here : at ≡ base = omega arith in
      let moved : Contains (filter_map (edge_of plan at) (streams_of p.body)) z = subst (λ (q : Part). Contains (filter_map (edge_of plan at) (streams_of q.body)) z) one there in
      left_in (filter_map (edge_of plan base) (streams_of p.body)) (edges_from plan (base + 1) ps) z (subst (λ n. Contains (filter_map (edge_of plan n) (streams_of p.body)) z) here moved)
  of_table (p ∷ ps) base (suc i) at z table e is there =
      right_in (filter_map (edge_of plan base) (streams_of p.body)) (edges_from plan (base + 1) ps) z (of_table ps (base + 1) i at z table (omega arith) is there)

  module _ (sound : IsSoundPlan plan) where
    edge_by : (reader source : ℕ) (from : Part) → slice_get plan source ≡ Some from → (o : Origin) → reads_name from.name o ≡ true → edge_of plan reader o ≡ Some (reader, source)
    edge_by reader source from is (origin.Files dir shape) e = cc
    edge_by reader source from is (origin.Table name) e =
        let same : same_name from.name name ≡ true = two_names from.name name from.name (name_itself from.name) e in
        let placed : place_from 0 plan name ≡ Some (0 + source) = place_is plan 0 source from name is same (λ j p less p_is. apart_too p.name from.name name (same_name p.name name) refl same (apart_at plan sound j source p from less p_is is)) in
        let at : 0 + source ≡ source = omega arith in
        ap (option_map {U = ℕ × ℕ} (λ n. (reader, n))) (placed ∙ ap Some at)

    stream_edge : (reader source : ℕ) → StreamsFrom plan reader source → Reads (edges_of plan) reader source
    stream_edge reader source s =
        of_table plan 0 reader reader (reader, source) s.table (omega arith) s.table_is
        (kept_in reader (reader, source) s.from.name (streams_of s.table.body) (edge_by reader source s.from s.from_is) s.streams)

pub edges_are : (plan : List Part) → IsSoundPlan plan → AreStreams plan (edges_of plan)
edges_are plan sound reader source = (edge_streams plan reader source, stream_edge plan sound reader source)
