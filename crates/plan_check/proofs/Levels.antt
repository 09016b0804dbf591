-- What the datasets of a plan are to one another.
use Rattle.std.proofs.Common.{◌≡◌, ℕ, zero, suc, ◌+◌, ◌<◌, ◌≤◌, Bool, true, false, cond, List, [], ◌∷◌, ◌++◌, Option, Some, None, Ok, length, get_or, refl, sym, ◌∙◌, ap, subst, inl, inr, arith, append_assoc}
use Rattle.std.specs.Prelude.{IsTrue, map, not, slice_get}
use Rattle.std.specs.List.{AllPairs, find}
use Rattle.std.proofs.Math.Nat.{eq-or-lt_of_le}
use Rattle.std.proofs.Math.ListN.{get_or-append}
use Rattle.std.proofs.lemmas.List.{append-nil, length-append, length-map}
use Rattle.std.proofs.lemmas.Option.{slice_get_within}
use Rattle.sql_tree.specs.declared.statement.Statement.{Statement}
use Rattle.value_core.specs.NameFold.{same_name}
use Rattle.plan_core.specs.declared.plan.Dataset.{Dataset}
use Rattle.plan_core.specs.Sound.{dataset_named}
use Rattle.graph_check.specs.Graphs.{Reads}
use Rattle.name_checks.specs.Edges.{dataset_names, reading_edges}
use Rattle.plan_check.specs.Checks.{Checks}
use Rattle.plan_check.specs.Names.{AreNewBehind}
use Rattle.plan_check.proofs.Differ.{level_of}
use Rattle.plan_check.proofs.Plans.{IsPlanOf, checked_new, checked_plan}

-- ---- names

none_found : (test : Bool) (first : Dataset) (rest : Option Dataset) → cond test (Some first) rest ≡ None → (test ≡ false) × (rest ≡ None)
none_found true first rest e = absurd (cc)
none_found false first rest e = (refl, e)

not_same : (before : List Dataset) (name : List ℕ) (i : ℕ) (d : Dataset) → dataset_named before name ≡ None → i < length before → same_name (get_or before i d).name name ≡ false
not_same [] name i d e within = absurd (omega (arith, within))
not_same (first ∷ more) name zero d e within = (none_found (same_name first.name name) first (dataset_named more name) e).0
not_same (first ∷ more) name (suc i) d e within = not_same more name i d (none_found (same_name first.name name) first (dataset_named more name) e).1 (omega (arith, within))

at_seam : (before : List Dataset) (first : Dataset) (more : List Dataset) (d : Dataset) → get_or (before ++ first ∷ more) (length before) d ≡ first
at_seam [] first more d = refl
at_seam (x ∷ before) first more d = at_seam before first more d

abbrev AreUnlike : List Dataset → ℕ → ℕ → Dataset → Type 0
AreUnlike datasets i j d = same_name (get_or datasets i d).name (get_or datasets j d).name ≡ false

unlike_here : (before : List Dataset) (first : Dataset) (more : List Dataset) (i j : ℕ) (d : Dataset) → dataset_named before first.name ≡ None → i < j → length before ≡ j → AreUnlike (before ++ first ∷ more) i j d
unlike_here before first more i j d new less is =
    let one : get_or (before ++ first ∷ more) i d ≡ get_or before i d = get_or-append before (first ∷ more) d i (omega (arith, less, is)) in
    let two : get_or (before ++ first ∷ more) j d ≡ first = subst (λ (k : ℕ). get_or (before ++ first ∷ more) k d ≡ first) is (at_seam before first more d) in
    ap (λ (x : Dataset). same_name x.name (get_or (before ++ first ∷ more) j d).name) one ∙ ap (λ (x : Dataset). same_name (get_or before i d).name x.name) two ∙ not_same before first.name i d new (omega (arith, less, is))

unlike : (before datasets : List Dataset) → AreNewBehind before datasets → (i j : ℕ) (d : Dataset) → i < j → length before ≤ j → j < length (before ++ datasets) → AreUnlike (before ++ datasets) i j d
unlike before [] h i j d less from within = let long : length (before ++ []) ≡ length before = ap length (append-nil before) in absurd (omega (arith, from, within, long))
unlike before (first ∷ more) h i j d less from within =
    let long : length (before ++ first ∷ []) ≡ length before + 1 = length-append before (first ∷ []) in
    let all : (before ++ first ∷ []) ++ more ≡ before ++ first ∷ more = append_assoc before (first ∷ []) more in
    elim (eq-or-lt_of_le from) [
      | inl is ↦ unlike_here before first more i j d h.0 less is
      | inr later ↦ subst (λ (x : List Dataset). AreUnlike x i j d) all
          (unlike (before ++ first ∷ []) more h.1 i j d less (omega (arith, later, long)) (subst (λ (x : List Dataset). j < length x) (sym all) within))
    ]

-- the names of the datasets of a plan differ
pub names_unlike : (statements : List Statement) (plan : List Dataset) → Checks statements (Ok plan) → AllPairs (λ (a b : Dataset). IsTrue (not (same_name a.name b.name))) plan
names_unlike statements plan h i j d less within = ap not (unlike [] plan (checked_new statements plan h) i j d less (omega arith) within)

-- ---- levels

level_at : (plan : List Dataset) (place : ℕ) (found : Dataset) → slice_get plan place ≡ Some found → get_or (map level_of plan) place 0 ≡ found.level
level_at [] place found e = absurd (cc)
level_at (first ∷ more) zero found e = let same : first ≡ found = cc in ap level_of same
level_at (first ∷ more) (suc place) found e = level_at more place found e

lesser_by : (statements : List Statement) (plan : List Dataset) (of : IsPlanOf statements plan) (reader source : ℕ) (reading read : Dataset) → Reads (reading_edges statements) reader source → slice_get plan reader ≡ Some reading → slice_get plan source ≡ Some read →
    read.level < reading.level
lesser_by statements plan of reader source reading read reads is_reading is_read =
    let one : get_or of.levels reader 0 ≡ reading.level = ap (λ (x : List ℕ). get_or x reader 0) (sym of.marked.levels_are) ∙ level_at plan reader reading is_reading in
    let two : get_or of.levels source 0 ≡ read.level = ap (λ (x : List ℕ). get_or x source 0) (sym of.marked.levels_are) ∙ level_at plan source read is_read in
    let within : reader < length plan = slice_get_within plan reader reading is_reading in
    let long : length of.levels ≡ length plan = ap length (sym of.marked.levels_are) ∙ length-map plan level_of in
    let count : length of.levels ≡ length (dataset_names statements) = of.are_levels.complete in
    let above : get_or of.levels source 0 < get_or of.levels reader 0 = (of.are_levels.each reader (omega (arith, within, long, count))).above source reads in
    omega (arith, one, two, above)

-- a dataset is of a greater level than what it reads
pub lesser_sources : (statements : List Statement) (plan : List Dataset) → Checks statements (Ok plan) → (reader source : ℕ) (reading read : Dataset) → Reads (reading_edges statements) reader source → slice_get plan reader ≡ Some reading → slice_get plan source ≡ Some read →
    read.level < reading.level
lesser_sources statements plan h = lesser_by statements plan (checked_plan statements plan h)
