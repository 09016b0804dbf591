-- What the touched groups give, one after another.
use Rattle.std.proofs.Common.{◌≡◌, true, false, cond, List, [], ◌∷◌, ◌++◌, filter, map, Option, Some, None, refl, sym, ap, ◌∙◌, append_assoc, append-nil}
use Rattle.std.specs.List.{flat_map}
use Rattle.std.specs.Option.{option_or}
use Rattle.value_core.specs.Order.{Row}
use Rattle.plan_core.specs.declared.query.Query.{Query}
use Rattle.plan_core.specs.declared.stop.Stop.TheVariants.{SumOverflow}
use Rattle.flow_model.specs.Views.{Share, members_of, first_of, sum_stops}
use Rattle.view_laws.specs.Touched.{is_there}
use Rattle.view_groups.specs.declared.groups.Gives.{Gives}
use Rattle.view_groups.specs.declared.groups.Gives.TheVariants as gives
use Rattle.view_groups.specs.AllGroups.{GivesRow, has_row}
use Rattle.view_groups.specs.Groups.{row_of_members, stops_of_members}
use Rattle.view_patches.specs.declared.sides.Side.{Side}
use Rattle.view_patches.specs.Sides.{Collected, IsSide}
use Rattle.view_patches.specs.Walks.{Collects, rows_of_keys, stops_of_keys}

-- ---- nothing yet

no-stop : {A : Type 0} (o : Option A) → option_or None o ≡ o
no-stop o = refl

pub collect_begins : (query : Query) (members : Row → List Share) (keys : List Row) (side : Side) → side.rows ≡ [] → side.stop ≡ None → Collects query members keys keys side
collect_begins query members keys side rows stop = record {
  stop = ap (λ o. option_or o (first_of (stops_of_keys query members keys))) stop;
  rows = λ none. ap (λ r. r ++ rows_of_keys query members keys) rows;
}

-- ---- one more group

first-front : {S : Type 0} (xs ys : List S) (s : S) → first_of xs ≡ Some s → first_of (xs ++ ys) ≡ Some s
first-front [] ys s e = cc
first-front (x ∷ xs) ys s e = e

or-or : {A : Type 0} (o : Option A) (s : A) (p : Option A) → option_or (option_or o (Some s)) p ≡ option_or o (Some s)
or-or None s p = refl
or-or (Some x) s p = refl

never : {A : Type 0} (o : Option A) (s : A) → option_or o (Some s) ≡ None → ⊥
never None s e = cc
never (Some x) s e = cc

-- the rows and stops of groups behind one that has a row, or that has none
there-rows : (query : Query) (members : Row → List Share) (key : Row) (keys : List Row) → has_row query key (members key) ≡ true → rows_of_keys query members (key ∷ keys) ≡ row_of_members query.items key (members key) ∷ rows_of_keys query members keys
there-rows query members key keys e = ap (λ t. map (λ k. row_of_members query.items k (members k)) (cond t (key ∷ filter (λ k. has_row query k (members k)) keys) (filter (λ k. has_row query k (members k)) keys))) e

there-stops : (query : Query) (members : Row → List Share) (key : Row) (keys : List Row) → has_row query key (members key) ≡ true → stops_of_keys query members (key ∷ keys) ≡ stops_of_members query.items key (members key) ++ stops_of_keys query members keys
there-stops query members key keys e = ap (λ t. flat_map (λ k. stops_of_members query.items k (members k)) (cond t (key ∷ filter (λ k. has_row query k (members k)) keys) (filter (λ k. has_row query k (members k)) keys))) e

absent-rows : (query : Query) (members : Row → List Share) (key : Row) (keys : List Row) → has_row query key (members key) ≡ false → rows_of_keys query members (key ∷ keys) ≡ rows_of_keys query members keys
absent-rows query members key keys e = ap (λ t. map (λ k. row_of_members query.items k (members k)) (cond t (key ∷ filter (λ k. has_row query k (members k)) keys) (filter (λ k. has_row query k (members k)) keys))) e

absent-stops : (query : Query) (members : Row → List Share) (key : Row) (keys : List Row) → has_row query key (members key) ≡ false → stops_of_keys query members (key ∷ keys) ≡ stops_of_keys query members keys
absent-stops query members key keys e = ap (λ t. flat_map (λ k. stops_of_members query.items k (members k)) (cond t (key ∷ filter (λ k. has_row query k (members k)) keys) (filter (λ k. has_row query k (members k)) keys))) e

pub collect_more : (query : Query) (members : Row → List Share) (all keys : List Row) (key : Row) (given : Gives) (side side' : Side) → Collected key given side side' → GivesRow query.items key (members key) (has_row query key (members key)) given
    → Collects query members all (key ∷ keys) side → Collects query members all keys side'
collect_more query members all keys key gives.Nothing side side' collected is so_far = record {
  stop = ap (λ o. option_or o (first_of (stops_of_keys query members keys))) collected.1 ∙ sym (ap (λ s. option_or side.stop (first_of s)) (absent-stops query members key keys is)) ∙ so_far.stop;
  rows = λ none. ap (λ r. r ++ rows_of_keys query members keys) collected.0 ∙ sym (ap (λ r. side.rows ++ r) (absent-rows query members key keys is)) ∙ so_far.rows none;
}
collect_more query members all keys key (gives.OneRow row) side side' collected is so_far =
    let stops : stops_of_keys query members (key ∷ keys) ≡ stops_of_keys query members keys = there-stops query members key keys is.0 ∙ ap (λ s. s ++ stops_of_keys query members keys) is.2 in
    let rows : rows_of_keys query members (key ∷ keys) ≡ row ∷ rows_of_keys query members keys = there-rows query members key keys is.0 ∙ ap (λ r. r ∷ rows_of_keys query members keys) (sym is.1) in
    record {
      stop = ap (λ o. option_or o (first_of (stops_of_keys query members keys))) collected.1 ∙ sym (ap (λ s. option_or side.stop (first_of s)) stops) ∙ so_far.stop;
      rows = λ none. ap (λ r. r ++ rows_of_keys query members keys) collected.0 ∙ append_assoc side.rows (row ∷ []) (rows_of_keys query members keys) ∙ sym (ap (λ r. side.rows ++ r) rows) ∙ so_far.rows none;
    }
collect_more query members all keys key (gives.NoBig sum) side side' collected is so_far =
    let first : first_of (stops_of_keys query members (key ∷ keys)) ≡ Some (SumOverflow key sum) =
    ap first_of (there-stops query members key keys is.0) ∙ first-front (stops_of_members query.items key (members key)) (stops_of_keys query members keys) (SumOverflow key sum) is.1 in
    let whole : option_or side.stop (Some (SumOverflow key sum)) ≡ first_of (stops_of_keys query members all) = sym (ap (option_or side.stop) first) ∙ so_far.stop in
    record {
      stop = ap (λ o. option_or o (first_of (stops_of_keys query members keys))) collected.1 ∙ or-or side.stop (SumOverflow key sum) (first_of (stops_of_keys query members keys)) ∙ whole;
      rows = λ none. absurd (never side.stop (SumOverflow key sum) (whole ∙ none));
    }

-- ---- all groups

or-none : {A : Type 0} (o : Option A) → option_or o None ≡ o
or-none None = refl
or-none (Some x) = refl

pub collect_ends : (query : Query) (shares : List Share) (keys : List Row) (side : Side) → Collects query (λ key. members_of key shares) keys [] side → IsSide query shares keys side
collect_ends query shares keys side collects =
    let stop : side.stop ≡ first_of (flat_map (sum_stops query shares) (filter (is_there query shares) keys)) = sym (or-none side.stop) ∙ collects.stop in
    record {
      stop = stop;
      rows = λ none. sym (append-nil side.rows) ∙ collects.rows (sym stop ∙ none);
    }
