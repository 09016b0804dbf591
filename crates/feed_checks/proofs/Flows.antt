-- What a change feed gives is sound.
use Rattle.std.proofs.Common.{◌≡◌, ℕ, ◌<◌, Bool, true, false, List, [], ◌∷◌, ◌++◌, length, Option, Some, None, Result, Ok, Err, refl, sym, ap, subst, ◌∙◌}
use Rattle.std.specs.Prelude.{◌||◌, ◌&&◌, if◌then◌else◌, All, IfOk, IsTrue, is_some, option_map}
use Rattle.std.specs.Option.{option_or}
use Rattle.std.proofs.lemmas.List.{length-map}
use Rattle.std.proofs.lemmas.List.Elements.{All-from_recursion}
use Rattle.sql_tree.specs.declared.expr.SqlExpr.{SqlExpr}
use Rattle.sql_tree.specs.declared.statement.CdcTree.{CdcTree}
use Rattle.value_core.specs.declared.schema.Column.{Column}
use Rattle.row_expr.specs.declared.expr.Expr.{Expr}
use Rattle.expr_typing.specs.Typing.{first_of}
use Rattle.plan_core.specs.declared.flow.Origin.{Origin}
use Rattle.plan_core.specs.Sound.{IsSoundFeed, is_condition_over, is_empty, kinds_of, target_kinds}
use Rattle.statement_checks.specs.declared.fault.CheckFault.{CheckFault}
use Rattle.statement_checks.specs.declared.fault.CheckFault.TheVariants.{TruncateScd2, TypeMismatch, UnknownName, KeyNotOutput}
use Rattle.statement_checks.specs.Declares.{some_names}
use Rattle.statement_checks.specs.Limits.{Check}
use Rattle.feed_checks.specs.declared.parts.Conditions.{Conditions}
use Rattle.feed_checks.specs.declared.parts.FeedEnd.{FeedEnd}
use Rattle.feed_checks.specs.declared.parts.FeedParts.{FeedParts}
use Rattle.feed_checks.specs.Places.{places_named, some_places}
use Rattle.feed_checks.specs.Clauses.{sequence_names, keeps_history, given_columns, sequence_columns, renamed, start_name, end_name, target_columns}
use Rattle.feed_checks.specs.Feeds.{ByChecks, then_checked, passed, stray_name, stray_in, stray_behind, stray_of_feed, feed_names_known, condition_over, conditions_with, conditions_of, has_no_part, has_parts, keys_given, no_truncate, no_struct, outputs_differ, feed_checks, columns_with, parts_with, parts_over, feed_parts, feed_flow, sequence_kinds, FeedTells}
use Rattle.feed_checks.proofs.Ranges.{Below, some_below, names_below, kinds_there}
use Rattle.feed_checks.proofs.Found.{none_of_both, has_place, one_part}

-- ---- what is known where a feed gives something

record IsMade (names others : Check) (conditions : ByChecks Conditions) (make : Conditions → FeedParts) (parts : FeedParts) : Type 0 where
  known : names ≡ None
  passes : others ≡ None
  made : Conditions
  typed : conditions ≡ Ok made
  gives : make made ≡ parts

is_made : (names others : Check) (conditions : ByChecks Conditions) (make : Conditions → FeedParts) (parts : FeedParts) →
    then_checked (passed names) (λ a. then_checked conditions (λ made. then_checked (passed others) (λ b. Ok (make made)))) ≡ Ok parts → IsMade names others conditions make parts
is_made (Some fault) others conditions make parts e = absurd (cc e)
is_made None others (Err fault) make parts e = absurd (cc e)
is_made None (Some fault) (Ok made) make parts e = absurd (cc e)
is_made None None (Ok made) make parts e = record { known = refl; passes = refl; made = made; typed = refl; gives = cc e }

truncate_made : (delete truncate : ByChecks (Option Expr)) (made : Conditions) →
    then_checked delete (λ d. then_checked truncate (λ t. Ok (conditions_with d t))) ≡ Ok made → truncate ≡ Ok made.truncate_when
truncate_made (Err fault) truncate made e = absurd (cc e)
truncate_made (Ok d) (Err fault) made e = absurd (cc e)
truncate_made (Ok d) (Ok t) made e =
    let same : conditions_with d t ≡ made = cc e in
    ap (λ (each : Conditions). Ok each.truncate_when) same

map_none : (make : List ℕ → CheckFault) (found : Option (List ℕ)) → option_map make found ≡ None → found ≡ None
map_none make None e = refl
map_none make (Some name) e = absurd (cc e)

some_part : (no_keys no_parts : Bool) → (if no_keys || no_parts then Some TypeMismatch else None) ≡ None → no_keys ≡ false
some_part true no_parts e = absurd (cc e)
some_part false no_parts e = refl

without : (source : List Column) (tree : Option SqlExpr) (made : Option Expr) (history : Bool) → history ≡ true →
    (if history && is_some tree then Some TruncateScd2 else None) ≡ None → condition_over source tree ≡ Ok made → made ≡ None
without source None made history is none e = let same : None ≡ made = cc e in sym same
without source (Some tree) made true is none e = absurd (cc none)
without source (Some tree) made false is none e = absurd (cc is)

in_range : (columns : List Column) (places : List ℕ) → Below (length columns) places → All (λ at. at < length (kinds_of columns)) places
in_range columns places h =
    All-from_recursion (λ at. at < length (kinds_of columns)) places (subst (λ n. Below n places) (sym (length-map columns (λ (each : Column). each.kind))) h)

record Passes (feed : CdcTree) (source given : List Column) : Type 0 where
  sequence : stray_name source (sequence_names feed.sequence) ≡ None
  keys : stray_name given feed.keys ≡ None
  some_key : is_empty feed.keys ≡ false
  truncate : no_truncate feed ≡ None
  struct : no_struct feed ≡ None

passes : (feed : CdcTree) (source given : List Column) → feed_names_known feed source given ≡ None → first_of (feed_checks feed given) ≡ None → Passes feed source given
passes feed source given known others =
    let stray = map_none UnknownName (stray_of_feed feed source given) known in
    let a = none_of_both (stray_name source feed.keys) (option_or (stray_in source feed.delete_when) (option_or (stray_in source feed.truncate_when) (option_or (stray_behind feed source given) None))) stray in
    let b = none_of_both (stray_in source feed.delete_when) (option_or (stray_in source feed.truncate_when) (option_or (stray_behind feed source given) None)) a.1 in
    let c = none_of_both (stray_in source feed.truncate_when) (option_or (stray_behind feed source given) None) b.1 in
    let d = none_of_both (stray_behind feed source given) None c.1 in
    let e = none_of_both (stray_name source (sequence_names feed.sequence)) (option_or (stray_name source (some_names feed.columns)) (option_or (stray_name given (some_names feed.track)) None)) d.0 in
    let f = none_of_both (has_parts feed) (option_or (keys_given feed given) (option_or (no_truncate feed) (option_or (no_struct feed) (option_or (outputs_differ feed given) None)))) others in
    let g = none_of_both (keys_given feed given) (option_or (no_truncate feed) (option_or (no_struct feed) (option_or (outputs_differ feed given) None))) f.1 in
    let h = none_of_both (no_truncate feed) (option_or (no_struct feed) (option_or (outputs_differ feed given) None)) g.1 in
    let i = none_of_both (no_struct feed) (option_or (outputs_differ feed given) None) h.1 in
    record {
      sequence = e.0;
      keys = map_none KeyNotOutput (stray_name given feed.keys) g.0;
      some_key = some_part (is_empty feed.keys) (has_no_part feed.sequence) f.0;
      truncate = h.0;
      struct = i.0;
    }

-- ---- a sound flow

abbrev IsSoundOver : List Column → FeedParts → Type 0
IsSoundOver source parts = (name : List ℕ) (origin : Origin) → IsSoundFeed (kinds_of source) (sequence_kinds source parts) (kinds_of parts.given) (feed_flow name origin parts)

abbrev AreSound : List Column → FeedParts → Type 0
AreSound source parts = IsTrue (is_condition_over (kinds_of source) parts.delete_when) → IsTrue (is_condition_over (kinds_of source) parts.truncate_when) → IsSoundOver source parts

made_sound : (feed : CdcTree) (source : List Column) (made : Conditions) → Passes feed source (given_columns feed source) → condition_over source feed.truncate_when ≡ Ok made.truncate_when →
    AreSound source (parts_with feed (columns_with feed source (given_columns feed source)) made)
made_sound feed source made passing typed delete truncate name origin =
    let given = given_columns feed source in
    record {
      delete_when = delete;
      truncate_when = truncate;
      sequence = kinds_there source (places_named source (sequence_names feed.sequence)) (names_below source (sequence_names feed.sequence));
      outputs = kinds_there source (some_places source feed.columns) (some_below source feed.columns);
      keys_in_range = in_range given (places_named given feed.keys) (names_below given feed.keys);
      tracked_in_range = in_range given (some_places given feed.track) (some_below given feed.track);
      has_key = has_place given feed.keys passing.some_key passing.keys;
      one_sequence = λ history. one_part source feed.sequence (keeps_history feed) history passing.struct passing.sequence;
      no_truncate = λ history. without source feed.truncate_when made.truncate_when (keeps_history feed) history passing.truncate typed;
    }

pub feed_sound : (feed : CdcTree) (source : List Column) (parts : FeedParts) → feed_parts feed source ≡ Ok parts → AreSound source parts
feed_sound feed source parts is =
    let given = given_columns feed source in
    let found = is_made (feed_names_known feed source given) (first_of (feed_checks feed given)) (conditions_of feed source) (parts_with feed (columns_with feed source given)) parts is in
    let typed = truncate_made (condition_over source feed.delete_when) (condition_over source feed.truncate_when) found.made found.typed in
    subst (AreSound source) found.gives (made_sound feed source found.made (passes feed source given found.known found.passes) typed)

-- ---- the kinds of the target

renamed_kinds : (name : List ℕ) (columns : List Column) → kinds_of (renamed name columns) ≡ kinds_of columns
renamed_kinds name [] = refl
renamed_kinds name (first ∷ more) = ap (λ kinds. first.kind ∷ kinds) (renamed_kinds name more)

both_kinds : (front back : List Column) → kinds_of (front ++ back) ≡ kinds_of front ++ kinds_of back
both_kinds [] back = refl
both_kinds (first ∷ front) back = ap (λ kinds. first.kind ∷ kinds) (both_kinds front back)

kinds_by : (history : Bool) (parts given : List Column) → kinds_of (target_columns history parts given) ≡ target_kinds history (kinds_of parts) (kinds_of given)
kinds_by false parts given = refl
kinds_by true parts given =
    both_kinds (given ++ renamed start_name parts) (renamed end_name parts)
    ∙ (ap (λ kinds. kinds ++ kinds_of (renamed end_name parts)) (both_kinds given (renamed start_name parts))
    ∙ (ap (λ kinds. kinds_of given ++ kinds ++ kinds_of (renamed end_name parts)) (renamed_kinds start_name parts)
    ∙ ap (λ kinds. kinds_of given ++ kinds_of parts ++ kinds) (renamed_kinds end_name parts)))

abbrev HasKinds : List Column → FeedParts → Type 0
HasKinds source parts = kinds_of parts.columns ≡ target_kinds parts.scd2 (sequence_kinds source parts) (kinds_of parts.given)

pub feed_kinds : (feed : CdcTree) (source : List Column) (parts : FeedParts) → feed_parts feed source ≡ Ok parts → HasKinds source parts
feed_kinds feed source parts is =
    let given = given_columns feed source in
    let found = is_made (feed_names_known feed source given) (first_of (feed_checks feed given)) (conditions_of feed source) (parts_with feed (columns_with feed source given)) parts is in
    subst (HasKinds source) found.gives (kinds_by (keeps_history feed) (sequence_columns feed source) given)

-- ---- what a call tells

pub told_given : (feed : CdcTree) (source given : List Column) (r : Result FeedParts FeedEnd) → given ≡ given_columns feed source →
    FeedTells (parts_over feed source given) r → FeedTells (feed_parts feed source) r
told_given feed source given r is h = subst (λ columns. FeedTells (parts_over feed source columns) r) is h

pub told_sound : (feed : CdcTree) (source : List Column) (r : Result FeedParts FeedEnd) → FeedTells (feed_parts feed source) r →
    IfOk r (λ parts. IsTrue (is_condition_over (kinds_of source) parts.delete_when)) → IfOk r (λ parts. IsTrue (is_condition_over (kinds_of source) parts.truncate_when)) →
    IfOk r (IsSoundOver source)
told_sound feed source (Ok parts) h delete truncate = feed_sound feed source parts h delete truncate
told_sound feed source (Err end) h delete truncate = tt

pub told_kinds : (feed : CdcTree) (source : List Column) (r : Result FeedParts FeedEnd) → FeedTells (feed_parts feed source) r → IfOk r (HasKinds source)
told_kinds feed source (Ok parts) h = feed_kinds feed source parts h
told_kinds feed source (Err end) h = tt
