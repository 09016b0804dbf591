-- Outputs in the order of a table's columns have their kinds.
use Rattle.std.proofs.Common.{◌≡◌, ℕ, zero, suc, ◌+◌, Bool, true, false, cond, List, [], ◌∷◌, ◌++◌, map, get_or, Option, Some, None, refl, sym, ap, subst, ◌∙◌, arith}
use Rattle.std.specs.Prelude.{◌||◌, slice_get, slice_set, option_map, option_and_then, option_to_list}
use Rattle.std.specs.List.{AllByRecursion, list_any, position_from}
use Rattle.std.specs.Option.{option_or}
use Rattle.std.proofs.lemmas.Iterator.Adapters.{position_from-zero}
use Rattle.std.proofs.lemmas.List.Quantifiers.{position-Some}
use Rattle.std.proofs.lemmas.Option.{slice_get-map}
use Rattle.value_core.specs.declared.schema.Column.{Column}
use Rattle.value_core.specs.declared.value.Kind.{Kind}
use Rattle.value_core.specs.declared.value.Kind.TheVariants as kind
use Rattle.value_core.specs.NameFold.{same_name}
use Rattle.row_expr.specs.declared.expr.Expr.{Expr}
use Rattle.row_expr.specs.Kinds.{same_kind}
use Rattle.plan_core.specs.Sound.{all_there, kind_over, kinds_of, kinds_over}
use Rattle.statement_checks.specs.declared.fault.CheckFault.TheVariants.{SchemaDiffers}
use Rattle.column_checks.specs.Tables.{is_equal_column}
use Rattle.column_checks.specs.ByName.{first_beyond, first_missing, gives_table, has_equal, items_placed, place_equal, places_by_name, slot_left, taken_from}
use Rattle.plan_laws.proofs.Apart.{AreApart, one_name, same_column}
use Rattle.plan_laws.proofs.Slots.{other_slot}
use Rattle.plan_laws.proofs.Binding.{both_hold, neither, passes, unmapped}

not_both : (b : Bool) → b ≡ true → b ≡ false → ⊥
not_both b e f = cc

kinds_same : (a b : Kind) → same_kind a b ≡ true → a ≡ b
kinds_same kind.Bool kind.Bool e = refl
kinds_same kind.Int kind.Int e = refl
kinds_same kind.Big kind.Big e = refl
kinds_same kind.Str kind.Str e = refl
kinds_same kind.Bool kind.Int e = absurd (cc)
kinds_same kind.Bool kind.Big e = absurd (cc)
kinds_same kind.Bool kind.Str e = absurd (cc)
kinds_same kind.Int kind.Bool e = absurd (cc)
kinds_same kind.Int kind.Big e = absurd (cc)
kinds_same kind.Int kind.Str e = absurd (cc)
kinds_same kind.Big kind.Bool e = absurd (cc)
kinds_same kind.Big kind.Int e = absurd (cc)
kinds_same kind.Big kind.Str e = absurd (cc)
kinds_same kind.Str kind.Bool e = absurd (cc)
kinds_same kind.Str kind.Int e = absurd (cc)
kinds_same kind.Str kind.Big e = absurd (cc)

-- ---- the first that passes

-- the first index, from a number on, at which a test passes, with what is there
record IsFirst {A : Type 0} (test : A → Bool) (start : ℕ) (xs : List A) : Type 0 where
  index : ℕ
  item : A
  found : position_from test start xs ≡ Some (start + index)
  is : slice_get xs index ≡ Some item
  passes : test item ≡ true

first_by : {A : Type 0} (test : A → Bool) (start : ℕ) (first : A) (more : List A) (b : Bool) → test first ≡ b → (b || list_any test more) ≡ true → (list_any test more ≡ true → IsFirst test (start + 1) more) →
    IsFirst test start (first ∷ more)
first_by test start first more true here any rest = record {
  index = 0;
  item = first;
  found = ap (λ (b : Bool). cond b (Some start) (position_from test (start + 1) more)) here ∙ ap Some (omega arith);
  is = refl;
  passes = here;
}
first_by test start first more false here any rest = let found = rest any in record {
  index = suc found.index;
  item = found.item;
  found = ap (λ (b : Bool). cond b (Some start) (position_from test (start + 1) more)) here ∙ found.found ∙ ap Some (omega arith);
  is = found.is;
  passes = found.passes;
}

first_in : {A : Type 0} (test : A → Bool) (start : ℕ) (xs : List A) → list_any test xs ≡ true → IsFirst test start xs
first_in test start [] any = absurd (cc)
first_in test start (first ∷ more) any = first_by test start first more (test first) refl any (first_in test (start + 1) more)

-- ---- outputs beside their columns

module _ (source : List Kind) where
  -- the output at the index of a column has its kind
  abbrev AreKinded : List Expr → List Column → Type 0
  AreKinded outputs columns = (index : ℕ) (column : Column) → slice_get columns index ≡ Some column → (output : Expr) × (slice_get outputs index ≡ Some output) × (kind_over source output ≡ Some column.kind)

  there_first : (held : Kind) (others : Option (List Kind)) (kind : Kind) (kinds : List Kind) → option_map (λ (list : List Kind). held ∷ list) others ≡ Some (kind ∷ kinds) → (Some held ≡ Some kind) × (others ≡ Some kinds)
  there_first held None kind kinds is = absurd (cc)
  there_first held (Some list) kind kinds is = let a : held ≡ kind = cc in let b : list ≡ kinds = cc in (ap Some a, ap Some b)

  there_parts : (first : Option Kind) (more : List (Option Kind)) (kind : Kind) (kinds : List Kind) → all_there (first ∷ more) ≡ Some (kind ∷ kinds) → (first ≡ Some kind) × (all_there more ≡ Some kinds)
  there_parts None more kind kinds is = absurd (cc)
  there_parts (Some held) more kind kinds is = there_first held (all_there more) kind kinds is

  all_kinded : (outputs : List Expr) (columns : List Column) → kinds_over source outputs ≡ Some (kinds_of columns) → AreKinded outputs columns
  all_kinded outputs [] is index column at = absurd (cc)
  all_kinded [] (first ∷ more) is index column at = absurd (cc)
  all_kinded (output ∷ outputs) (first ∷ more) is zero column at =
      let parts = there_parts (kind_over source output) (map (kind_over source) outputs) first.kind (kinds_of more) is in
      (output, refl, parts.0 ∙ ap (option_map (λ (x : Column). x.kind)) at)
  all_kinded (output ∷ outputs) (first ∷ more) is (suc index) column at =
      let parts = there_parts (kind_over source output) (map (kind_over source) outputs) first.kind (kinds_of more) is in
      all_kinded outputs more parts.1 index column at

  -- ---- slots

  -- what is in the slot of a wanted column has its kind
  record IsHeld (given : List Column) (slots : List (Option Expr)) (wanted : Column) : Type 0 where
    index : ℕ
    output : Expr
    place : place_equal given wanted ≡ Some index
    slot : slot_left slots index ≡ Some output
    kind : kind_over source output ≡ Some wanted.kind

  held_first : (given : List Column) (outputs : List Expr) (wanted : Column) → AreKinded outputs given → has_equal given wanted ≡ true → IsHeld given (map Some outputs) wanted
  held_first given outputs wanted kinded has =
      let first = first_in (is_equal_column wanted) 0 given has in
      let found = kinded first.index first.item first.is in
      let equal = both_hold (same_name wanted.name first.item.name) (same_kind wanted.kind first.item.kind) first.passes in
      record {
        index = first.index;
        output = found.0;
        place = position_from-zero (is_equal_column wanted) given ∙ first.found ∙ ap Some (omega arith);
        slot = ap (option_and_then (λ (slot : Option Expr). slot)) (slice_get-map Some outputs first.index ∙ ap (option_map Some) found.1);
        kind = found.2 ∙ ap Some (sym (kinds_same wanted.kind first.item.kind equal.1));
      }

  all_held : (given : List Column) (outputs : List Expr) (table : List Column) → AreKinded outputs given → first_missing given table ≡ None → AllByRecursion (IsHeld given (map Some outputs)) table
  all_held given outputs [] kinded none = tt
  all_held given outputs (wanted ∷ more) kinded none =
      let here = passes (has_equal given wanted) (first_missing given more) wanted.name none in
      (held_first given outputs wanted kinded here.0, all_held given outputs more kinded here.1)

  -- columns of different names have different places
  places_differ : (given : List Column) (first other : Column) (taken index : ℕ) → same_column other first ≡ false → place_equal given first ≡ Some taken → place_equal given other ≡ Some index → index ≡ taken → ⊥
  places_differ given first other taken index apart is_taken is_index same =
      let one = both_hold (same_name first.name (get_or given taken first).name) (same_kind first.kind (get_or given taken first).kind) (position-Some (is_equal_column first) given taken first is_taken).1 in
      let two = both_hold (same_name other.name (get_or given index first).name) (same_kind other.kind (get_or given index first).kind) (position-Some (is_equal_column other) given index first is_index).1 in
      let three : same_name other.name (get_or given taken first).name ≡ true = subst (λ (i : ℕ). same_name other.name (get_or given i first).name ≡ true) same two.0 in
      not_both (same_name other.name first.name) (one_name other.name first.name (get_or given taken first).name three one.0) apart

  held_behind : (given : List Column) (slots : List (Option Expr)) (first other : Column) (taken : ℕ) → same_column other first ≡ false → place_equal given first ≡ Some taken → IsHeld given slots other →
      IsHeld given (slice_set slots taken None) other
  held_behind given slots first other taken apart is held = record {
    index = held.index;
    output = held.output;
    place = held.place;
    slot = other_slot slots taken held.index (places_differ given first other taken held.index apart is held.place) ∙ held.slot;
    kind = held.kind;
  }

  all_held_behind : (given : List Column) (slots : List (Option Expr)) (first : Column) (taken : ℕ) (others : List Column) → AllByRecursion (λ other. same_column other first ≡ false) others → place_equal given first ≡ Some taken →
      AllByRecursion (IsHeld given slots) others → AllByRecursion (IsHeld given (slice_set slots taken None)) others
  all_held_behind given slots first taken [] apart is held = tt
  all_held_behind given slots first taken (other ∷ more) apart is held =
      (held_behind given slots first other taken apart.0 is held.0, all_held_behind given slots first taken more apart.1 is held.1)

  -- ---- what is taken

  abbrev taken_by : List Column → List (Option Expr) → List Column → List Expr
  taken_by given slots table = taken_from slots (places_by_name table given)

  taken_first : (given : List Column) (slots : List (Option Expr)) (wanted : Column) (more : List Column) (held : IsHeld given slots wanted) →
      taken_by given slots (wanted ∷ more) ≡ held.output ∷ taken_by given (slice_set slots held.index None) more
  taken_first given slots wanted more held =
      ap (λ (o : Option ℕ). taken_from slots (option_to_list o ++ places_by_name more given)) held.place ∙
      ap (λ (o : Option Expr). option_to_list o ++ taken_by given (slice_set slots held.index None) more) held.slot

  taken_kinds : (given : List Column) (slots : List (Option Expr)) (table : List Column) → AreApart same_column table → AllByRecursion (IsHeld given slots) table → kinds_over source (taken_by given slots table) ≡ Some (kinds_of table)
  taken_kinds given slots [] apart held = refl
  taken_kinds given slots (wanted ∷ more) apart held =
      ap (kinds_over source) (taken_first given slots wanted more held.0) ∙
      ap (λ (k : Option Kind). all_there (k ∷ map (kind_over source) (taken_by given (slice_set slots held.0.index None) more))) held.0.kind ∙
      ap (option_map (λ (others : List Kind). wanted.kind ∷ others))
      (taken_kinds given (slice_set slots held.0.index None) more apart.1 (all_held_behind given slots wanted held.0.index more apart.0 held.0.place held.1))

  -- outputs that give a table its columns by name have, in the table's order, the kinds of these
  pub placed_kinds : (table given : List Column) (outputs : List Expr) → AreApart same_column table → gives_table table given ≡ None → kinds_over source outputs ≡ Some (kinds_of given) →
      kinds_over source (items_placed outputs (places_by_name table given)) ≡ Some (kinds_of table)
  placed_kinds table given outputs apart passed kinded =
      let missing = neither (first_missing given table) (first_beyond table given) (unmapped SchemaDiffers (option_or (first_missing given table) (first_beyond table given)) passed) in
      taken_kinds given (map Some outputs) table apart (all_held given outputs table (all_kinded outputs given kinded) missing.0)
