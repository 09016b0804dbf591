-- The stores that were worked by hand stand.
use Rattle.std.proofs.Common.{◌≡◌, ◌<◌, ◌≤◌, ◌+◌, ℕ, List, [], ◌∷◌, ◌++◌, cond, true, false, not, ◌&&◌, IsTrue, All, AllPairs, refl, sym, ap, ◌∙◌, arith}
use Rattle.std.proofs.lemmas.List.Elements.{All-cons, All-nil}
use Rattle.std.proofs.lemmas.List.Kept.{AllPairs-cons}
use Rattle.std.proofs.lemmas.List.Sums.{sum_by-cons}
use Rattle.value_core.specs.Order.{Row, same_row}
use Rattle.value_core.specs.declared.cursor.Cursor.TheVariants.{At}
use Rattle.value_core.specs.Bags.{count_of}
use Rattle.value_core.specs.NameFold.{same_name}
use Rattle.row_expr.specs.Kinds.{is_condition}
use Rattle.flow_model.specs.Admission.{counts}
use Rattle.flow_model.specs.Append.{append_out, append_stop}
use Rattle.plan_core.specs.declared.plan.Dataset.{Dataset as Part}
use Rattle.plan_core.specs.Sound.{IsSoundBody, IsSoundFlow, IsSoundPlan, is_boolean}
use Rattle.state_steps.specs.Parts.{IsOf, definition_of}
use Rattle.state_steps.specs.Stands.{DatasetStands, Stands}
use Rattle.standing_worked.specs.Worked.{at_first, bronze, bronze_at_first, bronze_later, bronze_reset, files, flags, from_bronze, from_files, left_behind, must_be_b, once_reset, plan, row, shown, shown_at_first, silver, silver_at_first, silver_reset, three_lines, two_lines}
use Rattle.standing_worked.proofs.LineLemmas.{three_landed, two_landed}
use Rattle.standing_worked.proofs.RowLemmas.{b_kind, both_kinds, one_row, reads_is, shown_is, silver_counts, silver_out, silver_runs, silver_seen, sort_is, three_out, three_run, two_kinds, two_out, two_run}

-- ---- the plan is sound

one_of : {A : Type 0} (P : A → Type 0) (x : A) → P x → All P (x ∷ [])
one_of P x h = All-cons P x [] h (All-nil P)

abbrev Apart : Part → Part → Type 0
Apart a b = IsTrue (not (same_name a.name b.name))

apart : AllPairs Apart plan
apart =
    AllPairs-cons Apart bronze (silver ∷ shown ∷ []) (All-cons (Apart bronze) silver (shown ∷ []) refl (one_of (Apart bronze) shown refl))
    (AllPairs-cons Apart silver (shown ∷ []) (one_of (Apart silver) shown refl) (AllPairs-cons Apart shown [] (All-nil (Apart shown)) (λ i j d less inside. absurd (omega arith))))

bronze_sound : IsSoundBody plan bronze bronze.body
bronze_sound = record {
  each_flow = one_of (IsSoundFlow plan bronze) from_files (record { source = flags; reads = refl; gives = record { filter = refl; outputs = both_kinds } });
  expectations = refl;
}

silver_sound : IsSoundBody plan silver silver.body
silver_sound = record {
  each_flow = one_of (IsSoundFlow plan silver) from_bronze (record { source = flags; reads = refl; gives = record { filter = λ i. reads_is two_kinds 0 i && is_condition (sort_is 0 i); outputs = both_kinds } });
  expectations = λ i. is_boolean (b_kind i) && true;
}

shown_sound : IsSoundBody plan shown shown.body
shown_sound = record {
  source = flags;
  reads = refl;
  gives = record { filter = refl; group_kinds = []; groups = refl; items = both_kinds; no_plain = λ e. absurd (let never : ⊥ = cc in never) };
  expectations = refl;
}

sound : IsSoundPlan plan
sound = record {
  names_differ = apart;
  each_dataset =
      All-cons (λ dataset. IsSoundBody plan dataset dataset.body) bronze (silver ∷ shown ∷ []) bronze_sound
      (All-cons (λ dataset. IsSoundBody plan dataset dataset.body) silver (shown ∷ []) silver_sound (one_of (λ dataset. IsSoundBody plan dataset dataset.body) shown shown_sound));
}

is_of : (part : Part) → IsOf part (definition_of plan part)
is_of part = record { name = refl; text = refl; body = refl; columns = refl; expectations = refl; flows = refl; keys = refl }

low : 0 ≤ 1
low = omega arith

same : 1 ≤ 1
same = omega arith

below : 1 ≤ 2
below = omega arith

two_read : 0 < 8
two_read = omega arith

three_read : 0 < 12
three_read = omega arith

-- ---- after a first update

bronze_first : DatasetStands (files two_lines) at_first bronze bronze_at_first
bronze_first = record {
  is_of = is_of bronze;
  fills = record {
    reads = (((two_read, tt, tt), ((two_read, refl), tt)), tt);
    runs = (ap (append_stop from_files []) two_landed ∙ two_run, tt);
    content_is = λ a. ap (λ rows. count_of a (rows ++ [])) (sym (ap (append_out from_files []) two_landed ∙ two_out));
    counts_are = refl;
  };
}

silver_first : DatasetStands (files two_lines) at_first silver silver_at_first
silver_first = record {
  is_of = is_of silver;
  fills = record {
    reads = (((low, same), tt), tt);
    runs = (silver_runs, tt);
    content_is = λ a. ap (λ rows. count_of a (rows ++ [])) (sym silver_out);
    counts_are = sym (ap (λ rows. counts (must_be_b ∷ []) (rows ++ [])) silver_seen ∙ silver_counts);
  };
}

shown_first : DatasetStands (files two_lines) at_first shown shown_at_first
shown_first = record {
  is_of = is_of shown;
  fills = record {
    cursor = At 1;
    one_flow = refl;
    reads = (low, same);
    shows = record { result = one_row; gives = shown_is; content_is = λ a. refl; counts_are = refl };
  };
}

pub first_stands : Stands plan (files two_lines) at_first
first_stands = record { sound = sound; each = (bronze_first, (silver_first, (shown_first, tt))) }

-- ---- after a reset

bronze_empty : DatasetStands (files two_lines) once_reset bronze bronze_reset
bronze_empty = record {
  is_of = is_of bronze;
  fills = record { reads = ((tt, tt), tt); runs = (refl, tt); content_is = λ a. refl; counts_are = refl };
}

silver_empty : DatasetStands (files two_lines) once_reset silver silver_reset
silver_empty = record {
  is_of = is_of silver;
  fills = record { reads = (tt, tt); runs = (refl, tt); content_is = λ a. refl; counts_are = refl };
}

shown_stays : DatasetStands (files two_lines) once_reset shown shown_at_first
shown_stays = record {
  is_of = is_of shown;
  fills = record {
    cursor = At 1;
    one_flow = refl;
    reads = (low, below);
    shows = record { result = one_row; gives = shown_is; content_is = λ a. refl; counts_are = refl };
  };
}

pub reset_stands : Stands plan (files two_lines) once_reset
reset_stands = record { sound = sound; each = (bronze_empty, (silver_empty, (shown_stays, tt))) }

-- ---- after a third line

-- how often a row is the first of others
abbrev held : Row → Row → ℕ
held a x = cond (same_row a x) 1 0

count-cons : (a x : Row) (xs : List Row) → count_of a (x ∷ xs) ≡ held a x + count_of a xs
count-cons a x xs = sum_by-cons (held a) x xs

-- a bag is one, whichever of two rows comes first
swapped : (a x y z : Row) → count_of a (x ∷ y ∷ z ∷ []) ≡ count_of a (x ∷ z ∷ y ∷ [])
swapped a x y z =
    omega (arith, count-cons a x (y ∷ z ∷ []), count-cons a y (z ∷ []), count-cons a z [], count-cons a x (z ∷ y ∷ []), count-cons a z (y ∷ []), count-cons a y [])

bronze_third : DatasetStands (files three_lines) left_behind bronze bronze_later
bronze_third = record {
  is_of = is_of bronze;
  fills = record {
    reads = (((three_read, tt, tt), ((three_read, refl), tt)), tt);
    runs = (ap (append_stop from_files []) three_landed ∙ three_run, tt);
    content_is = λ a. swapped a (row false true) (row true false) (row true true) ∙ ap (λ rows. count_of a (rows ++ [])) (sym (ap (append_out from_files []) three_landed ∙ three_out));
    counts_are = refl;
  };
}

silver_behind : DatasetStands (files three_lines) left_behind silver silver_at_first
silver_behind = record {
  is_of = is_of silver;
  fills = record {
    reads = (((low, below), (refl, tt)), tt);
    runs = (silver_runs, tt);
    content_is = λ a. ap (λ rows. count_of a (rows ++ [])) (sym silver_out);
    counts_are = sym (ap (λ rows. counts (must_be_b ∷ []) (rows ++ [])) silver_seen ∙ silver_counts);
  };
}

shown_behind : DatasetStands (files three_lines) left_behind shown shown_at_first
shown_behind = record {
  is_of = is_of shown;
  fills = record {
    cursor = At 1;
    one_flow = refl;
    reads = (low, same);
    shows = record { result = one_row; gives = shown_is; content_is = λ a. refl; counts_are = refl };
  };
}

pub behind_stands : Stands plan (files three_lines) left_behind
behind_stands = record { sound = sound; each = (bronze_third, (silver_behind, (shown_behind, tt))) }
