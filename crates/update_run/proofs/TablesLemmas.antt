-- The worked plan is sound.
use Rattle.std.proofs.Common.{◌≡◌, ℕ, zero, suc, List, [], ◌∷◌, Bool, true, cond, Option, Some, None, refl, sym, ◌∙◌, ap, subst, arith}
use Rattle.std.specs.Prelude.{All, AllPairs, IsTrue, not}
use Rattle.value_core.specs.declared.schema.Column.{Column}
use Rattle.value_core.specs.declared.value.Kind.{Kind}
use Rattle.value_core.specs.declared.value.Kind.TheVariants as kind
use Rattle.value_core.specs.NameFold.{same_name}
use Rattle.row_expr.specs.declared.expr.Expr.{fold-roll-Expr}
use Rattle.row_expr.specs.declared.expr.Expr.TheOpen as form
use Rattle.row_expr.specs.declared.expr.Expr.TheVariants as expr
use Rattle.row_expr.specs.declared.expr.Expr.TheVariants.{rolls-Column}
use Rattle.row_expr.specs.declared.sort.Sort.{Sort}
use Rattle.row_expr.specs.declared.sort.Sort.TheVariants.{Of}
use Rattle.row_expr.specs.Columns.{arm_reads_at, reads_at, reads_within}
use Rattle.row_expr.specs.Kinds.{arm_at, kind_in, sort_at, sort_of}
use Rattle.plan_core.specs.declared.flow.Origin.{Origin}
use Rattle.plan_core.specs.declared.flow.Origin.TheVariants as origin
use Rattle.plan_core.specs.declared.plan.Dataset.{Dataset as Part}
use Rattle.plan_core.specs.Sound.{IsSoundAppend, IsSoundBody, IsSoundFlow, IsSoundPlan, all_there, flow_columns, kind_over, kinds_of}
use Rattle.update_run.specs.TwoTables.{columns_a, flow_over, shape_a, table_t, table_u, two_tables}

-- ---- it is sound

kinds_a : List Kind
kinds_a = kind.Big ∷ []

-- `a` is typed over the columns
a_over : kind_over (kinds_of columns_a) (expr.Column 0 kind.Big) ≡ Some kind.Big
a_over =
    let within : reads_within (kinds_of columns_a) (expr.Column 0 kind.Big) ≡ true =
    ap (reads_within (kinds_of columns_a)) (sym (rolls-Column 0 kind.Big)) ∙ fold-roll-Expr Bool Bool (reads_at (kinds_of columns_a)) arm_reads_at (form.Column 0 kind.Big) in
    let sort : sort_of (expr.Column 0 kind.Big) ≡ Of kind.Big =
    ap sort_of (sym (rolls-Column 0 kind.Big)) ∙ fold-roll-Expr Sort (Sort × Sort) sort_at arm_at (form.Column 0 kind.Big) in
    ap (λ (inside : Bool). cond inside (kind_in (sort_of (expr.Column 0 kind.Big))) None) within ∙ ap kind_in sort

gives_a : (name : List ℕ) (from : Origin) → IsSoundAppend (kinds_of columns_a) (kinds_of columns_a) (flow_over name from)
gives_a name from = record { filter = refl; outputs = ap (λ (one : Option Kind). all_there (one ∷ [])) a_over }

all_one : {X : Type 0} (P : X → Type 0) (x : X) → P x → All P (x ∷ [])
all_one P x is zero d below = is
all_one P x is (suc i) d below = absurd (omega arith)

all_two : {X : Type 0} (P : X → Type 0) (x y : X) → P x → P y → All P (x ∷ y ∷ [])
all_two P x y is too zero d below = is
all_two P x y is too (suc zero) d below = too
all_two P x y is too (suc (suc i)) d below = absurd (omega arith)

sound_flow : (dataset : Part) (name : List ℕ) (from : Origin) → dataset.columns ≡ columns_a → flow_columns two_tables dataset.level from ≡ Some columns_a → IsSoundFlow two_tables dataset (flow_over name from)
sound_flow dataset name from columns reads = record {
  source = columns_a;
  reads = reads;
  gives = subst (λ (cs : List Column). IsSoundAppend (kinds_of columns_a) (kinds_of cs) (flow_over name from)) (sym columns) (gives_a name from);
}

pub is_sound : IsSoundPlan two_tables
is_sound = record {
  names_differ = differ;
  each_dataset = all_two (λ (dataset : Part). IsSoundBody two_tables dataset dataset.body) table_u table_t
      (record { each_flow = all_one (IsSoundFlow two_tables table_u) (flow_over (117 ∷ []) (origin.Table (116 ∷ []))) (sound_flow table_u (117 ∷ []) (origin.Table (116 ∷ [])) refl refl); expectations = refl })
      (record {
        each_flow = all_one (IsSoundFlow two_tables table_t) (flow_over (116 ∷ []) (origin.Files (105 ∷ 110 ∷ []) shape_a)) (sound_flow table_t (116 ∷ []) (origin.Files (105 ∷ 110 ∷ []) shape_a) refl refl);
        expectations = refl;
      });
} where
  differ : AllPairs (λ (a b : Part). IsTrue (not (same_name a.name b.name))) two_tables
  differ zero zero d below within = absurd (omega arith)
  differ zero (suc zero) d below within = refl
  differ zero (suc (suc j)) d below within = absurd (omega arith)
  differ (suc i) zero d below within = absurd (omega arith)
  differ (suc i) (suc zero) d below within = absurd (omega arith)
  differ (suc i) (suc (suc j)) d below within = absurd (omega arith)
