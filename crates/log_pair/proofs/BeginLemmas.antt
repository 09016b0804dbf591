-- What the making of the first log leaves of both files.
use Rattle.std.proofs.Common.{◌≡◌, ◌⊎◌, inl, inr, ℕ, ◌+◌, ◌<◌, ◌≤◌, ◌^◌, List, [], None, length, Result, Ok, Err, IsErr, ◌↔◌, refl, sym, ◌∙◌, ap, subst, arith}
use Rattle.std.proofs.lemmas.Bool.{false≢true}
use Rattle.disk_model.specs.declared.disk.Side.TheVariants.{Left, Right}
use Rattle.disk_model.specs.Disk.{TwoFiles, DiskState, Alone, IsOnDisk, file}
use Rattle.disk_model.specs.Moments.{LeavesOnly}
use Rattle.disk_model.proofs.RunLemmas.{started, weakens, joins}
use Rattle.commit_gate.specs.Log.{IsLive, IsDead}
use Rattle.commit_gate.specs.AtRest.{log_side, log_epoch, IsAtRest, LeavesFile}
use Rattle.commit_gate.specs.Shut.{IsSameOrUnfinished, Shuts, shut_calls}
use Rattle.commit_gate.specs.Fill.{IsUnfinished, IsUnfinishedOrFilled, filled_end, Fills, FillsByGate}
use Rattle.commit_gate.specs.declared.log.AppendEnd.{AppendEnd}
use Rattle.commit_gate.specs.declared.log.AppendEnd.TheVariants.{Full as NoRoom, Failed as AppendFailed}
use Rattle.commit_gate.specs.declared.log.Log.{Log}
use Rattle.commit_gate.proofs.LoadLemmas.{log_length}
use Rattle.commit_gate.proofs.RestLemmas.{leaves_on, shut_leaves, fill_leaves}
use Rattle.log_pair.specs.Pair.{IsUnbegun, HoldsIn, IsOlder}
use Rattle.log_pair.specs.Load.{IsKeptOrBegun, IsBegunAt, BeginAnswers, PairLoads, calls_before_first}
use Rattle.log_pair.specs.declared.refusal.PairRefusal.{PairRefusal}
use Rattle.log_pair.specs.declared.refusal.PairRefusal.TheVariants.{Foreign, Damaged, SameEpoch, Full, Failed, Memory}
use Rattle.log_pair.specs.Ends.{refusal_of_append}

new_end : filled_end 1 None ≡ 18
new_end = omega (arith, log_length 1 [])

unbegun_same : (was files : TwoFiles) → files.left ≡ was.left → files.right ≡ was.right → IsUnbegun was → IsUnbegun files
unbegun_same was files left right begun = record {
  dead = (subst IsDead (sym left) begun.dead.0, subst IsDead (sym right) begun.dead.1);
  left_short = omega (arith, ap length left, begun.left_short);
  right_short = omega (arith, ap length right, begun.right_short);
}

unfinished : (end : ℕ) (was files : TwoFiles) → end ≤ 18 → IsUnbegun was → files.right ≡ was.right → IsUnfinished end was.left files.left → IsUnbegun files
unfinished end was files short begun right is = record {
  dead = (is.dead, subst IsDead (sym right) begun.dead.1);
  left_short = omega (arith, is.no_longer, begun.left_short, short);
  right_short = omega (arith, ap length right, begun.right_short);
}

shut_unbegun : (was files : TwoFiles) → IsUnbegun was → Alone Left IsSameOrUnfinished was files → IsUnbegun files
shut_unbegun was files begun alone = elim alone.changed [
  | inl same ↦ unbegun_same was files same alone.kept begun
  | inr is ↦ unfinished 1 was files (omega arith) begun alone.kept is
]

fill_begun : (may_be_there : Type 0) (was files : TwoFiles) → IsUnbegun was → Alone Left (IsUnfinishedOrFilled may_be_there 1 None) was files → IsUnbegun files ⊎ (may_be_there × HoldsIn Left 1 [] files)
fill_begun may_be_there was files begun alone = elim alone.changed [
  | inl is ↦ inl (unfinished (filled_end 1 None) was files (omega (arith, new_end)) begun alone.kept is)
  | inr has ↦ inr (has.0, record { fits = omega arith; contents = has.1; older = λ number fits live. absurd (begun.dead.1 number (subst (λ b. IsLive number b) alone.kept live)) })
]

-- a new log that has room is not filled only where the disk fails
pub fill_refusal : (old room : ℕ) (end : AppendEnd) (result : Result Log AppendEnd) → result ≡ Err end → 18 ≤ room
    → (room < filled_end 1 None) ↔ (result ≡ Err (NoRoom (filled_end 1 None) room)) → ((at free : ℕ) → result ≡ Err (NoRoom at free) → (at ≡ filled_end 1 None) × (free ≡ room)) → BeginAnswers old (Err (refusal_of_append end))
fill_refusal old room (NoRoom at free) result is fits full full_by =
    let by = full_by at free is in
    let less = full.1 (is ∙ (λ i. Err (NoRoom (by.0 i) (by.1 i)))) in
    absurd (omega (arith, less, fits, new_end))
fill_refusal old room AppendFailed result is fits full full_by = tt

pub no_begin : (disk : DiskState) → PairLoads disk disk
no_begin disk = record { crash = λ files left. (files, left, inl refl); honesty = (λ honest. honest, λ honest. honest) }

module _ (old mid : DiskState) (begun : IsUnbegun old.now) (left_on : IsOnDisk Left old) (right_on : IsOnDisk Right old) where
  all_begun : (files : TwoFiles) → old.may_leave files → IsUnbegun files
  all_begun files left = unbegun_same old.now files (left_on files left) (right_on files left) begun

  module _ {T E : Type 0} (answer : Result T E) (shuts : Shuts Left answer old mid) where
    after_shut : (files : TwoFiles) → mid.may_leave files → (was : TwoFiles) × old.may_leave was × IsUnbegun was × (files.right ≡ was.right) × IsUnbegun files
    after_shut files left =
        let from = shuts.crash files left in
        let was = all_begun from.0 from.1 in
        (from.0, from.1, was, from.2.kept, shut_unbegun from.0 files was from.2)

    pub shut_loads : PairLoads old mid
    shut_loads = record {
      crash = λ files left. let from = after_shut files left in (from.0, from.1, inr (from.2, from.3, inl from.4));
      honesty = shuts.honesty;
    }

    pub shut_moments : LeavesOnly (λ _. Alone Left IsSameOrUnfinished) old mid → LeavesOnly (λ calls. IsKeptOrBegun (calls_before_first old.now < calls)) old mid
    shut_moments run =
        weakens (λ _. Alone Left IsSameOrUnfinished) (λ calls. IsKeptOrBegun (calls_before_first old.now < calls)) old mid run
        (λ k was files left alone. let first = all_begun was left in inr (first, alone.kept, inl (shut_unbegun was files first alone)))

    module _ {F : Type 0} (new : DiskState) (filled : Result Log F) (fills : Fills Left 1 None filled mid new) where
      pub fill_loads : PairLoads old new
      fill_loads = record {
        crash = λ files left.
            let second = fills.crash files left in
            let from = after_shut second.0 second.1 in
            (from.0, from.1, inr (from.2, second.2.kept ∙ from.3, fill_begun (Unit {0}) second.0 files from.4 second.2));
        honesty = (λ was. fills.honesty.0 (shuts.honesty.0 was), λ is. shuts.honesty.1 (fills.honesty.1 is));
      }

      pub fill_moments : mid.moment ≡ old.moment + shut_calls old.now.left → LeavesOnly (λ _. Alone Left IsSameOrUnfinished) old mid → FillsByGate Left 1 None filled mid new
          → LeavesOnly (λ calls. IsKeptOrBegun (calls_before_first old.now < calls)) old new
      fill_moments shut run fill =
          joins (λ calls. IsKeptOrBegun (calls_before_first old.now < calls)) (λ calls. Alone Left (IsUnfinishedOrFilled (3 < calls) 1 None)) (λ calls. IsKeptOrBegun (calls_before_first old.now < calls)) old mid new (shut_moments run) fill.leaves
          (λ k was files left keeps. keeps)
          (λ j k was files at some left alone.
          let from = after_shut was left in
          (from.0, from.1, inr (from.2, alone.kept ∙ from.3, late j k at files (fill_begun (3 < k) was files from.4 alone))))
        where
          late : (j k : ℕ) → mid.moment ≡ old.moment + j → (files : TwoFiles) → IsUnbegun files ⊎ ((3 < k) × HoldsIn Left 1 [] files) → IsUnbegun files ⊎ ((calls_before_first old.now < j + k) × HoldsIn Left 1 [] files)
          late j k at files (inl still) = inl still
          late j k at files (inr log) = inr (omega (arith, at, shut, log.0), log.1)

      keeps_right : LeavesFile Right old new
      keeps_right = leaves_on Right old mid new (shut_leaves Left answer old mid shuts) (fill_leaves Left 1 None filled mid new fills)

      pub begun_at : (log : Log) → log_side log ≡ Left → log_epoch log ≡ 1 → IsAtRest log [] new → IsBegunAt log new
      begun_at log in_left first at_rest = record {
        in_left = in_left;
        first = first;
        at_rest = at_rest;
        older = λ number fits live. absurd (begun.dead.1 number (subst (λ b. IsLive number b) keeps_right.now live));
        durable = λ files left. let from = keeps_right.crash files left in from.2 ∙ right_on from.0 from.1 ∙ sym keeps_right.now;
      }

-- where there is room, nothing but the disk refuses a new log
pub only_failed : (P : Type 0) (room : ℕ) (result : Result Log PairRefusal) → 18 ≤ room → BeginAnswers room result → IsErr result → (result ≡ Err Failed → ⊥) → P
only_failed P room (Ok log) fits answers error other = absurd (false≢true error)
only_failed P room (Err (Full end free)) fits answers error other = absurd (omega (arith, fits, answers.0))
only_failed P room (Err Failed) fits answers error other = absurd (other refl)
only_failed P room (Err (Foreign side len)) fits answers error other = absurd answers
only_failed P room (Err (Damaged side at)) fits answers error other = absurd answers
only_failed P room (Err (SameEpoch epoch)) fits answers error other = absurd answers
only_failed P room (Err Memory) fits answers error other = absurd answers
