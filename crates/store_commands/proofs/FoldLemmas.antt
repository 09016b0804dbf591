-- What a compaction comes to.
use Rattle.std.proofs.Common.{◌≡◌, inl, inr, ℕ, ◌<◌, List, [], Bool, None, Result, Ok, Err, refl, ap, subst}
use Rattle.log_pair.specs.AtRest.{pair_epoch}
use Rattle.commit_payloads.specs.declared.payload.Payload.{Payload}
use Rattle.pair_store.specs.Compact.{CompactAnswers, MayCompact, base_of}
use Rattle.pair_store.specs.Store.{store_broken, store_pair, store_state}
use Rattle.pair_store.specs.declared.ends.CommitEnd.{CommitEnd}
use Rattle.pair_store.specs.declared.ends.CommitEnd.TheVariants as commit
use Rattle.pair_store.specs.declared.store.Store.{Store}
use Rattle.commit_trails.specs.Trails.{acked_by, tried_by}
use Rattle.message_text.specs.Messages.{compacted_line}
use Rattle.message_text.specs.declared.refusal.Refusal.{Refusal}
use Rattle.message_text.specs.declared.refusal.Refusal.TheVariants as why
use Rattle.command_ends.specs.Loads.{HasTold}
use Rattle.store_commands.specs.Commands.{Folds, MayFold}
use Rattle.store_commands.specs.Folding.{ending_over, refusal_by}

-- what was acknowledged and tried of a compaction that ended so
abbrev pub acked_at : Store → Result ℕ CommitEnd → List Payload
acked_at store result = acked_by (base_of (store_state store)) result

abbrev pub tried_at : Store → Result ℕ CommitEnd → List Payload
tried_at store result = tried_by (base_of (store_state store)) result

module _ (store : Store) (room before after : ℕ) (whole : store_broken store ≡ None) where
  abbrev FoldsSo : Result Bool Refusal → Result ℕ CommitEnd → List ℕ → Type 0
  FoldsSo answer result text = Folds room (store_state store) (pair_epoch (store_pair store)) (ending_over answer (store_state store) (acked_at store result) (tried_at store result) text)

  may_fold : MayCompact store room → MayFold room (store_state store) (pair_epoch (store_pair store))
  may_fold may = record { epochs = may.epochs; short = may.short }

  -- it was folded, and told or not
  pub folds_told : (epoch : ℕ) (answer : Result Bool Refusal) → CompactAnswers store room before after (Ok epoch) → HasTold answer → FoldsSo answer (Ok epoch) (compacted_line epoch)
  folds_told epoch answer answers told = inr (inr (inr (inr (record { may = may_fold answers.0; told = told; acked_is = refl; tried_is = refl; text_is = ap compacted_line answers.2 }))))

  -- it wasn't, or the disk failed
  pub folds_ended : (end : CommitEnd) → CompactAnswers store room before after (Err end) → FoldsSo (Err (refusal_by end)) (Err end) []
  folds_ended (commit.Failed count) (inl broken) = absurd (cc (broken, whole))
  folds_ended (commit.Failed count) (inr (may, rose, is)) = inr (inr (inr (inl (record { may = may_fold may; count = count; answer_is = refl; acked_is = refl; tried_is = refl; text_is = refl }))))
  folds_ended (commit.Full end free) (none, epochs, long, end_is, free_is) =
      inr (inl (record {
        epochs = epochs;
        long = subst (λ e. room < e) end_is long;
        breaks = record { answer_is = λ i. Err (why.Uncommitted (commit.Full (end_is i) (free_is i))); acked_is = refl; tried_is = refl; text_is = refl };
      }))
  folds_ended (commit.VersionFull name) answers = absurd answers
  folds_ended (commit.EpochFull epoch) (none, last, is) = inl (record { last = last; breaks = record { answer_is = ap (λ e. Err (why.Uncommitted (commit.EpochFull e))) is; acked_is = refl; tried_is = refl; text_is = refl } })
  folds_ended commit.Memory answers = inr (inr (inl (record { answer_is = refl; acked_is = refl; tried_is = refl; text_is = refl })))
