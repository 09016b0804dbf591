-- What a command comes to, from the load of its store and what it did behind it.
use Rattle.std.proofs.Common.{◌≡◌, inl, inr, ℕ, List, [], Bool, Result, Err, refl, sym, subst}
use Rattle.std.proofs.lemmas.List.{append-nil}
use Rattle.disk_model.specs.Disk.{DiskState, TwoFiles}
use Rattle.commit_payloads.specs.declared.payload.Payload.{Payload}
use Rattle.state_model.specs.Dataset.{State}
use Rattle.pair_store.specs.declared.refusal.StoreRefusal.{StoreRefusal}
use Rattle.commit_trails.specs.Stints.{idle}
use Rattle.commit_trails.specs.Trails.{LoadedTrail, UnloadedTrail}
use Rattle.message_text.specs.declared.refusal.Refusal.{Refusal}
use Rattle.message_text.specs.declared.refusal.Refusal.TheVariants as why
use Rattle.command_ends.specs.Ends.{Ending, HasCome, Printed, status_by}
use Rattle.command_ends.specs.Loads.{IsLoaded, IsNotLoaded, Loads}
use Rattle.store_commands.specs.Folding.{ending_over}

-- nothing was printed
pub none_printed : (answer : Result Bool Refusal) (was : List ℕ) → Printed (status_by answer) [] was was
none_printed answer was = inl (sym (append-nil was))

-- nothing of a text was printed, for want of memory
pub none_of_it : (text was : List ℕ) → Printed (status_by (Err why.Memory)) text was was
none_of_it text was = inr (tt, 0, sym (append-nil was))

-- ---- a store is refused

-- why a load is refused
abbrev pub IsUnloaded : ℕ → TwoFiles → Refusal → Type 0
IsUnloaded room files end = (refusal : StoreRefusal) × (end ≡ why.Unloaded refusal) × IsNotLoaded room files refusal

module _ (timed told : Type 0) (room : ℕ) (Goes : State → ℕ → ℕ → Ending → Type 0) (old new : DiskState) (was now : List ℕ) where
  refused : (refusal : StoreRefusal) → IsNotLoaded room old.now refusal → UnloadedTrail timed old new → HasCome timed told (Loads room old.now Goes) (Err (why.Unloaded refusal)) old new was was
  refused refusal cause trail = record {
    ending = record { answer = Err (why.Unloaded refusal); stint = idle; text = [] };
    is = inl (record { refusal = refusal; cause = cause; ending_is = refl });
    answer_is = refl;
    trail = (refl, refl, trail);
    printed = λ t. none_printed (Err (why.Unloaded refusal)) was;
  }

  pub comes_refused : (end : Refusal) → IsUnloaded room old.now end → UnloadedTrail timed old new → HasCome timed told (Loads room old.now Goes) (Err end) old new was was
  comes_refused end (refusal, is, cause) trail = subst (λ (e : Refusal). HasCome timed told (Loads room old.now Goes) (Err e) old new was was) (sym is) (refused refusal cause trail)

  -- ---- a store is loaded

  pub comes_loaded : (state : State) (end epoch : ℕ) (answer : Result Bool Refusal) (acked tried : List Payload) (text : List ℕ) → IsLoaded room old.now state end epoch → LoadedTrail timed state acked tried old new
      → Goes state end epoch (ending_over answer state acked tried text) → (told → Printed (status_by answer) text was now) → HasCome timed told (Loads room old.now Goes) answer old new was now
  comes_loaded state end epoch answer acked tried text loaded trail goes printed = record {
    ending = ending_over answer state acked tried text;
    is = inr (record { state = state; end = end; epoch = epoch; loaded = loaded; over = refl; goes = goes });
    answer_is = refl;
    trail = trail;
    printed = printed;
  }
