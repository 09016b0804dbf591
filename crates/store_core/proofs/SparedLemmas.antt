-- What a load leaves alone, and how a log goes on.
use Rattle.std.proofs.Common.{◌≡◌, ◌⊎◌, inl, inr, ⊎_elim, ◌↔◌, ℕ, ◌+◌, ◌<◌, ◌≤◌, ◌^◌, List, [], ◌∷◌, ◌++◌, length, take, drop, None, Result, Ok, Err, refl, sym, ◌∙◌, ap, subst, arith, append_assoc, length-append, take-append-drop}
use Rattle.std.proofs.lemmas.List.{take-take, take_at}
use Rattle.disk_model.specs.declared.disk.Side.{Side}
use Rattle.disk_model.specs.declared.disk.Side.TheVariants.{Left, Right}
use Rattle.disk_model.specs.Disk.{TwoFiles, DiskState, Alone, IsHonest, file}
use Rattle.disk_model.specs.Moments.{LeavesOnly}
use Rattle.disk_model.proofs.RunLemmas.{started, weakens, joins}
use Rattle.commit_gate.specs.AtRest.{log_side, log_epoch, log_end, IsAtRest, Appends, AppendsByGate}
use Rattle.commit_gate.specs.Fill.{filled_end}
use Rattle.commit_gate.specs.Head.{IsUntouched, Same}
use Rattle.commit_gate.specs.Log.{open_gate, framed, title, records, log_bytes, HasBodies, HasBodiesOrOneMore, IsDead, IsLive}
use Rattle.commit_gate.specs.declared.log.AppendEnd.{AppendEnd}
use Rattle.commit_gate.specs.declared.log.AppendEnd.TheVariants.{Full as NoRoom, Failed as AppendFailed}
use Rattle.commit_gate.specs.declared.log.Log.{Log}
use Rattle.commit_gate.proofs.GateLemmas.{log_bytes-push}
use Rattle.commit_gate.proofs.UniqueLemmas.{bodies_live}
use Rattle.store_core.specs.Load.{LoadAnswers}
use Rattle.store_core.specs.Reach.{IsLogEnd}
use Rattle.store_core.specs.Refusals.{refusal_of_append}
use Rattle.store_core.specs.Spared.{MayBegin, IsRefusedFile, IsSpared, GoesOn, IsSameOrGoesOn, LogGoesOn}
use Rattle.store_core.specs.State.{IsBegun}
use Rattle.store_core.specs.Store.{store_state, store_log, IsAsLeft}
use Rattle.store_core.specs.declared.store.Store.{Store}
use Rattle.store_core.specs.declared.refusal.StoreRefusal.TheVariants.{Failed}
use Rattle.store_core.proofs.BeginLemmas.{new_end}
use Rattle.store_core.proofs.CommitLemmas.{on_side}
use Rattle.store_core.proofs.StateLemmas.{not_foreign, not_refused, refused_not_dead}

-- ---- which files are spared

pub refused_spared : (room : ℕ) (bytes : List ℕ) → IsRefusedFile room bytes → MayBegin room bytes → ⊥
refused_spared room bytes (inl foreign) may = omega (arith, foreign.1.1, may.0.1)
refused_spared room bytes (inr (inl damaged)) may = refused_not_dead damaged.0 bytes damaged.1 may.0.0
refused_spared room bytes (inr (inr full)) may = omega (arith, full.1, may.1)

pub live_spared : (room epoch : ℕ) (bytes : List ℕ) → IsLive epoch bytes → MayBegin room bytes → ⊥
live_spared room epoch bytes live may = may.0.0 epoch live

-- a file that is loaded is not refused
pub loaded_not_refused : (room : ℕ) (bytes : List ℕ) (store : Store) → LoadAnswers room bytes (Ok store) → length bytes ≤ 2 ^ 40 → IsRefusedFile room bytes → ⊥
loaded_not_refused room bytes store answers small (inl foreign) = not_foreign foreign.0 bytes (store_state store) answers.0 foreign.1
loaded_not_refused room bytes store answers small (inr (inl damaged)) = not_refused damaged.0 bytes (store_state store) (omega (arith, small)) answers.0 damaged.1
loaded_not_refused room bytes store answers small (inr (inr full)) = let enough = answers.1 full.0 in omega (arith, enough, full.1)

up_to : (k n : ℕ) → (k ≤ n) ⊎ (n < k)
up_to k n = grind arith

-- where no log may be made, the file is long or its room is short
pub left_alone : (room len : ℕ) (bytes : List ℕ) → IsDead bytes → len ≡ length bytes → (MayBegin room bytes → ⊥) → (18 < len) ⊎ (room < 18)
left_alone room len bytes dead long never = ⊎_elim
    (λ fits. ⊎_elim (λ enough. absurd (never ((dead, omega (arith, long, fits)), enough))) (λ less. inr less) (up_to 18 room))
    (λ longer. inl longer)
    (up_to len 18)

-- a new log that has room is not filled only where the disk fails
pub fill_failed : (room : ℕ) (end : AppendEnd) (result : Result Log AppendEnd) → result ≡ Err end → 18 ≤ room
    → (room < filled_end 1 None) ↔ (result ≡ Err (NoRoom (filled_end 1 None) room)) → ((at free : ℕ) → result ≡ Err (NoRoom at free) → (at ≡ filled_end 1 None) × (free ≡ room)) → refusal_of_append end ≡ Failed
fill_failed room (NoRoom at free) result is fits full full_by =
    let by = full_by at free is in
    let less = full.1 (is ∙ (λ i. Err (NoRoom (by.0 i) (by.1 i)))) in
    absurd (omega (arith, less, fits, new_end))
fill_failed room AppendFailed result is fits full full_by = refl

-- a read, and then nothing
pub spared : (timed : Type 0) (old mid new : DiskState) → IsUntouched old mid → (timed → LeavesOnly Same old mid) → new ≡ mid → IsSpared timed old new
spared timed old mid new untouched each same = subst (IsSpared timed old) (sym same) (record { untouched = untouched; each = each })

-- ---- a log goes on

longer_than : (at : ℕ) (start : List ℕ) (next : ℕ) (rest bytes : List ℕ) → at ≡ length start → bytes ≡ start ++ next ∷ rest → at < length bytes
longer_than at start next rest bytes is whole = omega (arith, is, ap (λ (l : List ℕ). length l) whole, length-append start (next ∷ rest))

within : (epoch at : ℕ) (bodies : List (List ℕ)) (bytes : List ℕ) → at ≡ length (log_bytes epoch bodies) → HasBodies epoch bodies bytes → at < length bytes
within epoch at bodies bytes is has = longer_than at (log_bytes epoch bodies) has.gate has.rest bytes is has.whole

starts_with : (at : ℕ) (start behind bytes : List ℕ) → at ≡ length start → bytes ≡ start ++ behind → take at bytes ≡ start
starts_with at start behind bytes is whole = ap (λ (l : List ℕ). take at l) whole ∙ take_at start behind at (sym is)

front : (epoch at : ℕ) (bodies : List (List ℕ)) (bytes : List ℕ) → at ≡ length (log_bytes epoch bodies) → HasBodies epoch bodies bytes → take at bytes ≡ log_bytes epoch bodies
front epoch at bodies bytes is has = starts_with at (log_bytes epoch bodies) (has.gate ∷ has.rest) bytes is has.whole

-- with one body more
longer : (epoch at : ℕ) (bodies : List (List ℕ)) (body bytes : List ℕ) → at ≡ length (log_bytes epoch bodies) → HasBodies epoch (bodies ++ body ∷ []) bytes → (take at bytes ≡ log_bytes epoch bodies) × (at < length bytes)
longer epoch at bodies body bytes is has =
    let behind : List ℕ = framed body ++ has.gate ∷ has.rest in
    let whole : bytes ≡ log_bytes epoch bodies ++ open_gate ∷ behind =
    has.whole ∙ ap (λ (l : List ℕ). l ++ has.gate ∷ has.rest) (log_bytes-push epoch bodies body) ∙ append_assoc (log_bytes epoch bodies) (open_gate ∷ framed body) (has.gate ∷ has.rest) in
    (starts_with at (log_bytes epoch bodies) (open_gate ∷ behind) bytes is whole, longer_than at (log_bytes epoch bodies) open_gate behind bytes is whole)

-- an image of an append
pub image_goes_on : (may_be_there : Type 0) (epoch at : ℕ) (bodies : List (List ℕ)) (body bytes image : List ℕ) → at ≡ length (log_bytes epoch bodies) → HasBodies epoch bodies bytes
    → HasBodiesOrOneMore may_be_there epoch bodies body image → GoesOn at bytes image
image_goes_on may_be_there epoch at bodies body bytes image is has (inl same) =
    record { front = front epoch at bodies image is same ∙ sym (front epoch at bodies bytes is has); behind = within epoch at bodies image is same }
image_goes_on may_be_there epoch at bodies body bytes image is has (inr more) =
    let both = longer epoch at bodies body image is more.1 in
    record { front = both.0 ∙ sym (front epoch at bodies bytes is has); behind = both.1 }

pub log_within : (at : ℕ) (bytes : List ℕ) → IsLogEnd at bytes → at < length bytes
log_within at bytes log = within log.epoch at log.bodies bytes log.place log.contents

pub log_spared : (room at : ℕ) (bytes : List ℕ) → IsLogEnd at bytes → MayBegin room bytes → ⊥
log_spared room at bytes log may = may.0.0 log.epoch (bodies_live log.epoch log.bodies bytes log.contents)

-- a log that goes on keeps its number
pub keeps_epoch : (at : ℕ) (bytes image : List ℕ) → (log : IsLogEnd at bytes) → GoesOn at bytes image → IsLive log.epoch image
keeps_epoch at bytes image log goes =
    let all = log_bytes log.epoch log.bodies in
    let behind = drop at image in
    let rest = records log.bodies ++ behind in
    let start : take at image ≡ all = goes.front ∙ front log.epoch at log.bodies bytes log.place log.contents in
    let parts : take at image ++ behind ≡ image = take-append-drop at image in
    let long : length (take at image) + length behind ≡ length image = sym (length-append (take at image) behind) ∙ ap (λ (l : List ℕ). length l) parts in
    let short : length (take at image) ≡ at = ap (λ (l : List ℕ). length l) start ∙ sym log.place in
    record {
      rest = rest;
      whole = sym parts ∙ ap (λ (l : List ℕ). l ++ behind) start ∙ append_assoc (open_gate ∷ title log.epoch) (records log.bodies) behind;
      longer = omega (arith, long, short, goes.behind, length-append (records log.bodies) behind);
    }

-- ---- over the calls of a disk

same_or : (at : ℕ) (bytes : List ℕ) (files was : TwoFiles) → files ≡ was → Alone Left (IsSameOrGoesOn at bytes) was files
same_or at bytes files was same = record { changed = inl (ap (file Left) same); kept = ap (file Right) same }

-- what was only read
pub spared_goes_on : (timed : Type 0) (at : ℕ) (old new : DiskState) → at < length (file Left old.now) → IsSpared timed old new → LogGoesOn timed at old new
spared_goes_on timed at old new behind spares =
    let bytes = file Left old.now in
    let same = ap (file Left) spares.untouched.same in
    record {
      reads = record { front = ap (λ (l : List ℕ). take at l) same; behind = subst (λ (l : List ℕ). at < length l) (sym same) behind };
      crash = λ files left. (files, spares.untouched.no_more files left, same_or at bytes files files refl);
      each = λ told. weakens Same (λ _. Alone Left (IsSameOrGoesOn at bytes)) old new (spares.each told) (λ k was files left is. same_or at bytes files was is);
    }

-- no call
pub still_goes_on : (timed : Type 0) (at : ℕ) (disk : DiskState) → at < length (file Left disk.now) → LogGoesOn timed at disk disk
still_goes_on timed at disk behind =
    let bytes = file Left disk.now in
    record {
      reads = record { front = refl; behind = behind };
      crash = λ files left. (files, left, same_or at bytes files files refl);
      each = λ told. started (λ _. Alone Left (IsSameOrGoesOn at bytes)) disk (λ files left. (files, left, same_or at bytes files files refl));
    }

-- where the log of a store ends in its file
pub end_within : (store : Store) (disk : DiskState) → IsAsLeft store disk → log_end (store_log store) < length (file Left disk.now)
end_within store disk left =
    let log = store_log store in
    subst (λ s. log_end log < length (file s disk.now)) left.side (within (log_epoch log) (log_end log) left.bodies (file (log_side log) disk.now) left.at_rest.end left.at_rest.contents)

-- one after the other
goes_on_again : (at later : ℕ) (bytes mid image : List ℕ) → at ≤ later → GoesOn at bytes mid → GoesOn later mid image → GoesOn at bytes image
goes_on_again at later bytes mid image le one two = record {
  front = sym (take-take at later image le) ∙ ap (λ (l : List ℕ). take at l) two.front ∙ take-take at later mid le ∙ one.front;
  behind = omega (arith, le, two.behind);
}

both_go_on : (at later : ℕ) (bytes mid : List ℕ) (first was files : TwoFiles) → at ≤ later → GoesOn at bytes mid → Alone Left (IsSameOrGoesOn at bytes) first was → Alone Left (IsSameOrGoesOn later mid) was files
    → Alone Left (IsSameOrGoesOn at bytes) first files
both_go_on at later bytes mid first was files le reads one two = record {
  changed = ⊎_elim
      (λ same. subst (λ (l : List ℕ). IsSameOrGoesOn at bytes (file Left first) l) (sym same) one.changed)
      (λ goes. inr (goes_on_again at later bytes mid (file Left files) le reads goes))
      two.changed;
  kept = two.kept ∙ one.kept;
}

pub goes_on_on : (timed : Type 0) (at later : ℕ) (old mid new : DiskState) → at ≤ later → LogGoesOn timed at old mid → LogGoesOn timed later mid new → LogGoesOn timed at old new
goes_on_on timed at later old mid new le one two =
    let bytes = file Left old.now in
    let there = file Left mid.now in
    record {
      reads = goes_on_again at later bytes there (file Left new.now) le one.reads two.reads;
      crash = λ files left.
          let from = two.crash files left in
          let first = one.crash from.0 from.1 in
          (first.0, first.1, both_go_on at later bytes there first.0 from.0 files le one.reads first.2 from.2);
      each = λ told.
          joins (λ _. Alone Left (IsSameOrGoesOn at bytes)) (λ _. Alone Left (IsSameOrGoesOn later there)) (λ _. Alone Left (IsSameOrGoesOn at bytes)) old mid new (one.each told) (two.each told)
          (λ k was files left goes. goes)
          (λ j k was files at_mid some left goes.
          let first = one.crash was left in
          (first.0, first.1, both_go_on at later bytes there first.0 was files le one.reads first.2 goes));
    }

-- an append of a body
module _ (log : Log) (bodies : List (List ℕ)) (body : List ℕ) (old : DiskState) (side : log_side log ≡ Left) (rest : IsAtRest log bodies old) where
  has : HasBodies (log_epoch log) bodies (file Left old.now)
  has = subst (λ s. HasBodies (log_epoch log) bodies (file s old.now)) side rest.contents

  image : (may_be_there : Type 0) (was files : TwoFiles) → Alone (log_side log) (λ _ bytes. HasBodiesOrOneMore may_be_there (log_epoch log) bodies body bytes) was files
      → Alone Left (λ _ bytes. GoesOn (log_end log) (file Left old.now) bytes) was files
  image may_be_there was files alone =
      on_side (log_side log) Left _ _ was files side (λ a b held. image_goes_on may_be_there (log_epoch log) (log_end log) bodies body (file Left old.now) b rest.end has held) alone

  later_image : (was files : TwoFiles) → Alone Left (λ _ bytes. GoesOn (log_end log) (file Left old.now) bytes) was files → Alone Left (IsSameOrGoesOn (log_end log) (file Left old.now)) was files
  later_image was files alone = record { changed = inr alone.changed; kept = alone.kept }

  pub append_goes_on : {T E : Type 0} (timed : Type 0) (later : Log) (answer : Result T E) (new : DiskState) → IsHonest old → Appends log later bodies body answer old new → (timed → AppendsByGate log bodies body answer old new)
      → LogGoesOn timed (log_end log) old new
  append_goes_on timed later answer new honest appends by_gate = record {
    reads = let from = appends.crash new.now (appends.honesty.0 honest) in (image (Unit {0}) from.0 new.now from.2).changed;
    crash = λ files left. let from = appends.crash files left in (from.0, from.1, later_image from.0 files (image (Unit {0}) from.0 files from.2));
    each = λ told.
        weakens (λ calls. Alone (log_side log) (λ _ bytes. HasBodiesOrOneMore (2 < calls) (log_epoch log) bodies body bytes)) (λ _. Alone Left (IsSameOrGoesOn (log_end log) (file Left old.now))) old new (by_gate told).leaves
        (λ k was files left alone. later_image was files (image (2 < k) was files alone));
  }
