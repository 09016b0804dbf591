-- What a disk in memory tells once a call was noted.
use Rattle.std.proofs.Common.{◌≡◌, ℕ, true, false, List, length, Result, Err, refl, ap, ◌∙◌}
use Rattle.disk_model.specs.declared.disk.Failed.{Failed}
use Rattle.disk_model.specs.declared.record.Call.{Call}
use Rattle.disk_model.specs.declared.record.Call.TheVariants.{Looked, Wrote, CutTo, Synced}
use Rattle.disk_model.specs.declared.tape.Tape.{Tape}
use Rattle.disk_model.specs.Disk.{TwoFiles, DiskState, IsUnchanged, Writes, Cuts, Ticks}
use Rattle.disk_model.specs.Record.{Holding, at_first, after, written, replay, IsMissed, Misses}
use Rattle.disk_model.specs.Tape.{tape_calls, tape_pieces, Notes}
use Rattle.disk_model.proofs.RecordLemmas.{recorded, state_of, noted, note_ticks, so_noted, honest_replay, looked, missed_write, missed_cut, still_writes, still_cuts}

-- what two files hold that were first so
abbrev pub held : TwoFiles → Tape → Holding
held files tape = replay (at_first files) (tape_calls tape) (tape_pieces tape)

abbrev pub taped : TwoFiles → Tape → DiskState
taped files tape = recorded (at_first files) (tape_calls tape) (tape_pieces tape)

pub is_honest : (files : TwoFiles) (tape : Tape) → (held files tape).may_leave (held files tape).now
is_honest files tape = honest_replay (at_first files) (tape_calls tape) (tape_pieces tape) refl

module _ (files : TwoFiles) (old new : Tape) (call : Call) (piece : List ℕ) (long : written call ≡ length piece) (notes : Notes call piece old new) where
  pub held_after : held files new ≡ after call piece (held files old)
  held_after = noted (at_first files) (tape_calls old) (tape_calls new) (tape_pieces old) (tape_pieces new) old.all_there call piece long notes.calls notes.pieces

  pub time : {T E : Type 0} (result : Result T E) → Ticks result (taped files old) (taped files new)
  time result = note_ticks (at_first files) (tape_calls old) (tape_calls new) (tape_pieces old) (tape_pieces new) old.all_there call piece long notes.calls notes.pieces result

  pub so : (P : DiskState → Type 0) → ((next : ℕ) (since : ℕ → TwoFiles → Type 0) → P (state_of (after call piece (held files old)) next since)) → P (taped files new)
  so P holds = so_noted (at_first files) (tape_calls old) (tape_calls new) (tape_pieces old) (tape_pieces new) old.all_there call piece long notes.calls notes.pieces P holds

missed_now : (call : Call) (piece : List ℕ) (holding : Holding) → IsMissed call → (after call piece holding).now ≡ holding.now
missed_now Looked piece holding is = refl
missed_now (Wrote side at len false) piece holding is = refl
missed_now (Wrote side at len true) piece holding is = absurd cc
missed_now (CutTo side to false) piece holding is = refl
missed_now (CutTo side to true) piece holding is = absurd cc
missed_now (Synced side) piece holding is = absurd is

pub missed_keeps : (files : TwoFiles) (old new : Tape) (call : Call) (piece : List ℕ) → written call ≡ length piece → Notes call piece old new → IsMissed call → (held files new).now ≡ (held files old).now
missed_keeps files old new call piece long notes is =
    ap (λ (h : Holding). h.now) (held_after files old new call piece long notes) ∙ missed_now call piece (held files old) is

pub missed : (files : TwoFiles) (old new : Tape) (call : Call) (piece : List ℕ) → written call ≡ length piece → Notes call piece old new → IsMissed call → (error : Failed) → Misses call piece error (taped files old) (taped files new)
missed files old new Looked piece long notes is error =
    so files old new Looked piece long notes (λ state. IsUnchanged (taped files old) state) (λ next since. looked (held files old) (is_honest files old) (length (tape_calls old)) next (taped files old).might_have_left since)
missed files old new (Wrote side at len false) piece long notes is error =
    so files old new (Wrote side at len false) piece long notes (λ state. Writes {T = Unit {0}} side at piece (Err error) (taped files old) state)
    (λ next since. missed_write (held files old) (is_honest files old) (length (tape_calls old)) next (taped files old).might_have_left since side at len piece error)
missed files old new (Wrote side at len true) piece long notes is error = absurd cc
missed files old new (CutTo side to false) piece long notes is error =
    so files old new (CutTo side to false) piece long notes (λ state. Cuts {T = Unit {0}} side to (Err error) (taped files old) state)
    (λ next since. missed_cut (held files old) (is_honest files old) (length (tape_calls old)) next (taped files old).might_have_left since side to piece error)
missed files old new (CutTo side to true) piece long notes is error = absurd cc
missed files old new (Synced side) piece long notes is error = absurd is

-- it failed and was not even noted
pub lost : (call : Call) (piece : List ℕ) (state : DiskState) → IsMissed call → (error : Failed) → Misses call piece error state state
lost Looked piece state is error = record { same = refl; no_more = λ files left. left; no_fewer = λ files left. left }
lost (Wrote side at len done) piece state is error = still_writes side at piece error state
lost (CutTo side to done) piece state is error = still_cuts side to error state
lost (Synced side) piece state is error = absurd is
