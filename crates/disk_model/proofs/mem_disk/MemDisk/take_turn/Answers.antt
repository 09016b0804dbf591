use Rattle.std.proofs.Common.{Result, Ok, Err, IfErr, ◌∙◌, sym}
use Rattle.disk_model.specs.declared.disk.Failed.{Failed}
use Rattle.disk_model.specs.Disk.{Ticks}
use Rattle.disk_model.specs.MemDisk.{first_files}
use Rattle.disk_model.specs.Record.{Misses}
use Rattle.disk_model.proofs.NoteLemmas.{taped, time, missed, missed_keeps}
use Rattle.disk_model.proofs.mem_disk.MemDisk.take_turn.Goals as goal

fails : {T : Type 0} (result : Result T Failed) (P : Failed → Type 0) → ((error : Failed) → P error) → IfErr result P
fails (Ok x) P holds = tt
fails (Err error) P holds = holds error

pub invariant_of-self-2 : goal.invariant_of-self-2
invariant_of-self-2 c =
    let disk = c.args.self.now in
    record { are = disk.are ∙ sym (missed_keeps (first_files disk) disk.tape c.note.new.self c.args.missed c.args.piece.now c.requires.piece c.note.ensures c.requires.missed) }

pub returns-clause-err : goal.returns-clause-err
returns-clause-err c =
    let disk = c.args.self.now in
    fails c.turn_if-turn.result (λ error. Misses c.args.missed c.args.piece.now error (taped (first_files disk) disk.tape) (taped (first_files disk) c.note.new.self))
    (missed (first_files disk) disk.tape c.note.new.self c.args.missed c.args.piece.now c.requires.piece c.note.ensures c.requires.missed)

pub returns-clause-time : goal.returns-clause-time
returns-clause-time c =
    let disk = c.args.self.now in
    fails c.turn_if-turn.result (λ error. Ticks {T = Unit {0}} (Err error) (taped (first_files disk) disk.tape) (taped (first_files disk) c.note.new.self))
    (λ error. time (first_files disk) disk.tape c.note.new.self c.args.missed c.args.piece.now c.requires.piece c.note.ensures (Err error))
