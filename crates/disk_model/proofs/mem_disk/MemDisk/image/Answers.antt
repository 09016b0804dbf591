use Rattle.std.proofs.Common.{rules, ◌≡◌, ℕ, List, take, Result, Ok, Err, IfOk, sym, subst}
use Rattle.disk_model.specs.declared.image.Pick.{Pick}
use Rattle.disk_model.specs.Disk.{left_at, other}
use Rattle.disk_model.specs.Files.{both}
use Rattle.disk_model.specs.MemDisk.{first_files, mem_state, image_at}
use Rattle.disk_model.specs.Record.{at_first}
use Rattle.disk_model.specs.Tape.{tape_calls, tape_pieces}
use Rattle.disk_model.proofs.ImageLemmas.{images_leave}
use Rattle.disk_model.proofs.RecordLemmas.{left_is}
use Rattle.disk_model.proofs.mem_disk.MemDisk.image.Goals as goal

so_ok : {V E : Type 0} (items : V → List ℕ) (result : Result V E) (want : List ℕ) (P : List ℕ → Type 0) → P want → IfOk result (λ v. items v ≡ want) → IfOk result (λ v. P (items v))
so_ok items (Ok v) want P holds is = subst P (sym is) holds
so_ok items (Err e) want P holds is = tt

pub returns-clause-leaves : goal.returns-clause-leaves
returns-clause-leaves c =
    let disk = c.args.self.now in
    let k = c.args.moment in
    let side = c.args.side in
    let is : IfOk c.image_after.result (λ bytes. bytes.items ≡ image_at disk k side c.args.pick) = search rules in
    so_ok (λ bytes. bytes.items) c.image_after.result (image_at disk k side c.args.pick)
    (λ bytes. (pick_other : Pick) → left_at (mem_state disk) k (both side bytes (image_at disk k (other side) pick_other)))
    (λ pick_other. (left_is (at_first (first_files disk)) (tape_calls disk.tape) (tape_pieces disk.tape) k (both side (image_at disk k side c.args.pick) (image_at disk k (other side) pick_other)) c.requires).1
    (images_leave side c.args.pick pick_other (first_files disk) (take k (tape_calls disk.tape)) (tape_pieces disk.tape)))
    is
