-- The images of one file that a crash leaves: what was written or cut since its last sync is old, new or filled.
use Rattle.std.specs.Prelude.{ℕ, ◌-◌, Bool, true, false, cond, List, [], ◌∷◌, length, take, drop, replicate}
use Rattle.disk_model.specs.declared.disk.Side.{Side}
use Rattle.disk_model.specs.declared.disk.Side.TheVariants.{Left, Right}
use Rattle.disk_model.specs.declared.record.Call.{Call}
use Rattle.disk_model.specs.declared.record.Call.TheVariants.{Looked, Wrote, CutTo, Synced}
use Rattle.disk_model.specs.declared.image.Pick.{Pick}
use Rattle.disk_model.specs.declared.image.Pick.TheVariants.{Old, New, Filled}
use Rattle.disk_model.specs.declared.image.Replay.{Replay}
use Rattle.disk_model.specs.Files.{written_over}
use Rattle.disk_model.specs.Record.{written}

-- one file as a read gives it, and as a crash leaves it
pub record Picture : Type 0 where
  pub now : List ℕ
  pub image : List ℕ

abbrev pub picture_of : Replay → Picture
picture_of replay = record { now = replay.now.items; image = replay.image.items }

-- what a write leaves in the image, done or not
abbrev pub image_written : Pick → ℕ → List ℕ → List ℕ → List ℕ
image_written Old at piece image = image
image_written New at piece image = written_over at piece image
image_written (Filled byte) at piece image = written_over at (replicate (length piece) byte) image

-- what a cut leaves in it
abbrev pub image_cut : Pick → ℕ → List ℕ → List ℕ
image_cut Old to image = image
image_cut New to image = take to image
image_cut (Filled byte) to image = written_over to (replicate (length image - to) byte) image

abbrev pub is_same : Side → Side → Bool
is_same Left Left = true
is_same Left Right = false
is_same Right Left = false
is_same Right Right = true

-- after a call; the piece is what a write wrote
abbrev pub picture_after : Side → Pick → Call → List ℕ → Picture → Picture
picture_after side pick Looked piece picture = picture
picture_after side pick (Wrote on at len done) piece picture =
    cond (is_same side on) (record { now = cond done (written_over at piece picture.now) picture.now; image = image_written pick at piece picture.image }) picture
picture_after side pick (CutTo on to done) piece picture =
    cond (is_same side on) (record { now = cond done (take to picture.now) picture.now; image = image_cut pick to picture.image }) picture
picture_after side pick (Synced on) piece picture = cond (is_same side on) (record { now = picture.now; image = picture.now }) picture

-- after these calls, whose pieces stand one behind the other
abbrev pub pictured : Side → Pick → Picture → List Call → List ℕ → Picture
pictured side pick picture [] pieces = picture
pictured side pick picture (call ∷ calls) pieces =
    pictured side pick (picture_after side pick call (take (written call) pieces) picture) calls (drop (written call) pieces)
