-- Images of both files, each picked by itself, are what a crash may leave.
use Rattle.std.proofs.Common.{◌≡◌, ◌⊎◌, inr, ℕ, ◌+◌, ◌-◌, ◌≤◌, min, true, false, List, [], ◌∷◌, ◌++◌, length, take, drop, replicate, refl, sym, ◌∙◌, ap, arith, append_assoc, length-append, length-drop, length-take, ⊎_elim}
use Rattle.std.proofs.lemmas.List.{take_at, drop_at, take_all, drop_all, take-take, length-replicate}
use Rattle.disk_model.specs.declared.disk.Side.{Side}
use Rattle.disk_model.specs.declared.disk.Side.TheVariants.{Left, Right}
use Rattle.disk_model.specs.declared.record.Call.{Call}
use Rattle.disk_model.specs.declared.record.Call.TheVariants.{Looked, Wrote, CutTo, Synced}
use Rattle.disk_model.specs.declared.image.Pick.{Pick}
use Rattle.disk_model.specs.declared.image.Pick.TheVariants.{Old, New, Filled}
use Rattle.disk_model.specs.Disk.{TwoFiles, Alone, Torn, Cut, file, other}
use Rattle.disk_model.specs.Files.{with_file, both, written_over}
use Rattle.disk_model.specs.Image.{Picture, image_written, image_cut, picture_after, pictured}
use Rattle.disk_model.specs.Record.{Holding, at_first, after, written, replay}
use Rattle.disk_model.proofs.ChangeLemmas.{Torn_refl, Cut_refl}

sides : (a b : ℕ) → (a ≤ b) ⊎ (b ≤ a)
sides a b = grind arith

-- a piece of this length, wherever it was written
over_torn : (at n : ℕ) (fill old : List ℕ) → length fill ≡ n → Torn at n old (written_over at fill old)
over_torn at n fill old long =
    let front = take at old ++ fill in
    let back = drop (at + length fill) old in
    let short : length (take at old) ≡ min at (length old) = length-take at old in
    let within : length front ≡ min at (length old) + n = omega (arith, short, long, length-append (take at old) fill) in
    let whole : length (front ++ back) ≡ length front + length back = length-append front back in
    let behind : length back ≡ length old - (at + n) = omega (arith, long, length-drop (at + length fill) old) in
    record {
      before = ap (λ (l : List ℕ). take (min at (length old)) l) (append_assoc (take at old) fill back) ∙ take_at (take at old) (fill ++ back) (min at (length old)) short;
      after = ⊎_elim
          (λ le. drop_at front back (at + n) (omega arith) ∙ ap (λ k. drop (at + k) old) long)
          (λ lt. drop_all (at + n) (front ++ back) (omega arith) ∙ sym (drop_all (at + n) old (omega arith)))
          (sides at (length old));
      no_shorter = omega arith;
      no_longer = omega arith;
    }

-- a fill as long as what is cut off
over_cut : (to : ℕ) (fill old : List ℕ) → length fill ≡ length old - to → Cut to old (written_over to fill old)
over_cut to fill old long =
    let new = written_over to fill old in
    let torn = over_torn to (length fill) fill old refl in
    let whole : length new ≡ min to (length old) + length fill + (length old - (to + length fill)) =
    length-append (take to old ++ fill) (drop (to + length fill) old)
    ∙ ap (λ n. n + length (drop (to + length fill) old)) (length-append (take to old) fill ∙ ap (λ n. n + length fill) (length-take to old))
    ∙ ap (λ n. min to (length old) + length fill + n) (length-drop (to + length fill) old) in
    let front : take to new ≡ take (min to (length old)) new = ⊎_elim
    (λ le. let same : to ≡ min to (length old) = omega arith in ap (λ n. take n new) same)
    (λ lt. take_all to new (omega arith) ∙ sym (take_all (min to (length old)) new (omega arith)))
    (sides to (length old)) in
    record {
      front = front ∙ torn.before;
      no_shorter = omega arith;
      no_longer = omega arith;
    }

-- nothing of what is cut off
take_cut : (to : ℕ) (old : List ℕ) → Cut to old (take to old)
take_cut to old = record {
  front = take-take to to old (omega arith);
  no_shorter = omega (arith, length-take to old);
  no_longer = omega (arith, length-take to old);
}

image_torn : (pick : Pick) (at : ℕ) (piece image : List ℕ) → Torn at (length piece) image (image_written pick at piece image)
image_torn Old at piece image = Torn_refl at (length piece) image
image_torn New at piece image = over_torn at (length piece) piece image refl
image_torn (Filled byte) at piece image = over_torn at (length piece) (replicate (length piece) byte) image (length-replicate (length piece) byte)

image_cuts : (pick : Pick) (to : ℕ) (image : List ℕ) → Cut to image (image_cut pick to image)
image_cuts Old to image = Cut_refl to image
image_cuts New to image = take_cut to image
image_cuts (Filled byte) to image = over_cut to (replicate (length image - to) byte) image (length-replicate (length image - to) byte)

abbrev pair : List ℕ → List ℕ → TwoFiles
pair left right = record { left = left; right = right }

-- each file as a read gives it or as it is pictured: a crash may leave all four
record Four (may_leave : TwoFiles → Type 0) (l r : Picture) : Type 0 where
  now_now : may_leave (pair l.now r.now)
  now_image : may_leave (pair l.now r.image)
  image_now : may_leave (pair l.image r.now)
  image_image : may_leave (pair l.image r.image)

abbrev Reaches : Side → (List ℕ → List ℕ → Type 0) → (TwoFiles → Type 0) → (TwoFiles → Type 0) → Type 0
Reaches side disturbs may later = (was left : TwoFiles) → may was → Alone side disturbs was left → later left

left_step : (disturbs : List ℕ → List ℕ → Type 0) (may later : TwoFiles → Type 0) → Reaches Left disturbs may later → (l new r : Picture) → disturbs l.now new.now → disturbs l.image new.image → Four may l r → Four later new r
left_step disturbs may later reach l new r now image four = record {
  now_now = reach (pair l.now r.now) (pair new.now r.now) four.now_now (record { changed = now; kept = refl });
  now_image = reach (pair l.now r.image) (pair new.now r.image) four.now_image (record { changed = now; kept = refl });
  image_now = reach (pair l.image r.now) (pair new.image r.now) four.image_now (record { changed = image; kept = refl });
  image_image = reach (pair l.image r.image) (pair new.image r.image) four.image_image (record { changed = image; kept = refl });
}

right_step : (disturbs : List ℕ → List ℕ → Type 0) (may later : TwoFiles → Type 0) → Reaches Right disturbs may later → (l r new : Picture) → disturbs r.now new.now → disturbs r.image new.image → Four may l r → Four later l new
right_step disturbs may later reach l r new now image four = record {
  now_now = reach (pair l.now r.now) (pair l.now new.now) four.now_now (record { changed = now; kept = refl });
  now_image = reach (pair l.now r.image) (pair l.now new.image) four.now_image (record { changed = image; kept = refl });
  image_now = reach (pair l.image r.now) (pair l.image new.now) four.image_now (record { changed = now; kept = refl });
  image_image = reach (pair l.image r.image) (pair l.image new.image) four.image_image (record { changed = image; kept = refl });
}

abbrev Steps : Pick → Pick → Call → List ℕ → Holding → Picture → Picture → Type 0
Steps pick_left pick_right call piece holding l r =
    holding.now ≡ pair l.now r.now → Four holding.may_leave l r
    → Four (after call piece holding).may_leave (picture_after Left pick_left call piece l) (picture_after Right pick_right call piece r)

step : (p q : Pick) (call : Call) (piece : List ℕ) (h : Holding) (l r : Picture) → Steps p q call piece h l r
step p q Looked piece h l r now four = four
step p q (Wrote Left at len true) piece h l r now four =
    left_step (Torn at (length piece)) h.may_leave (after (Wrote Left at len true) piece h).may_leave (λ was left m a. inr (was, m, a))
    l (picture_after Left p (Wrote Left at len true) piece l) r (over_torn at (length piece) piece l.now refl) (image_torn p at piece l.image) four
step p q (Wrote Left at len false) piece h l r now four =
    left_step (Torn at (length piece)) h.may_leave (after (Wrote Left at len false) piece h).may_leave (λ was left m a. (was, m, a))
    l (picture_after Left p (Wrote Left at len false) piece l) r (Torn_refl at (length piece) l.now) (image_torn p at piece l.image) four
step p q (Wrote Right at len true) piece h l r now four =
    right_step (Torn at (length piece)) h.may_leave (after (Wrote Right at len true) piece h).may_leave (λ was left m a. inr (was, m, a))
    l r (picture_after Right q (Wrote Right at len true) piece r) (over_torn at (length piece) piece r.now refl) (image_torn q at piece r.image) four
step p q (Wrote Right at len false) piece h l r now four =
    right_step (Torn at (length piece)) h.may_leave (after (Wrote Right at len false) piece h).may_leave (λ was left m a. (was, m, a))
    l r (picture_after Right q (Wrote Right at len false) piece r) (Torn_refl at (length piece) r.now) (image_torn q at piece r.image) four
step p q (CutTo Left to true) piece h l r now four =
    left_step (Cut to) h.may_leave (after (CutTo Left to true) piece h).may_leave (λ was left m a. inr (was, m, a))
    l (picture_after Left p (CutTo Left to true) piece l) r (take_cut to l.now) (image_cuts p to l.image) four
step p q (CutTo Left to false) piece h l r now four =
    left_step (Cut to) h.may_leave (after (CutTo Left to false) piece h).may_leave (λ was left m a. (was, m, a))
    l (picture_after Left p (CutTo Left to false) piece l) r (Cut_refl to l.now) (image_cuts p to l.image) four
step p q (CutTo Right to true) piece h l r now four =
    right_step (Cut to) h.may_leave (after (CutTo Right to true) piece h).may_leave (λ was left m a. inr (was, m, a))
    l r (picture_after Right q (CutTo Right to true) piece r) (take_cut to r.now) (image_cuts q to r.image) four
step p q (CutTo Right to false) piece h l r now four =
    right_step (Cut to) h.may_leave (after (CutTo Right to false) piece h).may_leave (λ was left m a. (was, m, a))
    l r (picture_after Right q (CutTo Right to false) piece r) (Cut_refl to r.now) (image_cuts q to r.image) four
step p q (Synced Left) piece h l r now four =
    let same : l.now ≡ h.now.left = sym (ap (λ f. f.left) now) in
    record { now_now = (four.now_now, same); now_image = (four.now_image, same); image_now = (four.now_now, same); image_image = (four.now_image, same) }
step p q (Synced Right) piece h l r now four =
    let same : r.now ≡ h.now.right = sym (ap (λ f. f.right) now) in
    record { now_now = (four.now_now, same); now_image = (four.now_now, same); image_now = (four.image_now, same); image_image = (four.image_now, same) }

now_after : (p q : Pick) (call : Call) (piece : List ℕ) (h : Holding) (l r : Picture) → h.now ≡ pair l.now r.now
    → (after call piece h).now ≡ pair (picture_after Left p call piece l).now (picture_after Right q call piece r).now
now_after p q Looked piece h l r now = now
now_after p q (Wrote Left at len true) piece h l r now = ap (λ (f : TwoFiles). with_file Left (written_over at piece f.left) f) now
now_after p q (Wrote Left at len false) piece h l r now = now
now_after p q (Wrote Right at len true) piece h l r now = ap (λ (f : TwoFiles). with_file Right (written_over at piece f.right) f) now
now_after p q (Wrote Right at len false) piece h l r now = now
now_after p q (CutTo Left to true) piece h l r now = ap (λ (f : TwoFiles). with_file Left (take to f.left) f) now
now_after p q (CutTo Left to false) piece h l r now = now
now_after p q (CutTo Right to true) piece h l r now = ap (λ (f : TwoFiles). with_file Right (take to f.right) f) now
now_after p q (CutTo Right to false) piece h l r now = now
now_after p q (Synced Left) piece h l r now = now
now_after p q (Synced Right) piece h l r now = now

four_after : (p q : Pick) (calls : List Call) (pieces : List ℕ) (h : Holding) (l r : Picture) → h.now ≡ pair l.now r.now → Four h.may_leave l r
    → Four (replay h calls pieces).may_leave (pictured Left p l calls pieces) (pictured Right q r calls pieces)
four_after p q [] pieces h l r now four = four
four_after p q (call ∷ calls) pieces h l r now four =
    let piece = take (written call) pieces in
    four_after p q calls (drop (written call) pieces) (after call piece h) (picture_after Left p call piece l) (picture_after Right q call piece r)
    (now_after p q call piece h l r now) (step p q call piece h l r now four)

abbrev pub picture_at_first : Side → TwoFiles → Picture
picture_at_first side files = record { now = file side files; image = file side files }

pub images_leave : (side : Side) (p q : Pick) (files : TwoFiles) (calls : List Call) (pieces : List ℕ)
    → (replay (at_first files) calls pieces).may_leave
    (both side (pictured side p (picture_at_first side files) calls pieces).image (pictured (other side) q (picture_at_first (other side) files) calls pieces).image)
images_leave Left p q files calls pieces =
    (four_after p q calls pieces (at_first files) (picture_at_first Left files) (picture_at_first Right files) refl (record { now_now = refl; now_image = refl; image_now = refl; image_image = refl })).image_image
images_leave Right p q files calls pieces =
    (four_after q p calls pieces (at_first files) (picture_at_first Left files) (picture_at_first Right files) refl (record { now_now = refl; now_image = refl; image_now = refl; image_image = refl })).image_image
