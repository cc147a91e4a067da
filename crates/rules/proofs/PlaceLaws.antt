-- Where an image's parts stand in its bytes, as code reads them; and that what code stores leaves an image sound, so that its bytes and its parts
-- say the same again afterwards.
use Prim.Native.Nat.{ℕ, ◌+◌, ◌*◌, ◌^◌, ◌≤◌, ◌<◌}
use mathlib.Core.Path.{◌≡◌, refl, ap, sym, subst}
use mathlib.Core.Bool.{Bool, true, cond}
use mathlib.Core.List.{List}
use native.Mathlib.Omega.{arith}
use lib.ListN.{length, get_or, drop}
use lib.Dec.{eqb}
use borrow.Author.Tests.{ne_eqb}
use Rattle.rules.specs.Bits.{AreBytes, word_at, words_of}
use Rattle.rules.specs.Image.{Slot, Image, none, encode, decode, Sound, IsImage}
use Rattle.rules.specs.Buffer.{dropped_if, dropped, stored, with_victims}
use Rattle.rules.specs.Refusals.{all_zero}
use Rattle.rules.specs.Calls.{with_flags, with_cr3}
use Rattle.rules.proofs.BoolLaws.{either}
use Rattle.rules.proofs.WordLaws.{word_at_lem}
use Rattle.rules.proofs.ImageLaws.{encode_length, encode_decode, decode_encode, sound_decode}

-- ---- words 0 to 3, and a slot's two words
word_in : (b : List ℕ) (n : ℕ) → n < 256 → get_or (words_of 256 b) n 0 ≡ word_at b (8 * n)
word_in b n h = word_at_lem 256 n b h

pub width_at : (b : List ℕ) → (decode b).width ≡ word_at b 0
unfolding decode
width_at b = word_in b 0 (omega arith)

pub flags_at : (b : List ℕ) → (decode b).flags ≡ word_at b 8
unfolding decode
flags_at b = word_in b 1 (omega arith)

pub cr3_at : (b : List ℕ) → (decode b).cr3 ≡ word_at b 16
unfolding decode
cr3_at b = word_in b 2 (omega arith)

pub victims_at : (b : List ℕ) → (decode b).victims ≡ word_at b 24
unfolding decode
victims_at b = word_in b 3 (omega arith)

pub tag_at_lem : (b : List ℕ) (i : ℕ) → i < 100 → ((decode b).slots i).tag ≡ word_at b (32 + i * 16)
unfolding decode
tag_at_lem b i h =
    let e : 8 * (4 + 2 * i) ≡ 32 + i * 16 = omega arith in
    rw e at (word_in b (4 + 2 * i) (omega arith))

pub datum_at : (b : List ℕ) (i : ℕ) → i < 100 → ((decode b).slots i).datum ≡ word_at b (40 + i * 16)
unfolding decode
datum_at b i h =
    let e : 8 * (5 + 2 * i) ≡ 40 + i * 16 = omega arith in
    rw e at (word_in b (5 + 2 * i) (omega arith))

-- ---- bytes that are an image's
pub image_of : (b : List ℕ) → AreBytes b → length b ≡ 2048 → all_zero (drop 204 (words_of 256 b)) ≡ true → IsImage b
image_of b h n z = record { size = n; sound = sound_decode b h z; says = encode_decode b h n z }

pub is_encoded : (s : Image) → Sound s → IsImage (encode s)
is_encoded s q =
    let d : decode (encode s) ≡ s = decode_encode s q in
    record { size = encode_length s; sound = subst Sound (sym d) q; says = ap encode d }

-- ---- what keeps an image sound
sound_slots : (s : Image) (f : ℕ → Slot) → Sound s → ((i : ℕ) → (f i).tag < 2 ^ 64) → ((i : ℕ) → (f i).datum < 2 ^ 64) → ((i : ℕ) → 100 ≤ i → f i ≡ none)
    → Sound (record { width = s.width; flags = s.flags; cr3 = s.cr3; victims = s.victims; slots = f })
sound_slots s f q t d b =
    record { width = q.width; flags = q.flags; cr3 = q.cr3; victims = q.victims; tags = t; datums = d; beyond = b }

pub sound_dropped : (p : ℕ → ℕ → Bool) (s : Image) → Sound s → Sound (dropped p s)
sound_dropped p s q =
    sound_slots s (λ i. dropped_if p i (s.slots i)) q
    (λ i. either (λ (t : Slot). t.tag < 2 ^ 64) (p i (s.slots i).tag) none (s.slots i) (λ e. omega arith) (λ e. q.tags i))
    (λ i. either (λ (t : Slot). t.datum < 2 ^ 64) (p i (s.slots i).tag) none (s.slots i) (λ e. omega arith) (λ e. q.datums i))
    (λ i h. either (λ (t : Slot). t ≡ none) (p i (s.slots i).tag) none (s.slots i) (λ e. refl) (λ e. q.beyond i h))

pub sound_stored : (i : ℕ) (t : Slot) (s : Image) → i < 100 → t.tag < 2 ^ 64 → t.datum < 2 ^ 64 → Sound s → Sound (stored i t s)
sound_stored i t s h g f q =
    sound_slots s (λ j. cond (eqb j i) t (s.slots j)) q
    (λ j. either (λ (u : Slot). u.tag < 2 ^ 64) (eqb j i) t (s.slots j) (λ e. g) (λ e. q.tags j))
    (λ j. either (λ (u : Slot). u.datum < 2 ^ 64) (eqb j i) t (s.slots j) (λ e. f) (λ e. q.datums j))
    (λ j k. rw (ne_eqb j i (omega arith)) (q.beyond j k))

pub sound_victims : (v : ℕ) (s : Image) → v < 2 ^ 64 → Sound s → Sound (with_victims v s)
sound_victims v s h q =
    record { width = q.width; flags = q.flags; cr3 = q.cr3; victims = h; tags = q.tags; datums = q.datums; beyond = q.beyond }

pub sound_flags : (v : ℕ) (s : Image) → v < 2 ^ 64 → Sound s → Sound (with_flags v s)
sound_flags v s h q =
    record { width = q.width; flags = h; cr3 = q.cr3; victims = q.victims; tags = q.tags; datums = q.datums; beyond = q.beyond }

pub sound_cr3 : (v : ℕ) (s : Image) → v < 2 ^ 64 → Sound s → Sound (with_cr3 v s)
sound_cr3 v s h q =
    record { width = q.width; flags = q.flags; cr3 = h; victims = q.victims; tags = q.tags; datums = q.datums; beyond = q.beyond }
