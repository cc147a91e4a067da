-- The ways through the functions of a fill: what each return of the code has to show, from the tests on its way.
-- Bytes written to a part that was lent are written to the whole, further on (`within`), and after each write the bytes are an image's again.
use Prim.Native.Nat.{ℕ, zero, suc, ◌+◌, ◌-◌, ◌*◌, ◌%◌, ◌^◌, ◌≤◌, ◌<◌}
use mathlib.Core.Path.{◌≡◌, refl, ap, ap₂, sym, ◌∙◌, subst}
use mathlib.Core.Bool.{Bool, true, false, cond, not}
use mathlib.Core.List.{List, ◌++◌, append_assoc}
use native.Mathlib.Omega.{arith}
use native.Mathlib.Nat.{add-zero, add_assoc}
use lib.ListN.{length, take, drop, length-append, length-drop, take-append-drop}
use lib.Seq.{length-take-le, take_at, drop_at, take-take, take-add, drop-drop, drop-append-le}
use lib.Pow.{shl_exact}
use Rattle.rules.specs.Bits.{is_on, bytes_of, word_at, word_put}
use Rattle.rules.specs.Sizes.{slots_of}
use Rattle.rules.specs.Image.{Image, victim, moved_on, encode, decode, Sound, IsImage}
use Rattle.rules.specs.Buffer.{hit, first, stored, with_victims}
use Rattle.rules.proofs.WordLaws.{bytes_length}
use Rattle.rules.proofs.ImageLaws.{victims_bytes, store_bytes, decode_encode}
use Rattle.rules.proofs.PlaceLaws.{tag_at_lem, victims_at, is_encoded, sound_victims}
use Rattle.rules.proofs.SoundLaws.{moved_lt}
use Rattle.std.specs.Prelude.{Option, Some, None}
use Rattle.buffer.specs.Fill.{is_free, IsLowest, slot_put, filled_at}

-- ---- free_way: the ways below this one are held
pub record Passed (s : Image) (set way : ℕ) : Type 0 where
  pub low : way ≤ 4
  pub same : first (is_free s) (slots_of set) ≡ first (is_free s) (drop way (slots_of set))

at_way : (p : ℕ → Bool) (set way : ℕ) → way < 4
    → first p (drop way (slots_of set)) ≡ cond (p (4 * set + way)) (hit (4 * set + way)) (first p (drop (way + 1) (slots_of set)))
at_way p set zero h = rw add-zero
at_way p set (suc zero) h = refl
at_way p set (suc (suc zero)) h = refl
at_way p set (suc (suc (suc zero))) h = refl
at_way p set (suc (suc (suc (suc way)))) h = absurd (omega arith)

module _ (b : List ℕ) (set way tag : ℕ) (on : Bool) (h : set < 25) (g : way < 4) (p : Passed (decode b) set way)
    (t : tag ≡ word_at b (32 + (4 * set + way) * 16)) (o : on ≡ is_on 0 tag) where
  free_is : is_free (decode b) (4 * set + way) ≡ not on
  free_is = rw (tag_at_lem b (4 * set + way) (omega arith), ← t, ← o)

  here : first (is_free (decode b)) (slots_of set)
      ≡ cond (not on) (hit (4 * set + way)) (first (is_free (decode b)) (drop (way + 1) (slots_of set)))
  here = rw (← free_is) (p.same ∙ at_way (is_free (decode b)) set way g)

  pub passed_on : on ≡ true → Passed (decode b) set (way + 1)
  passed_on e = record { low = omega arith; same = rw e at here }

  pub free_here : on ≡ false → IsLowest (decode b) set (Some way)
  free_here e = record { right = rw e at here; low = g }

-- ---- moved_on
shifted : (n w : ℕ) → n < 25 → w < 4 → w * 2 ^ (2 * n) % 2 ^ 64 ≡ w * 2 ^ (2 * n)
shifted n w h g = shl_exact 2 (2 * n) 64 g (omega arith)

module _ (n v w : ℕ) (h : n < 25) (e : w ≡ victim n v) where
  pub moves : v - w * 2 ^ (2 * n) % 2 ^ 64 + (w + 1) % 4 * 2 ^ (2 * n) % 2 ^ 64 ≡ moved_on n v
  moves = rw (shifted n w h (omega arith), shifted n ((w + 1) % 4) h (omega arith), e)

  pub moves_lt : (x : ℕ) → v < 2 ^ 64 → v - w * 2 ^ (2 * n) % 2 ^ 64 + x % 4 * 2 ^ (2 * n) % 2 ^ 64 < 2 ^ 64
  moves_lt x g =
      let f : x % 4 < 4 = omega arith in
      rw (shifted n w h (omega arith), shifted n (x % 4) h f, e) (moved_lt n v (x % 4) h g f)

-- ---- store: two words one after the other
module _ (b : List ℕ) (at t : ℕ) (h : at + 16 ≤ length b) where
  first_put : word_put b at t ≡ (take at b ++ bytes_of 8 t) ++ drop (at + 8) b
  first_put = sym (append_assoc (take at b) (bytes_of 8 t) (drop (at + 8) b))

  first_end : length (take at b ++ bytes_of 8 t) ≡ at + 8
  first_end = length-append (take at b) (bytes_of 8 t) ∙ ap₂ ◌+◌ (length-take-le at b (omega arith)) (bytes_length 8 t)

  before_second : take (at + 8) (word_put b at t) ≡ take at b ++ bytes_of 8 t
  before_second = ap (take (at + 8)) first_put ∙ take_at (take at b ++ bytes_of 8 t) (drop (at + 8) b) (at + 8) first_end

  behind_first : drop (at + 8) (word_put b at t) ≡ drop (at + 8) b
  behind_first = ap (drop (at + 8)) first_put ∙ drop_at (take at b ++ bytes_of 8 t) (drop (at + 8) b) (at + 8) first_end

  behind_second : drop (at + 8 + 8) (word_put b at t) ≡ drop (at + 16) b
  behind_second = rw (← drop-drop 8 (at + 8) (word_put b at t), behind_first, drop-drop 8 (at + 8) b, add_assoc at 8 8)

  two_words : (d : ℕ) → word_put (word_put b at t) (at + 8) d ≡ take at b ++ (bytes_of 8 t ++ (bytes_of 8 d ++ drop (at + 16) b))
  two_words d =
      ap₂ (λ (x y : List ℕ). x ++ (bytes_of 8 d ++ y)) before_second behind_second ∙ append_assoc (take at b) (bytes_of 8 t) _

pub both_written : (b b₁ b₂ : List ℕ) (way t d : ℕ) → length b ≡ 64 → way < 4 → b₁ ≡ word_put b (way * 16) t
    → b₂ ≡ word_put b₁ (way * 16 + 8) d → b₂ ≡ slot_put b way t d
both_written b b₁ b₂ way t d h g e₁ e₂ =
    e₂ ∙ ap (λ (l : List ℕ). word_put l (way * 16 + 8) d) e₁ ∙ two_words b (way * 16) t (omega arith) d

-- ---- store_way: bytes x at i of the n from a on are bytes at a + i
rest : (m : List ℕ) (n i : ℕ) → n ≤ length m → i ≤ n → drop i (take n m) ++ drop n m ≡ drop i m
rest m n i h g =
    let l : i ≤ length (take n m) = rw (length-take-le n m h) g in
    sym (drop-append-le i (take n m) (drop n m) l) ∙ ap (drop i) (take-append-drop n m)

within : (l x : List ℕ) (a n i k : ℕ) → a + n ≤ length l → i + k ≤ n
    → take a l ++ ((take i (take n (drop a l)) ++ (x ++ drop (i + k) (take n (drop a l)))) ++ drop n (drop a l))
    ≡ take (a + i) l ++ (x ++ drop (a + (i + k)) l)
within l x a n i k h g =
    let m = drop a l in
    let front : take i (take n m) ≡ take i m = take-take i n m (omega arith) in
    let back : drop (i + k) (take n m) ++ drop n m ≡ drop (i + k) m = rest m n (i + k) (rw length-drop (omega arith)) g in
    rw (front, take-add a i l, ← drop-drop (i + k) a l)
    (simp append_assoc (ap (λ (z : List ℕ). take a l ++ (take i m ++ (x ++ z))) back))

slot_stored : (b : List ℕ) (i tag datum : ℕ) → IsImage b → i < 100
    → encode (stored i (record { tag = tag; datum = datum }) (decode b))
    ≡ take (32 + 16 * i) b ++ (bytes_of 8 tag ++ (bytes_of 8 datum ++ drop (48 + 16 * i) b))
slot_stored b i tag datum q h = rw q.says at (store_bytes i (record { tag = tag; datum = datum }) (decode b) h)

pub way_stored : (b p : List ℕ) (set way tag datum : ℕ) → IsImage b → set < 25 → way < 4
    → p ≡ slot_put (take (32 + set * 64 + 64 - (32 + set * 64)) (drop (32 + set * 64) b)) way tag datum
    → take (32 + set * 64) b ++ (p ++ drop (32 + set * 64 + 64 - (32 + set * 64)) (drop (32 + set * 64) b))
    ≡ encode (stored (4 * set + way) (record { tag = tag; datum = datum }) (decode b))
way_stored b p set way tag datum q h g e =
    let a = 32 + set * 64 in
    let n : a + 64 - a ≡ 64 = omega arith in
    let i : a + way * 16 ≡ 32 + 16 * (4 * set + way) = omega arith in
    let j : a + (way * 16 + 16) ≡ 48 + 16 * (4 * set + way) = omega arith in
    rw (e, n, slot_stored b (4 * set + way) tag datum q (omega arith), ← i, ← j)
    (within b (bytes_of 8 tag ++ bytes_of 8 datum) a 64 (way * 16) 16 (omega (arith, q.size)) (omega arith))

-- ---- fill
module _ (b b₁ : List ℕ) (set v v' : ℕ) (q : IsImage b) (h : set < 25) (e : v ≡ word_at b 24) (m : v' ≡ moved_on set v) (w : b₁ ≡ word_put b 24 v') where
  now_victims : v ≡ (decode b).victims
  now_victims = e ∙ sym (victims_at b)

  bytes_moved : b₁ ≡ encode (with_victims v' (decode b))
  bytes_moved = w ∙ sym (rw q.says at (victims_bytes v' (decode b)))

  sound_moved : Sound (with_victims v' (decode b))
  sound_moved = sound_victims v' (decode b) (rw (m, now_victims) (moved_lt set (decode b).victims _ h q.sound.victims (omega arith))) q.sound

  pub image_moved : IsImage b₁
  image_moved = rw bytes_moved (is_encoded (with_victims v' (decode b)) sound_moved)

  pub over_victim : (b₂ : List ℕ) (o : Option ℕ) (tag datum n : ℕ) → IsLowest (decode b) set o → o ≡ None → n ≡ victim set v
      → b₂ ≡ encode (stored (4 * set + n) (record { tag = tag; datum = datum }) (decode b₁))
      → b₂ ≡ encode (filled_at set tag datum (decode b))
  over_victim b₂ o tag datum n f g k c =
      let d : decode b₁ ≡ with_victims v' (decode b) = ap decode bytes_moved ∙ decode_encode (with_victims v' (decode b)) sound_moved in
      let m' : IsLowest (decode b) set None = subst (IsLowest (decode b) set) g f in
      rw (m'.right, ← now_victims, ← m, ← k) (rw d at c)
