-- What is held, all ways looked at: the first match answers if it allows the access; else it goes, and the walk is made.
use Prim.Native.Nat.{ℕ, ◌+◌, ◌*◌, ◌/◌, ◌%◌, ◌^◌, ◌≤◌, ◌<◌}
use mathlib.Core.Path.{◌≡◌, refl, ap, sym, ◌∙◌, subst}
use mathlib.Core.Bool.{Bool, true, false}
use mathlib.Core.List.{List}
use native.Mathlib.Omega.{arith}
use lib.ListN.{length}
use Rattle.rules.specs.Bits.{part, word_at}
use Rattle.rules.specs.Sizes.{Is, is_small, is_middle, is_large, shift, size_of}
use Rattle.rules.specs.Image.{Image, decode, control, pcid}
use Rattle.rules.specs.Memory.{Memory}
use Rattle.rules.specs.Walk.{walk}
use Rattle.rules.specs.Buffer.{matches, miss, find, serves, hit_address, dropped, filled}
use Rattle.rules.specs.Answers.{answer_of}
use Rattle.rules.specs.Calls.{After, served_if, looked}
use Rattle.rules.specs.declared.Size.{Size}
use Rattle.rules.specs.declared.Control.{Control}
use Rattle.rules.specs.declared.Access.{Access}
use Rattle.rules.specs.declared.Answer.TheVariants.{Address}
use Rattle.rules.proofs.SizeLaws.{size_of_lem, length_in}
use Rattle.rules.proofs.SlotLaws.{nothing_dropped}
use Rattle.rules.proofs.PlaceLaws.{flags_at, datum_at}
use Rattle.buffer.specs.declared.look.Place.{Place}
use Rattle.std.specs.Prelude.{Option, None}
use Rattle.buffer.specs.Look.{place, hit_of, Right, Looks}
use Rattle.drops.specs.Drops.{dropped_in}
use Rattle.drops.proofs.DropLaws.{image_dropped, says_dropped}
use Rattle.numbers.specs.Needs.{IsPcid, ForEach, Known}
use Rattle.paging.specs.declared.Held.{Held}
use Rattle.paging.specs.Paged.{held_page, Usable, Finds, missed}

-- ---- a slot's place, and the length of its page
module _ (at l : ℕ) (right : Right (place at l)) where
  found_length : (1 ≤ l) × (l ≤ 2 ^ 30)
  found_length = rw right.1.1 (length_in (size_of (at / 16)) (size_of_lem (at / 16)))

looked_right : (b : List ℕ) (a at l : ℕ) (o : Option Place) → Looks b a o → o ≡ place at l → Right (place at l)
looked_right b a at l o looks e = subst Right e looks.right

base_is : (z : Size) (d : ℕ) → Is z → d % 2 ^ 52 / z.length * z.length ≡ part 52 (shift z.level) d
base_is z d is_small = omega arith
base_is z d is_middle = omega arith
base_is z d is_large = omega arith

pub slot_datum : (b : List ℕ) (at l d : ℕ) → Right (place at l) → d ≡ word_at b (40 + at) → d ≡ ((decode b).slots (at / 16)).datum
slot_datum b at l d right h =
    let q : 40 + at ≡ 40 + at / 16 * 16 = omega (arith, right.0) in
    h ∙ ap (word_at b) q ∙ sym (datum_at b (at / 16) right.1.0)

pub slot_address : (b : List ℕ) (at l d a x : ℕ) → Right (place at l) → d ≡ word_at b (40 + at) → x ≡ d % 2 ^ 52 / l * l + a % l
    → x ≡ hit_address (size_of (at / 16)) ((decode b).slots (at / 16)).datum a
slot_address b at l d a x right hd h =
    h ∙ rw (right.1.1, slot_datum b at l d right hd, base_is (size_of (at / 16)) ((decode b).slots (at / 16)).datum (size_of_lem (at / 16)))

-- ---- an image out of which something was dropped
usable_dropped : (q : ℕ → ℕ → Bool) (b b₁ : List ℕ) → Usable b → b₁ ≡ dropped_in q b → Usable b₁
usable_dropped q b b₁ u h =
    let s : decode b₁ ≡ dropped q (decode b) = ap decode h ∙ says_dropped q b u.image in
    let w : (decode b₁).width ≡ (decode b).width = ap (λ (x : Image). x.width) s in
    record { image = image_dropped q b b₁ u.image h; wide = rw w u.wide; narrow = rw w u.narrow }

-- ---- the first match answers, or goes
pub first_looked : (b : List ℕ) (mem : Memory) (at l a : ℕ) (k : Access) → Looks b a (place at l)
    → looked (decode b) mem k a (find (decode b) a)
    ≡ served_if (serves (control (decode b)) k ((decode b).slots (at / 16)).datum) (decode b) mem k a (at / 16)
first_looked b mem at l a k looks = ap (looked (decode b) mem k a) (sym looks.first)

module _ (b : List ℕ) (at l n a d w : ℕ) (o : Option Place) (v : Bool) (looks : Looks b a o) (e : o ≡ place at l) (hd : d ≡ word_at b (40 + at)) (hw : w ≡ word_at b 8)
    (hv : (c : Control) → c.flags ≡ w → ForEach c.flags n (λ k. v ≡ serves c k d)) where
  right : Right (place at l)
  right = looked_right b a at l o looks e

  match_looked : (y : Bool) → v ≡ y
      → ForEach (decode b).flags n (λ k. (mem : Memory) → looked (decode b) mem k a (find (decode b) a) ≡ served_if y (decode b) mem k a (at / 16))
  match_looked y t k of mem =
      first_looked b mem at l a k (subst (Looks b a) e looks)
      ∙ ap (λ (x : Bool). served_if x (decode b) mem k a (at / 16))
      (sym (hv (control (decode b)) (flags_at b ∙ sym hw) k of ∙ ap (serves (control (decode b)) k) (slot_datum b at l d right hd)) ∙ t)

  pub match_serves : v ≡ true → (x : ℕ) → x ≡ d % 2 ^ 52 / l * l + a % l → Finds b b n a (held_page x l)
  match_serves t x h =
      let m : x ≡ hit_address (size_of (at / 16)) ((decode b).slots (at / 16)).datum a = slot_address b at l d a x right hd h in
      (refl, λ k of mem. match_looked true t k of mem ∙ sym (λ j. record { answer = Address (m j) (right.1.1 j) 0; image = decode b; memory = mem }))

  pub match_goes : v ≡ false → Usable b → (p : ℕ) (b₁ : List ℕ) → IsPcid b p → b₁ ≡ dropped_in (matches p a) b → Finds b b₁ n a None
  match_goes t u p b₁ sp h =
      let s : decode b₁ ≡ dropped (matches (pcid (decode b)) a) (decode b) =
      ap decode h ∙ says_dropped (matches p a) b u.image ∙ ap (λ (y : ℕ). dropped (matches y a) (decode b)) sp.current in (
        usable_dropped (matches p a) b b₁ u h,
        ap (λ (x : Image). x.flags) s,
        λ k of mem.
            match_looked false t k of mem ∙ sym (ap (λ (x : Image). missed x mem k a) s),
      )

-- ---- nothing is held
pub none_looked : (b : List ℕ) (mem : Memory) (a : ℕ) (k : Access) (o : Option Place) → Looks b a o → o ≡ None
    → looked (decode b) mem k a (find (decode b) a) ≡ missed (decode b) mem k a
none_looked b mem a k o looks e =
    let h : find (decode b) a ≡ miss = sym looks.first ∙ ap hit_of e in
    ap (looked (decode b) mem k a) h
    ∙ ap (λ (x : Image). record { answer = answer_of (control (decode b)) k a (walk (control (decode b)) k a mem).found; image = filled x a (walk (control (decode b)) k a mem).found; memory = (walk (control (decode b)) k a mem).memory }) (nothing_dropped (decode b) a h)

pub match_none : (b : List ℕ) (n a : ℕ) (o : Option Place) → Looks b a o → o ≡ None → Usable b → Finds b b n a None
match_none b n a o looks e u = (u, refl, λ k of mem. none_looked b mem a k o looks e)

-- ---- where nothing is held, the walk can be made of what is left
module _ (b b' : List ℕ) (n a : ℕ) (h : Option Held) (finds : Finds b b' n a h) (e : h ≡ None) where
  pub still_usable : Usable b'
  still_usable = (subst (Finds b b' n a) e finds).0

  same_flags : (decode b').flags ≡ (decode b).flags
  same_flags = (subst (Finds b b' n a) e finds).1

  pub still_known : Known (decode b).flags n → Known (decode b').flags n
  still_known known = rw same_flags known

  pub still_walked : (P : After → Type 0) (mem : Memory) → ForEach (decode b').flags n (λ k. P (missed (decode b') mem k a))
      → ForEach (decode b).flags n (λ k. P (looked (decode b) mem k a (find (decode b) a)))
  still_walked P mem g k of =
      subst P (sym ((subst (Finds b b' n a) e finds).2 k of mem)) (g k (rw same_flags of))
