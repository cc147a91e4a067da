-- What looking up finds, from what each function's calls tell it: a slot by its masked tag, the first of a set, of a size, of all, and the first match.
-- A slot's place is in bytes from the first slot on, so its number is a sixteenth of it.
-- A match is a page held that is one's own, so the first slot that holds the page is the first match wherever it is one's own (own_first).
use Prim.Native.Nat.{ℕ, zero, suc, ◌+◌, ◌*◌, ◌/◌, ◌%◌, ◌^◌, ◌≤◌, ◌<◌}
use mathlib.Core.Path.{◌≡◌, refl, ap, ap₂, sym, ◌∙◌, subst}
use mathlib.Core.Bool.{Bool, true, false, cond, ◌&&◌, ◌||◌}
use mathlib.Core.List.{List, [], ◌∷◌, ◌++◌}
use native.Mathlib.Omega.{arith}
use native.Mathlib.Nat.{add-zero}
use native.Mathlib.Numerals.{add-one, add-four, add_eight}
use lib.Dec.{eqb}
use lib.ListN.{get_or, drop}
use lib.Seq.{drop-cons}
use lib.Bits.{bit_and, bit_xor}
use borrow.Author.Tests.{eq-eqb}
use Rattle.rules.specs.Bits.{word_at}
use Rattle.rules.specs.Sizes.{small, middle, large, Is, size_at, page_number, set_of, slots_of, ways}
use Rattle.rules.specs.Image.{decode, pcid}
use Rattle.rules.specs.Buffer.{matches, Hit, hit, miss, first, all_ways, find}
use Rattle.rules.specs.declared.Size.{Size}
use Rattle.rules.proofs.PlaceLaws.{tag_at_lem}
use Rattle.rules.proofs.SizeLaws.{size_at_lem, set_lt, slot_size}
use Rattle.buffer.specs.declared.look.Place.{Place}
use Rattle.buffer.specs.declared.look.Start.{Start}
use Rattle.buffer.specs.declared.look.Start.TheVariants.{Small, Middle, Large, Nowhere}
use Rattle.sets.specs.Ways.{tag_in}
use Rattle.std.specs.Prelude.{Option, None}
use Rattle.buffer.specs.Look.{place, hit_of, Right, Looks, holds_page, is_of, holds, FirstHeld, Begins}
use Rattle.sets.proofs.TagTests.{test_same}

-- ---- what is tested of a tag
pub page_test : (b : List ℕ) (at n t : ℕ) → n < 2 ^ 36 → t ≡ word_at b at → eqb (bit_and (bit_xor t (n * 0x4000 + 1)) 0x3FFFFFFFFC001) 0 ≡ holds_page n (word_at b at)
page_test b at n t h e = rw (← e) (test_same t n h)

pub own_test : (b : List ℕ) (at p t : ℕ) → at % 16 ≡ 0 → at / 16 < 100 → t ≡ word_at b (32 + at)
    → (eqb (t / 2 % 2) 1 || eqb (t / 4 % 4096) p) ≡ is_of p (tag_in b (at / 16))
own_test b at p t g h e =
    let k : 32 + at / 16 * 16 ≡ 32 + at = omega arith in
    rw (tag_at_lem b (at / 16) h, k, ← e)

-- ---- a size's slots
module _ (b : List ℕ) (a : ℕ) (z : Size) (n s : ℕ) (is : Is z) (en : n ≡ page_number z a) (es : s ≡ z.first + n % z.sets) where
  own_set : s ≡ set_of z a
  own_set = es ∙ ap (λ (x : ℕ). z.first + x % z.sets) en

  -- slot i of the set holds the page if the tag at its place says so
  slot_holds : (i at : ℕ) (x y : Bool) → i / 4 ≡ s → at ≡ 32 + i * 16 → x ≡ holds_page n (word_at b at) → x ≡ y → holds b a i ≡ y
  slot_holds i at x y h k e t =
      let g : i / 4 ≡ set_of z a = h ∙ own_set in
      rw (slot_size z a i is g, eq-eqb (i / 4) (set_of z a) g, ← en, tag_at_lem b i (omega (arith, set_lt z a is)), ← k) (sym e ∙ t)

  slot_right : (at : ℕ) → at % 16 ≡ 0 → at / 16 / 4 ≡ s → Right (place at z.length)
  slot_right at f h =
      let g : at / 16 / 4 ≡ set_of z a = h ∙ own_set in
      (f, (omega (arith, set_lt z a is), ap (λ (y : Size). y.length) (sym (slot_size z a (at / 16) is g))))

  module _ (w : Size) (e : z ≡ w) where
    of_set : (r : Option Place) → hit_of r ≡ first (holds b a) (slots_of s) → Right r → FirstHeld b a (ways w a) r
    of_set r h g =
        subst (λ (y : Size). FirstHeld b a (ways y a) r) e (subst (λ (y : ℕ). FirstHeld b a (slots_of y) r) own_set (record { held = h; right = g }))

    found_in : (at i : ℕ) → at ≡ i * 16 → i / 4 ≡ s → hit i ≡ first (holds b a) (slots_of s) → FirstHeld b a (ways w a) (place at z.length)
    found_in at i k h f =
        let q : at / 16 ≡ i = omega arith in
        of_set (place at z.length) (ap hit q ∙ f) (slot_right at (omega arith) (omega arith))

    -- the way through the four tests that ends at the k-th
    module _ (x₀ : Bool) (e₀ : x₀ ≡ holds_page n (word_at b (32 + 64 * s))) where
      slot_0 : (t : Bool) → x₀ ≡ t → holds b a (4 * s) ≡ t
      slot_0 t = slot_holds (4 * s) (32 + 64 * s) x₀ t (omega arith) (omega arith) e₀

      pub way_0 : x₀ ≡ true → FirstHeld b a (ways w a) (place (64 * s) z.length)
      way_0 t = found_in (64 * s) (4 * s) (omega arith) (omega arith) (rw (slot_0 true t))

      module _ (f₀ : x₀ ≡ false) (x₁ : Bool) (e₁ : x₁ ≡ holds_page n (word_at b (48 + 64 * s))) where
        slot_1 : (t : Bool) → x₁ ≡ t → holds b a (4 * s + 1) ≡ t
        slot_1 t = slot_holds (4 * s + 1) (48 + 64 * s) x₁ t (omega arith) (omega arith) e₁

        pub way_1 : x₁ ≡ true → FirstHeld b a (ways w a) (place (64 * s + 16) z.length)
        way_1 t = found_in (64 * s + 16) (4 * s + 1) (omega arith) (omega arith) (rw (slot_0 false f₀, slot_1 true t))

        module _ (f₁ : x₁ ≡ false) (x₂ : Bool) (e₂ : x₂ ≡ holds_page n (word_at b (64 + 64 * s))) where
          slot_2 : (t : Bool) → x₂ ≡ t → holds b a (4 * s + 2) ≡ t
          slot_2 t = slot_holds (4 * s + 2) (64 + 64 * s) x₂ t (omega arith) (omega arith) e₂

          pub way_2 : x₂ ≡ true → FirstHeld b a (ways w a) (place (64 * s + 32) z.length)
          way_2 t = found_in (64 * s + 32) (4 * s + 2) (omega arith) (omega arith) (rw (slot_0 false f₀, slot_1 false f₁, slot_2 true t))

          module _ (f₂ : x₂ ≡ false) (x₃ : Bool) (e₃ : x₃ ≡ holds_page n (word_at b (80 + 64 * s))) where
            slot_3 : (t : Bool) → x₃ ≡ t → holds b a (4 * s + 3) ≡ t
            slot_3 t = slot_holds (4 * s + 3) (80 + 64 * s) x₃ t (omega arith) (omega arith) e₃

            pub way_3 : x₃ ≡ true → FirstHeld b a (ways w a) (place (64 * s + 48) z.length)
            way_3 t =
                found_in (64 * s + 48) (4 * s + 3) (omega arith) (omega arith) (rw (slot_0 false f₀, slot_1 false f₁, slot_2 false f₂, slot_3 true t))

            pub no_way : x₃ ≡ false → FirstHeld b a (ways w a) None
            no_way f₃ = of_set None (rw (slot_0 false f₀, slot_1 false f₁, slot_2 false f₂, slot_3 false f₃)) tt

-- ---- one list of slots after the other, and so the three sizes
abbrev or_else : Hit → Hit → Hit
or_else (hit i) o = hit i
or_else miss o = o

first_append : (p : ℕ → Bool) (xs ys : List ℕ) → first p (xs ++ ys) ≡ or_else (first p xs) (first p ys)
first_append p [] ys = refl
first_append p (x ∷ xs) ys = go (p x) (first_append p xs ys)
  where
    go : (t : Bool) → first p (xs ++ ys) ≡ or_else (first p xs) (first p ys)
        → cond t (hit x) (first p (xs ++ ys)) ≡ or_else (cond t (hit x) (first p xs)) (first p ys)
    go true e = refl
    go false e = e

module _ (b : List ℕ) (a : ℕ) (xs ys : List ℕ) where
  here : (at l : ℕ) → FirstHeld b a xs (place at l) → FirstHeld b a (xs ++ ys) (place at l)
  here at l h =
      record {
        held = ap (λ (o : Hit). or_else o (first (holds b a) ys)) h.held ∙ sym (first_append (holds b a) xs ys);
        right = h.right;
      }

  later : (r : Option Place) → FirstHeld b a xs None → FirstHeld b a ys r → FirstHeld b a (xs ++ ys) r
  later r h g =
      record {
        held = g.held ∙ ap (λ (o : Hit). or_else o (first (holds b a) ys)) h.held ∙ sym (first_append (holds b a) xs ys);
        right = g.right;
      }

pub held_is : (b : List ℕ) (a : ℕ) (is : List ℕ) (r q : Option Place) → FirstHeld b a is r → r ≡ q → FirstHeld b a is q
held_is b a is r q h e = subst (FirstHeld b a is) e h

pub held_middle : (b : List ℕ) (a : ℕ) → FirstHeld b a (ways small a) None → (r : Option Place) → FirstHeld b a (ways middle a) r
    → (at l : ℕ) → r ≡ place at l → FirstHeld b a (all_ways a) (place at l)
held_middle b a h r g at l e =
    later b a (ways small a) (ways middle a ++ ways large a) (place at l) h
    (here b a (ways middle a) (ways large a) at l (held_is b a (ways middle a) r (place at l) g e))

pub held_large : (b : List ℕ) (a : ℕ) → FirstHeld b a (ways small a ++ ways middle a) None → (r : Option Place) → FirstHeld b a (ways large a) r
    → FirstHeld b a (all_ways a) r
held_large b a h r g = later b a (ways small a ++ ways middle a) (ways large a) r h g

-- ---- what is known, by where it begins
module _ (b : List ℕ) (a : ℕ) (r : Start) (h : Begins b a r) where
  pub begins_absent : r ≡ Nowhere → FirstHeld b a (all_ways a) None
  begins_absent e = subst (Begins b a) e h

-- ---- the first that holds the page, and is one's own, is the first match; where none holds it there is none
own_first : (p q m : ℕ → Bool) → ((i : ℕ) → p i ≡ q i && m i) → (xs : List ℕ) (i : ℕ) → hit i ≡ first q xs → m i ≡ true → hit i ≡ first p xs
own_first p q m e [] i h g = h
own_first p q m e (x ∷ xs) i h g = rw (e x) (go (q x) h (λ f. own_first p q m e xs i f g))
  where
    go : (t : Bool) → hit i ≡ cond t (hit x) (first q xs) → (hit i ≡ first q xs → hit i ≡ first p xs) → hit i ≡ cond (t && m x) (hit x) (first p xs)
    go true f k = let j : i ≡ x = cc in rw (← j, g)
    go false f k = k f

none_first : (p q m : ℕ → Bool) → ((i : ℕ) → p i ≡ q i && m i) → (xs : List ℕ) → miss ≡ first q xs → miss ≡ first p xs
none_first p q m e [] h = h
none_first p q m e (x ∷ xs) h = rw (e x) (go (q x) h (λ f. none_first p q m e xs f))
  where
    go : (t : Bool) → miss ≡ cond t (hit x) (first q xs) → (miss ≡ first q xs → miss ≡ first p xs) → miss ≡ cond (t && m x) (hit x) (first p xs)
    go true f k = cc
    go false f k = k f

abbrev is_match : List ℕ → ℕ → ℕ → Bool
is_match b a i = matches (pcid (decode b)) a i (tag_in b i)

pub look_own : (b : List ℕ) (a at l p : ℕ) (x : Bool) → FirstHeld b a (all_ways a) (place at l) → p ≡ pcid (decode b) → x ≡ is_of p (tag_in b (at / 16))
    → x ≡ true → Looks b a (place at l)
look_own b a at l p x h ep ex t =
    record {
      first =
          own_first (is_match b a) (holds b a) (λ j. is_of (pcid (decode b)) (tag_in b j)) (λ j. refl) (all_ways a) (at / 16) h.held
          (rw (← ep) (sym ex ∙ t));
      right = h.right;
    }

pub look_none : (b : List ℕ) (a : ℕ) → FirstHeld b a (all_ways a) None → Looks b a None
look_none b a h =
    record {
      first = none_first (is_match b a) (holds b a) (λ j. is_of (pcid (decode b)) (tag_in b j)) (λ j. refl) (all_ways a) h.held;
      right = tt;
    }

-- ---- way by way: what is left to look at from the k-th on
pub record Searched (b : List ℕ) (a k : ℕ) : Type 0 where
  pub few : k ≤ 12
  pub rest : find (decode b) a ≡ first (is_match b a) (drop k (all_ways a))

-- the k-th way
four : (s r : ℕ) (xs : List ℕ) → r < 4 → get_or (4 * s ∷ (4 * s + 1) ∷ (4 * s + 2) ∷ (4 * s + 3) ∷ xs) r 0 ≡ 4 * s + r
four s zero xs h = sym (add-zero (4 * s))
four s (suc zero) xs h = refl
four s (suc (suc zero)) xs h = refl
four s (suc (suc (suc zero))) xs h = refl
four s (suc (suc (suc (suc r)))) xs h = absurd (omega arith)

nth : (a q r : ℕ) → q < 3 → r < 4 → get_or (all_ways a) (r + 4 * q) 0 ≡ 4 * set_of (size_at (1 + q)) a + r
nth a zero r h g = rw add-zero (four (set_of small a) r (ways middle a ++ ways large a) g)
nth a (suc zero) r h g = rw add-four (four (set_of middle a) r (ways large a) g)
nth a (suc (suc zero)) r h g = rw add_eight (four (set_of large a) r [] g)
nth a (suc (suc (suc q))) r h g = absurd (omega arith)

pub way_size : (k : ℕ) (z : Size) → k < 12 → z ≡ size_at (1 + k / 4) → Is z
way_size k z h e = subst Is (sym e) (size_at_lem (1 + k / 4) (omega arith) (omega arith))

module _ (b : List ℕ) (a k : ℕ) (h : Searched b a k) (g : k < 12) (z : Size) (ez : z ≡ size_at (1 + k / 4))
    (n s : ℕ) (en : n ≡ page_number z a) (es : s ≡ z.first + n % z.sets)
    (p : ℕ) (ep : p ≡ pcid (decode b)) (x y : Bool)
    (ex : x ≡ holds_page n (word_at b (32 + 16 * (4 * s + k % 4)))) (ey : y ≡ is_of p (tag_in b (16 * (4 * s + k % 4) / 16))) where
  slot_is : 16 * (4 * s + k % 4) / 16 ≡ 4 * s + k % 4
  slot_is = omega arith

  this_way : get_or (all_ways a) k 0 ≡ 4 * s + k % 4
  this_way =
      let c : k % 4 + 4 * (k / 4) ≡ k = omega arith in
      rw c at (nth a (k / 4) (k % 4) (omega arith) (omega arith))
      ∙ ap (λ (w : Size). 4 * set_of w a + k % 4) (sym ez) ∙ ap (λ (w : ℕ). 4 * w + k % 4) (sym (own_set b a z n s (way_size k z g ez) en es))

  decided : (t : Bool) → (x && y) ≡ t → find (decode b) a ≡ cond t (hit (4 * s + k % 4)) (first (is_match b a) (drop (k + 1) (all_ways a)))
  decided t e =
      let m : is_match b a (4 * s + k % 4) ≡ t =
      ap₂ ◌&&◌ (slot_holds b a z n s (way_size k z g ez) en es (4 * s + k % 4) (32 + 16 * (4 * s + k % 4)) x x (omega arith) (omega arith) ex refl)
      (rw (← ep) (sym (rw slot_is at ey))) ∙ e in
      h.rest ∙ ap (first (is_match b a)) (drop-cons (all_ways a) k 0 g) ∙ rw (this_way, m, add-one k)

  pub look_found : (x && y) ≡ true → Looks b a (place (16 * (4 * s + k % 4)) z.length)
  look_found e =
      record {
        first = ap hit slot_is ∙ sym (decided true e);
        right = slot_right b a z n s (way_size k z g ez) en es (16 * (4 * s + k % 4)) (omega arith) (omega arith);
      }

  pub look_next : (x && y) ≡ false → Searched b a (k + 1)
  look_next e = record { few = omega arith; rest = decided false e }
