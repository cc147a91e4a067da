-- The ways through the functions of `drops`: what each return of the code has to show, from what holds on its way.
use Prim.Native.Nat.{ℕ, ◌+◌, ◌-◌, ◌*◌, ◌/◌, ◌%◌, ◌≤◌, ◌<◌}
use mathlib.Core.Path.{◌≡◌, refl, ap, ap₂, sym, ◌∙◌}
use mathlib.Core.Bool.{Bool, true, false, ◌&&◌, ◌||◌, and-true, and-false, or-true, and-or_distrib_right}
use mathlib.Core.List.{List, ◌++◌, Memᴰ}
use native.Mathlib.Omega.{arith}
use lib.ListN.{length, take, drop, replicate, length-drop, take-append-drop}
use lib.Seq.{length-take-le}
use lib.Dec.{eqb}
use lib.Bits.{bit_and}
use borrow.Author.Tests.{eqb-true}
use Rattle.rules.specs.Bits.{word_at}
use Rattle.rules.specs.Sizes.{small, middle, large, page_number, set_of, ways}
use Rattle.rules.specs.Image.{is_held, is_global, pcid_in, page_in, IsImage}
use Rattle.rules.specs.Buffer.{contains, matches}
use Rattle.rules.specs.Refusals.{all_zero}
use Rattle.rules.specs.declared.Size.{Size}
use Rattle.rules.proofs.BoolLaws.{same, or_left, or_right}
use Rattle.rules.proofs.ImageLaws.{zeros}
use Rattle.rules.proofs.PlaceLaws.{tag_at_lem}
use Rattle.rules.proofs.SizeLaws.{in_ways}
use Rattle.sets.specs.Ways.{tag_in, any_held, is_masked}
use Rattle.sets.proofs.TagTests.{test_nothing, test_not_global, test_of_pcid, test_held, test_global, test_pcid, test_page}
use Rattle.drops.specs.Drops.{dropped_in, every, not_global, every_of, every_of_at, is_asked, masked, is_from, every_from, masked_from, masked_of}
use Rattle.drops.proofs.DropLaws.{dropped_as, twice_dropped, none_dropped, bytes_emptied}
use Rattle.drops.proofs.SetTests.{joined, from_none, from_all, in_one, in_set_lem, any_size}

-- ---- empty_from
pub slots_cleared : (b u : List ℕ) (l h : ℕ) → IsImage b → l ≤ h → h ≤ 100
    → u ≡ replicate (length (take (32 + h * 16 - (32 + l * 16)) (drop (32 + l * 16) b))) 0
    → take (32 + l * 16) b ++ (u ++ drop (32 + h * 16 - (32 + l * 16)) (drop (32 + l * 16) b)) ≡ dropped_in (every_from l h) b
slots_cleared b u l h q f g e =
    let n : 32 + h * 16 - (32 + l * 16) ≡ (h - l) * 16 = omega arith in
    let s : l + (h - l) ≡ h = omega arith in
    let m : length (take ((h - l) * 16) (drop (32 + l * 16) b)) ≡ (h - l) * 16 =
    length-take-le ((h - l) * 16) (drop (32 + l * 16) b) (rw length-drop (omega (arith, q.size))) in
    rw (e, n, m) (sym (rw s at (bytes_emptied l (h - l) b q (omega arith))))

-- ---- drop_slot
module _ (b : List ℕ) (i mask want own whose n : ℕ) (q : IsImage b) (h : i < 100) (g : n ≡ word_at b (32 + i * 16)) where
  asked : (x o y : Bool) → x ≡ is_masked mask want n → o ≡ is_masked own whose n → (eqb (bit_and n 2) 2 || o) ≡ y → is_asked mask want own whose (tag_in b i) ≡ (x && y)
  asked x o y e f k = rw (tag_at_lem b i h, ← g, ← test_global n) (ap₂ ◌&&◌ (sym e) (ap (λ (c : Bool). eqb (bit_and n 2) 2 || c) (sym f) ∙ k))

  one_test : (c : Bool) → is_asked mask want own whose (tag_in b i) ≡ c → (j : ℕ) → masked_from i (i + 1) mask want own whose j (tag_in b j) ≡ (is_from i (i + 1) j && c)
  one_test c e j = in_one (λ x. is_asked mask want own whose (tag_in b x)) i j ∙ ap (λ (y : Bool). is_from i (i + 1) j && y) e

  kept : is_asked mask want own whose (tag_in b i) ≡ false → b ≡ dropped_in (masked_from i (i + 1) mask want own whose) b
  kept e = none_dropped (masked_from i (i + 1) mask want own whose) b q (λ j k. one_test false e j ∙ and-false (is_from i (i + 1) j))

  pub slot_dropped : (b' : List ℕ) (x o : Bool) → x ≡ is_masked mask want n → x ≡ true → o ≡ is_masked own whose n → (eqb (bit_and n 2) 2 || o) ≡ true
      → b' ≡ dropped_in (every_from i (i + 1)) b → b' ≡ dropped_in (masked_from i (i + 1) mask want own whose) b
  slot_dropped b' x o e t f k d =
      d
      ∙ dropped_as (every_from i (i + 1)) b q _
      (λ j m. sym (one_test true (asked x o true e f k ∙ ap (λ (c : Bool). c && true) t) j ∙ and-true _))

  pub slot_of_another : (x o : Bool) → x ≡ is_masked mask want n → o ≡ is_masked own whose n → (eqb (bit_and n 2) 2 || o) ≡ false
      → b ≡ dropped_in (masked_from i (i + 1) mask want own whose) b
  slot_of_another x o e f k = kept (asked x o false e f k ∙ and-false x)

  pub slot_unwanted : (x : Bool) → x ≡ is_masked mask want n → x ≡ false → b ≡ dropped_in (masked_from i (i + 1) mask want own whose) b
  slot_unwanted x e t = kept (asked x _ _ e refl refl ∙ ap (λ (c : Bool). c && (eqb (bit_and n 2) 2 || is_masked own whose n)) t)

-- ---- drop_from and sweep: the bytes once the slots before i are done
pub record Swept (b b' : List ℕ) (l h i mask want own whose : ℕ) : Type 0 where
  pub low : l ≤ i
  pub high : i ≤ h
  pub size : length b' ≡ length b
  pub done : b' ≡ dropped_in (masked_from l i mask want own whose) b

module _ (b : List ℕ) (l mask want own whose : ℕ) (q : IsImage b) where
  pub swept_none : (h : ℕ) → l ≤ h → Swept b b l h l mask want own whose
  swept_none h g =
      record {
        low = omega arith;
        high = g;
        size = refl;
        done = none_dropped (masked_from l l mask want own whose) b q (λ i k. rw (from_none l i));
      }

  pub swept_more : (b' b'' : List ℕ) (i k : ℕ) → l ≤ i → b' ≡ dropped_in (masked_from l i mask want own whose) b
      → b'' ≡ dropped_in (masked_from i (i + k) mask want own whose) b' → b'' ≡ dropped_in (masked_from l (i + k) mask want own whose) b
  swept_more b' b'' i k g d e =
      twice_dropped (masked_from l i mask want own whose) b q (masked_from i (i + k) mask want own whose) b' b'' d e
      ∙ dropped_as _ b q (masked_from l (i + k) mask want own whose)
      (λ j m. sym (and-or_distrib_right (is_from l i j) (is_from i (i + k) j) (is_asked mask want own whose (tag_in b j)))
      ∙ ap (λ (c : Bool). c && is_asked mask want own whose (tag_in b j)) (joined l i (i + k) j g (omega arith)))

  pub swept_block : (b' b'' : List ℕ) (n : ℕ) → l ≤ n * 20 → b' ≡ dropped_in (masked_from l (n * 20) mask want own whose) b
      → b'' ≡ dropped_in (masked_from (n * 20) (n * 20 + 20) mask want own whose) b' → b'' ≡ dropped_in (masked_from l ((n + 1) * 20) mask want own whose) b
  swept_block b' b'' n g d e =
      let q : (n + 1) * 20 ≡ n * 20 + 20 = omega arith in
      rw q (swept_more b' b'' (n * 20) 20 g d e)

  pub swept_all : (b' : List ℕ) (h i : ℕ) → Swept b b' l h i mask want own whose → h ≤ i → b' ≡ dropped_in (masked_from l h mask want own whose) b
  swept_all b' h i w g =
      let e : i ≡ h = omega arith in
      rw e at w.done

-- ---- is_bare
module _ (b : List ℕ) (l : ℕ) (n : length b ≡ 2048) (h : l ≤ 80) where
  abbrev block : List ℕ
  block = take 320 (drop (32 + l * 16) b)

  block_zeros : all_zero block ≡ true → block ≡ replicate 320 0
  block_zeros z =
      let m : length block ≡ 320 = length-take-le 320 (drop (32 + l * 16) b) (rw length-drop (omega arith)) in
      rw m at (zeros block z)

-- ---- drop_block: what is zero is as if it had been emptied, and what was emptied has nothing more to drop
pub block_passed : (b : List ℕ) (l mask want : ℕ) (x : Bool) → IsImage b → l ≤ 80 → x ≡ all_zero (take 320 (drop (32 + l * 16) b)) → x ≡ true
    → b ≡ dropped_in (masked_from l (l + 20) mask want 0 0) b
block_passed b l mask want x q h e t =
    let whole : b ≡ dropped_in (every_from l (l + 20)) b =
    sym (take-append-drop (32 + l * 16) b)
    ∙ ap (λ (y : List ℕ). take (32 + l * 16) b ++ y) (sym (take-append-drop 320 (drop (32 + l * 16) b))
    ∙ ap (λ (y : List ℕ). y ++ drop 320 (drop (32 + l * 16) b)) (block_zeros b l q.size h (sym e ∙ t)))
    ∙ sym (bytes_emptied l 20 b q (omega arith)) in
    whole
    ∙ sym
    (twice_dropped (every_from l (l + 20)) b q (masked_from l (l + 20) mask want 0 0) b _ whole refl
    ∙ dropped_as _ b q (every_from l (l + 20)) (λ i k. same 2 (λ f g. f || (f && g)) (λ f g. f) refl (is_from l (l + 20) i) (is_asked mask want 0 0 (tag_in b i))))

-- ---- sweep, and what is dropped by it
asks_nothing : (mask want t : ℕ) → is_asked mask want 0 0 t ≡ is_masked mask want t
asks_nothing mask want t = rw (test_nothing t, or-true (is_global t)) (and-true (is_masked mask want t))

pub all_swept : (b b' : List ℕ) (n mask want : ℕ) → IsImage b → Swept b b' 0 100 (n * 20) mask want 0 0 → 5 ≤ n → b' ≡ dropped_in (masked mask want) b
all_swept b b' n mask want q w g =
    swept_all b 0 mask want 0 0 q b' 100 (n * 20) w (omega arith)
    ∙ dropped_as (masked_from 0 100 mask want 0 0) b q (masked mask want) (λ j k. rw (from_all j k) (asks_nothing mask want (tag_in b j)))

pub everything_dropped : (b b' : List ℕ) → IsImage b → b' ≡ dropped_in (every_from 0 100) b → b' ≡ dropped_in every b
everything_dropped b b' q e = e ∙ dropped_as (every_from 0 100) b q every from_all

pub not_global_dropped : (b b' : List ℕ) → IsImage b → b' ≡ dropped_in (masked 2 0) b → b' ≡ dropped_in not_global b
not_global_dropped b b' q e = e ∙ dropped_as (masked 2 0) b q not_global (λ i k. test_not_global (tag_in b i))

pub pcid_dropped : (b b' : List ℕ) (p : ℕ) → IsImage b → b' ≡ dropped_in (masked 0x3FFE (p * 4)) b → b' ≡ dropped_in (every_of p) b
pcid_dropped b b' p q e = e ∙ dropped_as (masked 0x3FFE (p * 4)) b q (every_of p) (λ i k. test_of_pcid p (tag_in b i))

-- ---- drop_page
pub page_dropped : (z : Size) (b b' : List ℕ) (a page set mask want own whose : ℕ) → IsImage b → mask < 0x4000 → want < 0x4000
    → page ≡ page_number z a → set ≡ z.first + page % z.sets
    → b' ≡ dropped_in (masked_from (4 * set) (4 * set + 4) (0x3FFFFFFFFC000 + mask) (page * 0x4000 + want) own whose) b
    → b' ≡ dropped_in (masked_of z a mask want own whose) b
page_dropped z b b' a page set mask want own whose q h g p s e =
    rw (s, p) at e
    ∙ dropped_as (masked_from (4 * set_of z a) (4 * set_of z a + 4) (0x3FFFFFFFFC000 + mask) (page_number z a * 0x4000 + want) own whose) b q
    (masked_of z a mask want own whose)
    (λ i k. rw (in_set_lem (set_of z a) i, test_page mask (tag_in b i) h (page_number z a) want g)
    (same 4 (λ s p m o. s && (p && m && o)) (λ s p m o. (s && p) && (m && o)) refl (eqb (i / 4) (set_of z a)) (eqb (page_in (tag_in b i)) (page_number z a))
    (is_masked mask want (tag_in b i)) (is_global (tag_in b i) || is_masked own whose (tag_in b i))))

-- ---- drop_held: where no way of the page's set is held there is nothing to drop
not_held : (b : List ℕ) {i : ℕ} {is : List ℕ} → Memᴰ i is → any_held b is ≡ false → is_held (tag_in b i) ≡ false
not_held b (Memᴰ.head {x} {xs} e) h = rw e (or_left (is_held (tag_in b x)) (any_held b xs) h)
not_held b (Memᴰ.tail {x} {xs} m) h = not_held b m (or_right (is_held (tag_in b x)) (any_held b xs) h)

pub none_held : (z : Size) (b : List ℕ) (a own whose : ℕ) (x : Bool) → IsImage b → x ≡ any_held b (ways z a) → x ≡ false
    → b ≡ dropped_in (masked_of z a 1 1 own whose) b
none_held z b a own whose x q e f =
    none_dropped (masked_of z a 1 1 own whose) b q (λ i k. go i (eqb (i / 4) (set_of z a)) refl)
  where
    go : (i : ℕ) (c : Bool) → eqb (i / 4) (set_of z a) ≡ c → ((c && eqb (page_in (tag_in b i)) (page_number z a)) && is_asked 1 1 own whose (tag_in b i)) ≡ false
    go i true k =
        rw (test_held (tag_in b i), not_held b (in_ways z a i (eqb-true (i / 4) (set_of z a) k)) (sym e ∙ f))
        (and-false (eqb (page_in (tag_in b i)) (page_number z a)))
    go i false k = refl

-- ---- one size after another is every size: a slot has one size
sizes_dropped : (b b₁ b₂ b₃ : List ℕ) (z₁ z₂ z₃ : Size) (a mask want own whose : ℕ) → IsImage b → z₁ ≡ small → z₂ ≡ middle → z₃ ≡ large
    → b₁ ≡ dropped_in (masked_of z₁ a mask want own whose) b → b₂ ≡ dropped_in (masked_of z₂ a mask want own whose) b₁
    → b₃ ≡ dropped_in (masked_of z₃ a mask want own whose) b₂ → b₃ ≡ dropped_in (λ i t. contains a i t && is_asked mask want own whose t) b
sizes_dropped b b₁ b₂ b₃ z₁ z₂ z₃ a mask want own whose q e₁ e₂ e₃ d₁ d₂ d₃ =
    let test : Size → ℕ → ℕ → Bool = λ z. masked_of z a mask want own whose in
    let d : b₂ ≡ dropped_in (λ i t. test small i t || test middle i t) b =
    twice_dropped (test small) b q (test middle) b₁ b₂ (rw e₁ at d₁) (rw e₂ at d₂) in
    twice_dropped _ b q (test large) b₂ b₃ d (rw e₃ at d₃) ∙ dropped_as _ b q _ (λ i k. any_size a mask want own whose i (tag_in b i))

module _ (b b₁ b₂ b₃ : List ℕ) (z₁ z₂ z₃ : Size) (a p : ℕ) (q : IsImage b) (e₁ : z₁ ≡ small) (e₂ : z₂ ≡ middle) (e₃ : z₃ ≡ large) where
  pub matches_dropped : b₁ ≡ dropped_in (masked_of z₁ a 1 1 0x3FFC (p * 4)) b → b₂ ≡ dropped_in (masked_of z₂ a 1 1 0x3FFC (p * 4)) b₁
      → b₃ ≡ dropped_in (masked_of z₃ a 1 1 0x3FFC (p * 4)) b₂ → b₃ ≡ dropped_in (matches p a) b
  matches_dropped d₁ d₂ d₃ =
      sizes_dropped b b₁ b₂ b₃ z₁ z₂ z₃ a 1 1 0x3FFC (p * 4) q e₁ e₂ e₃ d₁ d₂ d₃
      ∙ dropped_as _ b q (matches p a)
      (λ i k. rw (test_held (tag_in b i), test_pcid p (tag_in b i))
      (same 3 (λ h c o. c && (h && o)) (λ h c o. h && c && o) refl (is_held (tag_in b i)) (contains a i (tag_in b i))
      (is_global (tag_in b i) || eqb (pcid_in (tag_in b i)) p)))

  pub address_dropped : b₁ ≡ dropped_in (masked_of z₁ a 0x3FFE (p * 4) 0 0) b → b₂ ≡ dropped_in (masked_of z₂ a 0x3FFE (p * 4) 0 0) b₁
      → b₃ ≡ dropped_in (masked_of z₃ a 0x3FFE (p * 4) 0 0) b₂ → b₃ ≡ dropped_in (every_of_at p a) b
  address_dropped d₁ d₂ d₃ =
      sizes_dropped b b₁ b₂ b₃ z₁ z₂ z₃ a 0x3FFE (p * 4) 0 0 q e₁ e₂ e₃ d₁ d₂ d₃
      ∙ dropped_as _ b q (every_of_at p a)
      (λ i k. ap (λ (c : Bool). contains a i (tag_in b i) && c) (asks_nothing 0x3FFE (p * 4) (tag_in b i) ∙ test_of_pcid p (tag_in b i)))
