-- What each function computes is the rules' number, from what its calls tell.
use Prim.Native.Nat.{ℕ, zero, suc, ◌+◌, ◌*◌, ◌/◌, ◌%◌, ◌^◌, ◌≤◌, ◌<◌}
use mathlib.Core.Path.{◌≡◌, refl, ap, ap₂, sym, ◌∙◌, subst}
use mathlib.Core.Bool.{Bool, true, false, cond, ◌&&◌, ◌||◌, not}
use mathlib.Core.List.{List}
use native.Mathlib.Omega.{arith}
use native.Mathlib.Nat.{mod-lt, div-add-mod}
use lib.Dec.{eqb, ltb}
use lib.Bits.{bit_and, bit_or}
use borrow.Author.Tests.{eqb-true, ne_eqb, lt-ltb, le-ltb}
use Rattle.rules.specs.Bits.{bit, is_on, one, word_at}
use Rattle.rules.specs.Image.{decode, wp, smep, smap}
use Rattle.rules.specs.Entries.{keeps_off}
use Rattle.rules.specs.Buffer.{serves}
use Rattle.rules.specs.Answers.{tells_fetch, code}
use Rattle.rules.specs.Calls.{access_of}
use Rattle.rules.specs.declared.Control.{Control}
use Rattle.rules.specs.declared.Access.{Access}
use Rattle.rules.specs.declared.Cause.{Cause}
use Rattle.rules.specs.declared.Cause.TheVariants.{NotPresent, Reserved, Protection}
use Rattle.rules.proofs.BoolLaws.{and_left, and_right, same}
use Rattle.rules.proofs.BitLaws.{one_le, on_one}
use Rattle.rules.proofs.PlaceLaws.{flags_at, cr3_at}
use Rattle.words.proofs.Masks.{and_one, and_flag}
use Rattle.numbers.specs.Needs.{IsPcid, needed_from, needed_of, clear_of, IsAccess, ForEach}

-- ---- numbers that are alike for each of the six kinds, a flag off or on: this is computed of the constants that the code has
abbrev below : ℕ → (ℕ → Bool) → Bool
below zero p = true
below (suc n) p = p zero && below n (λ k. p (suc k))

below_at : (n : ℕ) (p : ℕ → Bool) → below n p ≡ true → (k : ℕ) → k < n → p k ≡ true
below_at zero p h k l = absurd (omega arith)
below_at (suc n) p h zero l = and_left (p zero) (below n (λ k. p (suc k))) h
below_at (suc n) p h (suc k) l = below_at n (λ j. p (suc j)) (and_right (p zero) (below n (λ j. p (suc j))) h) k (omega arith)

-- AC is not asked for
abbrev alike_for : (ℕ → ℕ → ℕ) → (Bool → Access → ℕ) → ℕ → Bool → Bool
alike_for p q k t = eqb (p (one t) k) (q t (access_of k 0))

abbrev alike : (ℕ → ℕ → ℕ) → (Bool → Access → ℕ) → Bool
alike p q = below 6 (λ k. alike_for p q k false && alike_for p q k true)

alike_at : (p : ℕ → ℕ → ℕ) (q : Bool → Access → ℕ) → alike p q ≡ true → (t : Bool) (k : ℕ) → k ≤ 5 → p (one t) k ≡ q t (access_of k 0)
alike_at p q h t k l = eqb-true (p (one t) k) (q t (access_of k 0)) (go t (below_at 6 (λ k. alike_for p q k false && alike_for p q k true) h k (omega arith)))
  where
    go : (t : Bool) → (alike_for p q k false && alike_for p q k true) ≡ true → alike_for p q k t ≡ true
    go false e = and_left (alike_for p q k false) (alike_for p q k true) e
    go true e = and_right (alike_for p q k false) (alike_for p q k true) e

-- ---- an access as a number
-- the supervisor's reads and writes, its fetches, and the user's accesses
by_ac : (p q s : Bool) → (p && not (not q)) ≡ ((true && (p && q)) || (false && s))
by_ac = same 3 (λ p q s. p && not (not q)) (λ p q s. (true && (p && q)) || (false && s)) refl

keeps_kinds : (f k ac : ℕ) → k ≤ 5 → keeps_off f (access_of k ac) ≡ ((ltb k 2 && (smap f && eqb ac 0)) || (eqb k 2 && smep f))
keeps_kinds f zero ac l = by_ac (smap f) (eqb ac 0) (smep f)
keeps_kinds f (suc zero) ac l = by_ac (smap f) (eqb ac 0) (smep f)
keeps_kinds f (suc (suc zero)) ac l = refl
keeps_kinds f (suc (suc (suc zero))) ac l = refl
keeps_kinds f (suc (suc (suc (suc zero)))) ac l = refl
keeps_kinds f (suc (suc (suc (suc (suc zero))))) ac l = refl
keeps_kinds f (suc (suc (suc (suc (suc (suc k)))))) ac l = absurd (omega arith)

module _ (f k ac : ℕ) (h : k < 2) where
  data_kept : keeps_off f (access_of k ac) ≡ (smap f && eqb ac 0)
  data_kept =
      rw (keeps_kinds f k ac (omega arith), lt-ltb k 2 h, ne_eqb k 2 (omega arith)) (same 1 (λ p. (true && p) || false) (λ p. p) refl (smap f && eqb ac 0))

  pub keeps_data : (s : Bool) → ac ≡ 0 → s ≡ is_on 6 f → s ≡ keeps_off f (access_of k ac)
  keeps_data s z e = rw (data_kept, z, ← e) (same 1 (λ p. p) (λ p. p && true) refl s)

  pub keeps_none : (ac ≡ 0 → ⊥) → false ≡ keeps_off f (access_of k ac)
  keeps_none n = rw (data_kept, ne_eqb ac 0 n) (same 1 (λ p. false) (λ p. p && false) refl (smap f))

pub keeps_fetch : (f k ac : ℕ) (s : Bool) → 2 ≤ k → k ≤ 5 → s ≡ is_on 5 f → (eqb k 2 && s) ≡ keeps_off f (access_of k ac)
keeps_fetch f k ac s h l e = rw (keeps_kinds f k ac l, le-ltb k 2 h, ← e)

all_kinds : (f k ac : ℕ) → k ≤ 5 → f < 32 → IsAccess f k (access_of k ac)
all_kinds f k ac l h =
    let p : smep f ≡ false = ne_eqb (bit 5 f) 1 (λ e. omega arith) in
    let q : smap f ≡ false = ne_eqb (bit 6 f) 1 (λ e. omega arith) in
    let n : keeps_off f (access_of k ac) ≡ false =
    rw (keeps_kinds f k ac l, p, q) (same 2 (λ x y. (x && false) || (y && false)) (λ x y. false) refl (ltb k 2) (eqb k 2)) in
    record { kind = k; ac = ac; known = l; access_is = refl; number = rw n (omega arith) }

module _ (b : List ℕ) (f k ac : ℕ) (hf : f ≡ word_at b 8) (l : k ≤ 5) where
  flags_are : (decode b).flags ≡ f
  flags_are = flags_at b ∙ sym hf

  pub by_kind : f < 32 → IsAccess (decode b).flags k (access_of k ac)
  by_kind h = rw flags_are (all_kinds f k ac l h)

  pub kept_off : (x : ℕ) (o : Bool) → o ≡ keeps_off f (access_of k ac) → x ≡ one o → IsAccess (decode b).flags (k + 16 * x) (access_of k ac)
  kept_off x o h e = record { kind = k; ac = ac; known = l; access_is = refl; number = rw (flags_are, e, h) (omega arith) }

-- and what is read off it: the kind, below 8, and what must be clear
module _ (f n : ℕ) (k : Access) (is : IsAccess f n k) where
  kind_16 : n % 16 ≡ is.kind
  kind_16 = omega (arith, is.number, is.known, one_le (keeps_off f k))

  kind_8 : n % 8 ≡ is.kind
  kind_8 = omega (arith, is.number, is.known, one_le (keeps_off f k))

  pub clear_is : n / 8 ≡ clear_of f k
  clear_is = omega (arith, is.number, is.known, one_le (keeps_off f k))

-- ---- the current PCID
pub pcid_on : (b : List ℕ) (f r : ℕ) (k : Bool) → f ≡ word_at b 8 → r ≡ word_at b 16 → k ≡ is_on 3 f → k ≡ true
    → IsPcid b (r % 4096)
pcid_on b f r k hf hr hk t =
    let e : r / 1 % 4096 ≡ r % 4096 = omega arith in
    record { current = rw (flags_at b, cr3_at b, ← hf, ← hr, ← hk, t, e); low = omega arith }

pub pcid_off : (b : List ℕ) (f : ℕ) (k : Bool) → f ≡ word_at b 8 → k ≡ is_on 3 f → k ≡ false → IsPcid b 0
pcid_off b f k hf hk t = record { current = rw (flags_at b, ← hf, ← hk, t); low = omega arith }

-- ---- rights: what an access needs is four bits of a number, and is a conjunction of the datum's bits
abbrev need_at : ℕ → ℕ → ℕ → ℕ → ℕ
need_at m w x k = (m + x * w) / 2 ^ (k * 4) % 16

pub needed_is : (m w f n : ℕ) → alike (need_at m w) needed_from ≡ true → ForEach f n (λ k. need_at m w (f / 2 % 2) (n % 16) ≡ needed_of f k)
needed_is m w f n h k is =
    ap₂ (need_at m w) (on_one 1 f) (kind_16 f n k is)
    ∙ alike_at (need_at m w) needed_from h (wp f) is.kind is.known
    ∙ ap (needed_from (wp f)) (sym is.access_is)

pub has_bits : (d : ℕ) (w x u t : Bool)
    → bit_and d (one w * 8 + (one x * 4 + (one u * 2 + one t))) ≡ one (w && is_on 3 d) * 8 + (one (x && is_on 2 d) * 4 + (one (u && is_on 1 d) * 2 + one (t && is_on 0 d)))
has_bits d w x u t =
    rw (
      and_flag 3 d (one x * 4 + (one u * 2 + one t)) (omega (arith, one_le x, one_le u, one_le t)) w,
      and_flag 2 d (one u * 2 + one t) (omega (arith, one_le u, one_le t)) x,
      and_flag 1 d (one t) (omega (arith, one_le t)) u,
      and_one d t,
      bit_nought d,
    )
  where
    bit_nought : (d : ℕ) → d % 2 ≡ d / 2 ^ 0 % 2
    bit_nought d = omega arith

-- what must be set or clear
either_bits : (w x u t o : Bool) → bit_or (one w * 8 + (one x * 4 + (one u * 2 + one t))) (2 * one o) ≡ one w * 8 + (one x * 4 + (one (u || o) * 2 + one t))
either_bits w x u t o =
    eqb-true _ _
    (same 5 (λ w x u t o. eqb (bit_or (one w * 8 + (one x * 4 + (one u * 2 + one t))) (2 * one o)) (one w * 8 + (one x * 4 + (one (u || o) * 2 + one t))))
    (λ w x u t o. true) refl w x u t o)

pub serves_is : (f n d m : ℕ) → ForEach f n (λ k. m ≡ needed_of f k)
    → (c : Control) → c.flags ≡ f → ForEach c.flags n (λ k. eqb (bit_and d (bit_or m (n / 8))) m ≡ serves c k d)
serves_is f n d m e c g k of =
    let is : IsAccess f n k = subst (λ (x : ℕ). IsAccess x n k) g of in
    let o : Bool = not k.user && cond k.fetch (smep f) (smap f && not k.ac) in
    rw (
      e k is,
      clear_is f n k is,
      either_bits k.write k.fetch k.user (k.write && (k.user || wp f)) o,
      g,
      has_bits d k.write k.fetch (k.user || o) (k.write && (k.user || wp f)),
    )
    (same 11
    (λ w x u p q r s b₃ b₂ b₁ b₀.
    let o : Bool = not u && cond x q (r && not s) in
    eqb (one (w && b₃) * 8 + (one (x && b₂) * 4 + (one ((u || o) && b₁) * 2 + one ((w && (u || p)) && b₀))))
    (one w * 8 + (one x * 4 + (one u * 2 + one (w && (u || p))))))
    (λ w x u p q r s b₃ b₂ b₁ b₀.
    ((not u || b₁) && (not w || b₀ || (not u && not p)) && (not x || b₂) && not ((not u && cond x q (r && not s)) && b₁)) && (not w || b₃))
    refl k.write k.fetch k.user (wp f) (smep f) (smap f) k.ac (is_on 3 d) (is_on 2 d) (is_on 1 d) (is_on 0 d))

-- ---- addresses
pub base_fits : (d l : ℕ) → 1 ≤ l → d % 2 ^ 52 / l * l < 2 ^ 64
base_fits d l h = omega (arith, div-add-mod (d % 2 ^ 52) l)

pub sum_fits : (d a l : ℕ) → 1 ≤ l → l ≤ 2 ^ 30 → d % 2 ^ 52 / l * l + a % l < 2 ^ 64
sum_fits d a l h g = omega (arith, div-add-mod (d % 2 ^ 52) l, mod-lt a h)

-- ---- the code of a fault
pub tells_is : (f : ℕ) (p q : Bool) → p ≡ is_on 4 f → q ≡ is_on 5 f → (p || q) ≡ tells_fetch f
tells_is f p q hp hq = rw (hp, hq)

-- what it tells of the access is eight bits of a number, and the cause adds its own
abbrev asked_of : Bool → Access → ℕ
asked_of told k = 2 * one k.write + 4 * one k.user + 16 * one (k.fetch && told)

abbrev asked_at : ℕ → ℕ → ℕ → ℕ → ℕ
asked_at m w x k = (m + x * w) / 2 ^ (k * 8) % 256

module _ (m w : ℕ) (told : Bool) (n : ℕ) (cause : Cause) (x : ℕ) (all : alike (asked_at m w) asked_of ≡ true) (hx : x ≡ one told) (c : Control) (k : Access)
    (t : told ≡ tells_fetch c.flags) (is : IsAccess c.flags n k) where
  asked_is : asked_at m w x (n % 8) ≡ asked_of told k
  asked_is =
      ap₂ (asked_at m w) hx (kind_8 c.flags n k is) ∙ alike_at (asked_at m w) asked_of all told is.kind is.known ∙ ap (asked_of told) (sym is.access_is)

  pub not_present : cause ≡ NotPresent → asked_at m w x (n % 8) ≡ code c k cause
  not_present e = rw (e, ← t, asked_is) (omega arith)

  pub reserved : cause ≡ Reserved → 9 + asked_at m w x (n % 8) ≡ code c k cause
  reserved e = rw (e, ← t, asked_is) (omega arith)

  pub protection : cause ≡ Protection → 1 + asked_at m w x (n % 8) ≡ code c k cause
  protection e = rw (e, ← t, asked_is) (omega arith)
