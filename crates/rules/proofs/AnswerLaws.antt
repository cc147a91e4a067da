-- The record tells the answer. Each number that a call answers fits a word of 64 bits: an address lies in a page below 2^52, or with paging off below 2^32;
-- a page's length, the entries read, a fault's code and a refusal's number are small. So the four words are read back out of the 32 bytes that a call
-- through the door writes. And a fault's code tells its cause.
use Prim.Native.Nat.{ℕ, zero, suc, ◌+◌, ◌%◌, ◌^◌, ◌≤◌, ◌<◌}
use mathlib.Core.Path.{◌≡◌, refl, ap, ◌∙◌, subst}
use mathlib.Core.Bool.{false, ◌&&◌}
use mathlib.Core.List.{List, [], ◌∷◌}
use native.Mathlib.Omega.{arith}
use lib.ListN.{length}
use borrow.Author.Tests.{leb-false}
use Rattle.rules.specs.Bits.{AreWords, words_of}
use Rattle.rules.specs.Sizes.{Is, is_small, is_middle, is_large, size_at, size_of}
use Rattle.rules.specs.Image.{Image, decode, control}
use Rattle.rules.specs.Memory.{Memory, entry_at}
use Rattle.rules.specs.Entries.{everything}
use Rattle.rules.specs.Walk.{Leaf, reached, reach_in, top, judged}
use Rattle.rules.specs.Buffer.{hit_address}
use Rattle.rules.specs.Answers.{Words, numbers, record_bytes, was_present, was_reserved, tells_fetch, code, answer_of}
use Rattle.rules.specs.Refusals.{Request, start_with, translate, invlpg, invpcid, write_cr3, write_mode, Refusal, lowest, refusals, refusal, no_address}
use Rattle.rules.specs.Calls.{After, access_of, accepted, Outcome, Left, call, door}
use Rattle.rules.specs.declared.Size.{Size}
use Rattle.rules.specs.declared.Control.{Control}
use Rattle.rules.specs.declared.Access.{Access}
use Rattle.rules.specs.declared.Cause.{Cause}
use Rattle.rules.specs.declared.Cause.TheVariants.{NotPresent, Reserved, Protection}
use Rattle.rules.specs.declared.Found.{Found}
use Rattle.rules.specs.declared.Answer.{Answer}
use Rattle.rules.proofs.BoolLaws.{either}
use Rattle.rules.proofs.BitLaws.{one_le}
use Rattle.rules.proofs.WordLaws.{all_length, words_all}
use Rattle.rules.proofs.SizeLaws.{size_at_lem, size_of_lem, length_in}
use Rattle.rules.proofs.WalkLaws.{IsLeaf, is_leaf, leaf_lt, read_range, found_cases}
use Rattle.rules.proofs.CallLaws.{door_written}
use Rattle.rules.proofs.RefusalLaws.{given}
use Rattle.rules.proofs.CallWays.{Called, taken, refused, called, Way, unpaged, answered, walks, way}

-- ---- the record and its 32 bytes
abbrev pub listed : Words → List ℕ
listed w = w.kind ∷ w.value ∷ w.size ∷ w.read ∷ []

pub record_length : (w : Words) → length (record_bytes w) ≡ 32
record_length w = all_length (listed w)

abbrev AreFit : Answer → Type 0
AreFit r = AreWords (listed (numbers r))

four : (k v s n : ℕ) → k < 2 ^ 64 → v < 2 ^ 64 → s < 2 ^ 64 → n < 2 ^ 64 → AreWords (k ∷ v ∷ s ∷ n ∷ [])
four k v s n hk hv hs hn zero = hk
four k v s n hk hv hs hn (suc zero) = hv
four k v s n hk hv hs hn (suc (suc zero)) = hs
four k v s n hk hv hs hn (suc (suc (suc zero))) = hn
four k v s n hk hv hs hn (suc (suc (suc (suc i)))) = omega arith

-- ---- what translate answers
code_lt : (c : Control) (k : Access) (cause : Cause) → code c k cause < 2 ^ 64
code_lt c k cause =
    omega (arith, one_le (was_present cause), one_le k.write, one_le k.user, one_le (was_reserved cause), one_le (k.fetch && tells_fetch c.flags))

hit_lt : (z : Size) (d a : ℕ) → Is z → hit_address z d a < 2 ^ 64
hit_lt z d a is_small = omega arith
hit_lt z d a is_middle = omega arith
hit_lt z d a is_large = omega arith

address_lt : (z : Size) (base a : ℕ) → Is z → base < 2 ^ 52 → base + a % z.length < 2 ^ 64
address_lt z base a is_small h = omega arith
address_lt z base a is_middle h = omega arith
address_lt z base a is_large h = omega arith

length_lt : (z : Size) → Is z → z.length < 2 ^ 64
length_lt z q = omega (arith, length_in z q)

module _ (s : Image) (mem : Memory) (k : Access) (a : ℕ) (narrow : s.width ≤ 52) where
  read_lt : (reach_in mem (control s) a).read < 2 ^ 64
  read_lt = omega (arith, read_range (entry_at mem) (control s) a (top (control s)) (control s).root everything (omega arith))

  walk_fits : AreFit (answer_of (control s) k a (judged (control s) k (reach_in mem (control s) a).end (reach_in mem (control s) a).read))
  walk_fits =
      found_cases (control s) k (reach_in mem (control s) a).read (λ (f : Found). AreFit (answer_of (control s) k a f)) (reach_in mem (control s) a).end (λ p e g. page p e)
      (λ cause. four 1 (code (control s) k cause) 0 _ (omega arith) (code_lt (control s) k cause) (omega arith) read_lt)
    where
      page : (p : Leaf) → (reach_in mem (control s) a).end ≡ reached p
          → AreWords (0 ∷ (p.base + a % (size_at p.level).length) ∷ (size_at p.level).length ∷ (reach_in mem (control s) a).read ∷ [])
      page p e =
          let l : IsLeaf (entry_at mem) (control s) p = is_leaf mem (control s) a p e in
          let z : Is (size_at p.level) = size_at_lem p.level l.low l.high in
          four 0 _ _ _ (omega arith) (address_lt (size_at p.level) p.base a z (leaf_lt (entry_at mem) (control s) p l narrow))
          (length_lt (size_at p.level) z) read_lt

  way_fits : no_address s a ≡ false → {o : After} → Way s mem k a o → AreFit o.answer
  way_fits ok (unpaged off) =
      let low : a < 2 ^ 32 = leb-false (2 ^ 32) a (rw off at ok) in
      four 0 a 0 0 (omega arith) (omega arith) (omega arith) (omega arith)
  way_fits ok (answered on i e g) =
      four 0 _ _ 0 (omega arith) (hit_lt (size_of i) (s.slots i).datum a (size_of_lem i)) (length_lt (size_of i) (size_of_lem i)) (omega arith)
  way_fits ok (walks on un) = walk_fits

-- ---- what any call answers
done_fits : AreWords (3 ∷ 0 ∷ 0 ∷ 0 ∷ [])
done_fits = four 3 0 0 0 (omega arith) (omega arith) (omega arith) (omega arith)

abbrev AllFit : List Refusal → Type 0
AllFit [] = Unit {0}
AllFit (r ∷ rs) = (r.number < 2 ^ 64) × AllFit rs

lowest_fits : (rs : List Refusal) → AllFit rs → lowest rs < 2 ^ 64
lowest_fits [] h = omega arith
lowest_fits (r ∷ rs) h = either (λ (n : ℕ). n < 2 ^ 64) r.applies r.number (lowest rs) (λ e. h.0) (λ e. lowest_fits rs h.1)

refusals_fit : (b : List ℕ) (mem : Memory) (q : Request) → AllFit (refusals b mem q)
refusals_fit b mem (start_with w f) = omega arith
refusals_fit b mem (translate k a ac) = omega arith
refusals_fit b mem (invlpg a) = omega arith
refusals_fit b mem (invpcid t p a) = omega arith
refusals_fit b mem (write_cr3 v) = omega arith
refusals_fit b mem (write_mode v) = omega arith

accepted_fits : (b : List ℕ) (mem : Memory) (q : Request) → refusal b mem q ≡ 0 → AreFit (accepted (decode b) mem q).answer
accepted_fits b mem (start_with w f) ok = done_fits
accepted_fits b mem (translate k a ac) ok =
    let g = given b mem (translate k a ac) ok in
    way_fits (decode b) mem (access_of k ac) a g.0.narrow g.3 (way (decode b) mem (access_of k ac) a)
accepted_fits b mem (invlpg a) ok = done_fits
accepted_fits b mem (invpcid t p a) ok = done_fits
accepted_fits b mem (write_cr3 v) ok = done_fits
accepted_fits b mem (write_mode v) ok = done_fits

pub answer_fits : (b : List ℕ) (mem : Memory) (q : Request) → AreWords (listed (numbers (call b mem q).answer))
answer_fits b mem q = go (called b mem q)
  where
    go : {o : Outcome} → Called b mem q o → AreFit o.answer
    go (taken ok) = accepted_fits b mem q ok
    go (refused n e) =
        four 2 (suc n) 0 0 (omega arith) (subst (λ (m : ℕ). m < 2 ^ 64) e (lowest_fits (refusals b mem q) (refusals_fit b mem q))) (omega arith) (omega arith)

-- so what the host reads out of the record is the answer's numbers
pub record_tells : (r b : List ℕ) (mem : Memory) (q : Request) → length r ≡ 32
    → words_of 4 (door r b mem q).answer ≡ listed (numbers (call b mem q).answer)
record_tells r b mem q h = ap (λ (o : Left). words_of 4 o.answer) (door_written r b mem q h) ∙ words_all (listed (numbers (call b mem q).answer)) (answer_fits b mem q)

-- ---- the code tells the cause
pub same_cause : (c : Control) (k : Access) (x y : Cause) → code c k x ≡ code c k y → x ≡ y
same_cause c k NotPresent NotPresent e = refl
same_cause c k NotPresent Reserved e = absurd (omega arith)
same_cause c k NotPresent Protection e = absurd (omega arith)
same_cause c k Reserved NotPresent e = absurd (omega arith)
same_cause c k Reserved Reserved e = refl
same_cause c k Reserved Protection e = absurd (omega arith)
same_cause c k Protection NotPresent e = absurd (omega arith)
same_cause c k Protection Reserved e = absurd (omega arith)
same_cause c k Protection Protection e = refl
