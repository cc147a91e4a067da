-- A call for many after some of its pairs: what is done, with the single calls of the pairs that are left, is the whole. A pair leaves the image as fit as it was, its flags as they
-- were and memory as long, so that what was asked of both at first holds at each pair.
use Prim.Native.Nat.{ℕ, ◌+◌, ◌-◌, ◌*◌, ◌/◌, ◌%◌, ◌≤◌, ◌<◌}
use mathlib.Core.Path.{◌≡◌, refl, ap, ap₂, sym, ◌∙◌, subst}
use mathlib.Core.Bool.{Bool, true, false, ◌||◌, not}
use mathlib.Core.List.{List, ◌++◌, append-nil, append_assoc}
use native.Mathlib.Omega.{arith}
use native.Mathlib.Nat.{sub-zero, sub_self}
use lib.ListN.{length, take, drop, length-append, length-drop}
use lib.Dec.{ltb, eqb}
use lib.Seq.{take_at, take_all, length-take-le}
use borrow.Author.Tests.{eqb-true, ltb-false, not-false}
use Rattle.rules.specs.Bits.{AreBytes, word_at}
use Rattle.rules.specs.Memory.{Memory}
use Rattle.rules.specs.Image.{pg}
use Rattle.rules.specs.Refusals.{translate}
use Rattle.rules.specs.Calls.{Left, call, written}
use Rattle.rules.specs.Many.{pair_at, pairs_from, asks, Made, before, made, no_pairs}
use Rattle.rules.proofs.BoolLaws.{or_left, or_right}
use Rattle.rules.proofs.MemoryLaws.{SameLengths}
use Rattle.rules.proofs.Grown.{call_grows}
use Rattle.rules.proofs.FitLaws.{fit_stays, flags_stay, memory_stays}
use Rattle.rules.proofs.ManyLaws.{one_pair, record_long}
use Rattle.refusals.specs.Asked.{Asked}
use Rattle.refusals.specs.declared.asked.Asked.{Asked as AskedOf}
use Rattle.direct.specs.Contract.{IntoRecord}
use Rattle.many.specs.Contract.{TranslatesMany}

-- ---- whether they are taken
pub not_pairs : (ps rs : List ℕ) → (not (eqb (length ps % 16) 0) || ltb 64 (length ps / 16)) ≡ true → true ≡ no_pairs ps rs
not_pairs ps rs t = rw t

pub by_answers : (ps rs : List ℕ) → (not (eqb (length ps % 16) 0) || ltb 64 (length ps / 16)) ≡ false
    → not (eqb (length rs) (length ps / 16 * 32)) ≡ no_pairs ps rs
by_answers ps rs t = rw t

pub none_taken : (ps rs b : List ℕ) (mem : Memory) (x : Bool) (n : ℕ) → x ≡ no_pairs ps rs → x ≡ true → n ≡ 10 → TranslatesMany ps rs rs b b mem mem n
none_taken ps rs b mem x n e t h = subst (TranslatesMany ps rs rs b b mem mem) (sym h) (record { left = rw (← e, t) })

-- ---- of n pairs i are done
pub record Done (ps rs₀ b₀ : List ℕ) (mem₀ : Memory) (x : AskedOf) (n : ℕ) (rs b : List ℕ) (mem : Memory) (i : ℕ) : Type 0 where
  pub few : n ≤ 64
  pub high : i ≤ n
  pub size : length rs ≡ n * 32
  pub same_answers : length rs ≡ length rs₀
  pub same_image : length b ≡ length b₀
  pub same_memory : SameLengths mem mem₀
  pub bytes : AreBytes b
  pub asked : Asked b mem x
  pub left : before (take (i * 32) rs) (made (pairs_from (n - i) i ps) b mem) ≡ made (pairs_from n 0 ps) b₀ mem₀

taken_size : (ps rs : List ℕ) → no_pairs ps rs ≡ false → length rs ≡ length ps / 16 * 32
taken_size ps rs h = eqb-true (length rs) (length ps / 16 * 32) (not-false (eqb (length rs) (length ps / 16 * 32)) (or_right (not (eqb (length ps % 16) 0) || ltb 64 (length ps / 16)) _ h))

taken_few : (ps rs : List ℕ) → no_pairs ps rs ≡ false → length ps / 16 ≤ 64
taken_few ps rs h =
    ltb-false 64 (length ps / 16)
    (or_right (not (eqb (length ps % 16) 0)) _ (or_left (not (eqb (length ps % 16) 0) || ltb 64 (length ps / 16)) (not (eqb (length rs) (length ps / 16 * 32))) h))

pub done_none : (ps rs b : List ℕ) (mem : Memory) (x : AskedOf) (y : Bool) (n : ℕ) → y ≡ no_pairs ps rs → y ≡ false → n ≡ length ps / 16 → Asked b mem x → AreBytes b
    → Done ps rs b mem x n rs b mem 0
done_none ps rs b mem x y n e t g asked bytes =
    record {
      few = omega (arith, taken_few ps rs (sym e ∙ t));
      high = omega arith;
      size = taken_size ps rs (sym e ∙ t) ∙ ap (λ (z : ℕ). z * 32) (sym g);
      same_answers = refl;
      same_image = refl;
      same_memory = record { low = refl; high = refl };
      bytes = bytes;
      asked = asked;
      left = rw sub-zero;
    }

-- what was asked at first holds after a pair
asked_still : (b : List ℕ) (mem : Memory) (x : AskedOf) (k a ac : ℕ) → AreBytes b → Asked b mem x
    → Asked (call b mem (translate k a ac)).image (call b mem (translate k a ac)).memory x
asked_still b mem x k a ac bytes h =
    record {
      image = h.image ∙ sym (fit_stays b mem k a ac bytes);
      memory = h.memory ∙ sym (memory_stays b mem k a ac);
      paging = λ e. h.paging e ∙ ap pg (sym (flags_stay b mem k a ac bytes));
    }

front : (i : ℕ) (a b c : List ℕ) → i * 32 ≤ length a → length b ≡ 32 → take ((i + 1) * 32) (take (i * 32) a ++ (b ++ c)) ≡ take (i * 32) a ++ b
front i a b c h l =
    ap (take ((i + 1) * 32)) (sym (append_assoc (take (i * 32) a) b c))
    ∙ take_at (take (i * 32) a ++ b) c ((i + 1) * 32) (length-append (take (i * 32) a) b ∙ rw (length-take-le (i * 32) a h, l) (omega arith))

in_order : (r r' : List ℕ) (m : Made) → before (r ++ r') m ≡ before r (before r' m)
in_order r r' m = ap (λ (y : List ℕ). record { records = y; image = m.image; memory = m.memory }) (append_assoc r r' m.records)

module _ (ps rs₀ b₀ : List ℕ) (mem₀ : Memory) (x : AskedOf) (n : ℕ) (rs b : List ℕ) (mem : Memory) (i : ℕ) (d : Done ps rs₀ b₀ mem₀ x n rs b mem i) where
  pub done_more : (k a : ℕ) (r b' : List ℕ) (mem' : Memory) (m : ℕ) → i < n → k ≡ word_at ps (i * 16) → a ≡ word_at ps (i * 16 + 8)
      → IntoRecord (translate k a 0) r b b' mem mem' m → length b' ≡ length b → AreBytes b'
      → Done ps rs₀ b₀ mem₀ x n (take (i * 32) rs ++ (r ++ drop (i * 32 + 32 - i * 32) (drop (i * 32) rs))) b' mem' (i + 1)
  done_more k a r b' mem' m h hk ha w long bytes =
      let q : ◌≡◌ {A = Left} (record { number = m; answer = r; image = b'; memory = mem' }) (written (call b mem (asks (pair_at ps i)))) =
      w.left ∙ ap₂ (λ (y z : ℕ). written (call b mem (translate y z 0))) hk ha in
      let is : r ≡ (written (call b mem (asks (pair_at ps i)))).answer = ap (λ (l : Left). l.answer) q in
      let image : b' ≡ (call b mem (asks (pair_at ps i))).image = ap (λ (l : Left). l.image) q in
      let memory : mem' ≡ (call b mem (asks (pair_at ps i))).memory = ap (λ (l : Left). l.memory) q in
      let full : length r ≡ 32 = ap length is ∙ record_long b mem (pair_at ps i) in
      let fits : i * 32 ≤ length rs = omega (arith, d.size) in
      let size : length (take (i * 32) rs ++ (r ++ drop (i * 32 + 32 - i * 32) (drop (i * 32) rs))) ≡ length rs =
      simp (length-append, length-drop, length-take-le (i * 32) rs fits, full) (omega (arith, d.size)) in
      let lengths : SameLengths mem mem' = rw memory (call_grows b mem (asks (pair_at ps i))).lengths in
      let rest : Made = made (pairs_from (n - (i + 1)) (i + 1) ps) b' mem' in
      record {
        few = d.few;
        high = omega arith;
        size = size ∙ d.size;
        same_answers = size ∙ d.same_answers;
        same_image = long ∙ d.same_image;
        same_memory = record { low = sym lengths.low ∙ d.same_memory.low; high = sym lengths.high ∙ d.same_memory.high };
        bytes = bytes;
        asked = subst (λ (y : List ℕ). Asked y mem' x) (sym image) (subst (λ (z : Memory). Asked (call b mem (asks (pair_at ps i))).image z x) (sym memory) (asked_still b mem x (pair_at ps i).kind (pair_at ps i).address 0 d.bytes d.asked));
        left =
            ap (λ (y : List ℕ). before y rest) (front i rs r _ fits full)
            ∙ in_order (take (i * 32) rs) r rest
            ∙ ap (before (take (i * 32) rs))
            ((λ j. before (is j) (made (pairs_from (n - (i + 1)) (i + 1) ps) (image j) (memory j))) ∙ sym (one_pair n i ps b mem h))
            ∙ d.left;
      }

  pub done_all : n ≤ i → n ≡ length ps / 16 → (y : Bool) → y ≡ no_pairs ps rs₀ → y ≡ false → TranslatesMany ps rs₀ rs b₀ b mem₀ mem 0
  unfolding made pairs_from
  done_all h e y f t =
      let j : i ≡ n = omega (arith, d.high) in
      let whole : ◌≡◌ {A = Made} (record { records = rs; image = b; memory = mem }) (made (pairs_from n 0 ps) b₀ mem₀) =
      rw (j, sub_self, take_all (n * 32) rs (omega (arith, d.size)), append-nil) at d.left in
      record { left = rw (← f, t, ← e, ← whole) }
