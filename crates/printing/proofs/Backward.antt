-- Digits written from the last to the first.
use Prim.Native.Nat.{ℕ, zero, suc, ◌+◌, ◌-◌, ◌/◌, ◌%◌, ◌≤◌, ◌<◌}
use mathlib.Core.Path.{◌≡◌, sym, ◌∙◌}
use mathlib.Core.List.{List, ◌∷◌, ◌++◌, map, map-append}
use native.Mathlib.Omega.{arith}
use native.Mathlib.Nat.{add-suc, add-zero}
use lib.ListN.{length, take, set, length-map, length-set, length-take, take-append-drop}
use lib.Seq.{slice, take-take, take-set-le, take-set-lt, drop-set-lt, drop-cons, get_or-set_same, append_snoc}
use Rattle.trace.specs.Numbers.{digits, byte_of}
use Rattle.printing.specs.Puts.{Puts}
use Rattle.printing.proofs.Digits.{length_digits, digits_last}

-- i of n digits are left to write, those of rest, and the others stand behind them
pub record Written (out₀ out : List ℕ) (at n x i rest : ℕ) : Type 0 where
  pub high : i ≤ n
  pub fits : at + n ≤ length out₀
  pub size : length out ≡ length out₀
  pub before : take at out ≡ take at out₀
  pub left : map byte_of (digits i rest) ++ slice (at + i) (at + n) out ≡ map byte_of (digits n x)

-- a byte stored in front of a slice
slice_more : (out : List ℕ) (f t b : ℕ) → f < t → t ≤ length out → slice f t (set out f b) ≡ b ∷ slice (suc f) t out
slice_more out f t b h l =
    let k : f < length (take t out) = simp length-take (omega arith) in
    let k' : f < length (set (take t out) f b) = simp length-set k in
    rw (
      take-set-lt t out f b h,
      drop-cons (set (take t out) f b) f 0 k',
      get_or-set_same (take t out) f b 0 k,
      drop-set-lt (suc f) (take t out) f b (omega arith),
    )

-- the step in terms of what is left after it
step : (out₀ out : List ℕ) (at n x i rest b : ℕ) → Written out₀ out at n x (suc i) rest → b ≡ byte_of (rest % 16)
    → Written out₀ (set out (at + i) b) at n x i (rest / 16)
step out₀ out at n x i rest b w e =
    record {
      high = omega (arith, w.high);
      fits = w.fits;
      size = rw length-set w.size;
      before = rw (take-set-le at out (at + i) b (omega arith)) w.before;
      left =
          rw (slice_more out (at + i) (at + n) b (omega (arith, w.high)) (omega (arith, w.fits, w.size)), e)
          (sym (append_snoc (map byte_of (digits i (rest / 16))) (byte_of (rest % 16)) (slice (suc (at + i)) (at + n) out))
          ∙ rw (digits_last i rest, map-append, add-suc at i) at w.left);
    }

pub written_more : (out₀ out : List ℕ) (at n x i rest b : ℕ) → Written out₀ out at n x i rest → 0 < i → b ≡ byte_of (rest % 16)
    → Written out₀ (set out (at + (i - 1)) b) at n x (i - 1) (rest / 16)
written_more out₀ out at n x i rest b w h e =
    let d : i ≡ suc (i - 1) = omega arith in
    step out₀ out at n x (i - 1) rest b (rw d at w) e

pub written_all : (out₀ out : List ℕ) (at n x i rest : ℕ) → Written out₀ out at n x i rest → i ≤ 0
    → Puts out₀ out at (map byte_of (digits n x)) (at + n)
unfolding digits
written_all out₀ out at n x zero rest w h =
    record {
      place = rw (length-map, length_digits);
      text = sym (take-append-drop at (take (at + n) out)) ∙ rw (take-take at (at + n) out (omega arith), w.before, ← w.left, add-zero);
    }
written_all out₀ out at n x (suc i) rest w h = absurd (omega arith)
