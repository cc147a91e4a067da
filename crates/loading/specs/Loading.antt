-- How a saved state is loaded, into any 2,048 bytes. The state is a width, flags and CR3, and the four calls are: a start with the flags less PG and PCIDE; a CR3 write
-- with the low 12 bits 0, so that the root is there when paging comes on, and PCIDE can be turned on; a mode write of the flags; a CR3 write of CR3 as it was.
use Rattle.std.specs.Prelude.{ℕ, ◌-◌, ◌*◌, ◌%◌, ◌≡◌, List, length}
use Rattle.rules.specs.Bits.{one}
use Rattle.rules.specs.Image.{pg, pcide, started, encode}
use Rattle.rules.specs.Memory.{Memory}
use Rattle.rules.specs.Refusals.{start_with, write_cr3, write_mode, refusal}
use Rattle.rules.specs.Calls.{with_cr3, call}
use Rattle.sequences.specs.History.{History, image}

abbrev pub early_flags : ℕ → ℕ
early_flags f = f - one (pg f) - 8 * one (pcide f)

abbrev pub root_alone : ℕ → ℕ
root_alone v = v - v % 4096

-- ---- the bytes after each of the first three
abbrev pub after_start : List ℕ → Memory → ℕ → ℕ → List ℕ
after_start b mem w f = (call b mem (start_with w (early_flags f))).image

abbrev pub after_root : List ℕ → Memory → ℕ → ℕ → ℕ → List ℕ
after_root b mem w f v = (call (after_start b mem w f) mem (write_cr3 (root_alone v))).image

abbrev pub after_mode : List ℕ → Memory → ℕ → ℕ → ℕ → List ℕ
after_mode b mem w f v = (call (after_root b mem w f v) mem (write_mode f)).image

-- ---- none is refused, and the last leaves the image of that state, in which nothing is held
pub record Loads (b : List ℕ) (mem : Memory) (w f v : ℕ) : Type 0 where
  pub start_taken : refusal b mem (start_with w (early_flags f)) ≡ 0
  pub root_taken : refusal (after_start b mem w f) mem (write_cr3 (root_alone v)) ≡ 0
  pub mode_taken : refusal (after_root b mem w f v) mem (write_mode f) ≡ 0
  pub cr3_taken : refusal (after_mode b mem w f v) mem (write_cr3 v) ≡ 0
  pub left : (call (after_mode b mem w f v) mem (write_cr3 v)).image ≡ encode (with_cr3 v (started w f))

-- whatever state a history has led to
abbrev pub Loading : Type 0
Loading = (h : History) (b : List ℕ) (mem : Memory) → length b ≡ 2048 → Loads b mem (image h).width (image h).flags (image h).cr3
