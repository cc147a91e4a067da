-- A history: an accepted start, of either kind, and then any calls, refused ones too, each with whatever guest memory it is given. The image's bytes are handed on
-- untouched from call to call, so they are a function of the history. Only translate reads its guest memory.
use Rattle.std.specs.Prelude.{ℕ, ◌≡◌, Bool, List, eqb}
use Rattle.rules.specs.Image.{Image, decode}
use Rattle.rules.specs.Memory.{Memory, empty}
use Rattle.rules.specs.Refusals.{Request, start_with, refusal}
use Rattle.rules.specs.Calls.{call}

infixl 20 ◌then◌with◌
pub data History : Type 0 where
  begun : (image : List ℕ) (width flags : ℕ) → refusal image empty (start_with width flags) ≡ 0 → History
  ◌then◌with◌ : History → Request → Memory → History

-- the bytes that the last call left
unfoldable pub bytes : History → List ℕ
bytes (begun b w f ok) = (call b empty (start_with w f)).image
bytes (h then q with mem) = (call (bytes h) mem q).image

-- and the image that they say
abbrev pub image : History → Image
image h = decode (bytes h)

-- the next call, if it is this one, is not refused
abbrev pub Accepted : History → Memory → Request → Type 0
Accepted h mem q = refusal (bytes h) mem q ≡ 0

abbrev pub is_accepted : History → Memory → Request → Bool
is_accepted h mem q = eqb (refusal (bytes h) mem q) 0
