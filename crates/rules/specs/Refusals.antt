-- Refusals: the table of document 01, a list for each call in rising order, of which the lowest that applies is given.
-- Number 1 is the door's, where the answer bytes are: `Calls`.
use Rattle.std.specs.Prelude.{ℕ, ◌-◌, ◌^◌, Bool, true, cond, ◌&&◌, ◌||◌, not, List, [], ◌∷◌, length, drop, leb, ltb, eqb}
use Rattle.rules.specs.Bits.{is_on, field, any_on, words_of}
use Rattle.rules.specs.Memory.{Memory, no_lengths}
use Rattle.rules.specs.Image.{Image, started, decode, control, pg, pcide}
use Rattle.rules.specs.declared.Control.{Control}

-- a call, with the numbers that it is asked with
pub data Request : Type 0 where
  start_with : (width flags : ℕ) → Request
  translate : (kind address ac : ℕ) → Request
  invlpg : (address : ℕ) → Request
  invpcid : (type pcid address : ℕ) → Request
  write_cr3 : (value : ℕ) → Request
  write_mode : (flags : ℕ) → Request

-- the plain start: write protect is on, and no other flag
abbrev pub start : ℕ → Request
start w = start_with w 2

infix 70 ◌if◌
pub record Refusal : Type 0 where
  pub number : ℕ
  pub applies : Bool

abbrev pub ◌if◌ : ℕ → Bool → Refusal
◌if◌ n b = record { number = n; applies = b }

-- the first of a list that applies, or 0
abbrev pub lowest : List Refusal → ℕ
lowest [] = 0
lowest (r ∷ rs) = cond r.applies r.number (lowest rs)

-- bits 63 to 47 of the address are all alike: the lowest and the highest 2^47 addresses; control is not asked yet: it waits for
-- request W-209
abbrev pub canonical : Control → ℕ → Bool
canonical c a = ltb a (2 ^ 47) || leb (2 ^ 64 - 2 ^ 47) a

abbrev pub is_long : List ℕ → Bool
is_long b = eqb (length b) 2048

-- no width that a processor has
abbrev pub is_outside : ℕ → Bool
is_outside w = ltb w 36 || ltb 52 w

abbrev pub all_zero : List ℕ → Bool
all_zero [] = true
all_zero (w ∷ ws) = eqb w 0 && all_zero ws

-- a flag that there is not
abbrev pub no_flags : ℕ → Bool
no_flags f = leb (2 ^ 7) f

-- no image: its length, its width, a flag or a victim number that there is not, or something after the slots
abbrev pub is_unfit : List ℕ → Bool
is_unfit b =
    not (is_long b)
    || is_outside (decode b).width
    || no_flags (decode b).flags
    || leb (2 ^ 50) (decode b).victims
    || not (all_zero (drop 204 (words_of 256 b)))

-- no address that can be translated: with paging on it has to be canonical, with paging off it has 32 bits
abbrev pub no_address : Image → ℕ → Bool
no_address s a = cond (pg s.flags) (not (canonical (control s) a)) (leb (2 ^ 32) a)

-- no value for CR3: a bit from the width up to 62, or the top bit, which only PCIDE gives a meaning
abbrev pub no_cr3 : Image → ℕ → Bool
no_cr3 s v = any_on 63 s.width v || (is_on 63 v && not (pcide s.flags))

-- no mode to go to: a flag that there is not; PCIDE without PG; PCIDE turned on while CR3 names a PCID other than 0
abbrev pub no_mode : Image → ℕ → Bool
no_mode s v =
    no_flags v || (pcide v && not (pg v)) || (pcide v && not (pcide s.flags) && not (eqb (field 12 0 s.cr3) 0))

-- no such invalidation: its type; its PCID; for one address, the address; a PCID other than 0 while PCIDE is off
abbrev pub no_invpcid : Image → ℕ → ℕ → ℕ → Bool
no_invpcid s t p a =
    ltb 3 t || ltb 4095 p || (eqb t 0 && not (canonical (control s) a)) || (leb t 1 && not (pcide s.flags) && not (eqb p 0))

-- the flags of a start are judged as those of a mode write on the image that a start with none makes: flags 0 and CR3 0
abbrev pub refusals : List ℕ → Memory → Request → List Refusal
refusals b mem (start_with w f) = 2 if (not (is_long b) || is_outside w) ∷ 7 if no_mode (started w 0) f ∷ []
refusals b mem (translate k a ac) =
    2 if is_unfit b ∷ 3 if ltb 5 k ∷ 4 if no_lengths mem ∷ 5 if no_address (decode b) a ∷ []
refusals b mem (invlpg a) = 2 if is_unfit b ∷ []
refusals b mem (invpcid t p a) = 2 if is_unfit b ∷ 8 if no_invpcid (decode b) t p a ∷ []
refusals b mem (write_cr3 v) = 2 if is_unfit b ∷ 6 if no_cr3 (decode b) v ∷ []
refusals b mem (write_mode v) = 2 if is_unfit b ∷ 7 if no_mode (decode b) v ∷ []

abbrev pub refusal : List ℕ → Memory → Request → ℕ
refusal b mem q = lowest (refusals b mem q)
