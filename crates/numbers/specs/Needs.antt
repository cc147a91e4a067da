-- What a call asks of the image's numbers: its PCID, and what an access asks of a page.
use Rattle.std.specs.Prelude.{ℕ, ◌+◌, ◌*◌, ◌≤◌, ◌<◌, ◌≡◌, Bool, ◌&&◌, ◌||◌, List}
use Rattle.rules.specs.Bits.{one}
use Rattle.rules.specs.Image.{decode, pcid, wp}
use Rattle.rules.specs.Entries.{keeps_off}
use Rattle.rules.specs.Calls.{access_of}
use Rattle.rules.specs.declared.Access.{Access}

-- the image's current PCID, one of 4,096
pub record IsPcid (b : List ℕ) (p : ℕ) : Type 0 where
  pub current : p ≡ pcid (decode b)
  pub low : p < 4096

-- what an access asks of a page, held or reached by a walk, as bits of a datum. These must be set: writable, user, executable, and dirty for a write
abbrev pub needed_from : Bool → Access → ℕ
needed_from protect k = one k.write * 8 + (one k.fetch * 4 + (one k.user * 2 + one (k.write && (k.user || protect))))

abbrev pub needed_of : ℕ → Access → ℕ
needed_of flags k = needed_from (wp flags) k

-- and this must be clear: user, for who is to keep off user pages
abbrev pub clear_of : ℕ → Access → ℕ
clear_of flags k = 2 * one (keeps_off flags k)

-- an access as a number, by flags that are known: its kind, and what must be clear. Of AC nothing else is left, so a number may be that of several accesses
pub record IsAccess (flags n : ℕ) (k : Access) : Type 0 where
  pub kind : ℕ
  pub ac : ℕ
  pub known : kind ≤ 5
  pub access_is : k ≡ access_of kind ac
  pub number : n ≡ kind + 8 * clear_of flags k

-- for whatever access has this number
abbrev pub ForEach : (flags n : ℕ) → (Access → Type 0) → Type 0
ForEach flags n P = (k : Access) → IsAccess flags n k → P k

-- a number that is some access's
pub record Known (flags n : ℕ) : Type 0 where
  pub access : Access
  pub is : IsAccess flags n access
