-- What one entry says at its level, and what rights allow: "The walk" of document 01.
use Rattle.std.specs.Prelude.{ℕ, Bool, true, false, cond, ◌&&◌, ◌||◌, not, leb, eqb}
use Rattle.rules.specs.Bits.{is_on, part}
use Rattle.rules.specs.Image.{wp, nxe, smep, smap}
use Rattle.rules.specs.Formats.{rows, ranges_of, any_in}
use Rattle.rules.specs.declared.Control.{Control}
use Rattle.rules.specs.declared.Access.{Access}
use Rattle.rules.specs.declared.Rights.{Rights}

-- at the last level every entry maps a page; at levels 2 and 3 one with bit 7 set does
abbrev pub is_page : ℕ → ℕ → Bool
is_page level e = eqb level 1 || (leb level 3 && is_on 7 e)

-- a bit of one of its row's ranges is set
abbrev pub is_reserved : Control → ℕ → Bool → ℕ → Bool
is_reserved c level page e = any_in (ranges_of (rows c.width (nxe c.flags)) level page) e

-- what an entry says: nothing is mapped; it is malformed; here is the page; here is the next table
pub data Entry : Type 0 where
  absent : Entry
  bad : Entry
  page : Entry
  table : Entry

-- the tests in their order: bit 0 says that something is mapped; then reserved bits; then whether it is a page
abbrev pub sorted : Bool → Bool → Bool → Entry
sorted false reserved leaf = absent
sorted true true leaf = bad
sorted true false true = page
sorted true false false = table

abbrev pub says : Control → ℕ → ℕ → Entry
says c level e = sorted (is_on 0 e) (is_reserved c level (is_page level e) e) (is_page level e)

-- where the next table stands
abbrev pub next : Control → ℕ → ℕ
next c e = part c.width 12 e

-- ---- rights: an entry on the way can only take away. Bit 1 grants writing and bit 2 user access, where all entries do; bit 63 in any bars execution
abbrev pub everything : Rights
everything = record { writable = true; user = true; executable = true }

abbrev pub also : Rights → ℕ → Rights
also r e =
    record {
      writable = r.writable && is_on 1 e;
      user = r.user && is_on 2 e;
      executable = r.executable && not (is_on 63 e);
    }

-- the supervisor is to keep off user pages: a fetch while SMEP is on, any other access while SMAP is on and AC is not set
abbrev pub keeps_off : ℕ → Access → Bool
keeps_off flags k = not k.user && cond k.fetch (smep flags) (smap flags && not k.ac)

-- the user may use user pages only; who writes needs the right to, but for the supervisor while WP is off; who fetches needs execution; who is to keep off user
-- pages may use none
abbrev pub allows : Control → Access → Rights → Bool
allows c k r =
    (not k.user || r.user)
    && (not k.write || r.writable || (not k.user && not (wp c.flags)))
    && (not k.fetch || r.executable)
    && not (keeps_off c.flags k && r.user)
