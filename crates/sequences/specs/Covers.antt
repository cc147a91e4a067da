-- What each operation drops, and so covers: the list under these words of document 01, written once and from that list alone, by what a held slot holds.
-- Slots, tags and sets do not come into it: that the calls drop exactly the slots that it names is claimed in `Drops`.
use Rattle.std.specs.Prelude.{ℕ, zero, suc, Bool, true, false, cond, ◌&&◌, ◌||◌, not, eqb}
use Rattle.rules.specs.Bits.{is_on, field}
use Rattle.rules.specs.Sizes.{small, middle, large, page_number}
use Rattle.rules.specs.Image.{Image, control, pg, pge, pcide, nxe, pcid}
use Rattle.rules.specs.Memory.{Memory}
use Rattle.rules.specs.Refusals.{Request, start_with, translate, invlpg, invpcid, write_cr3, write_mode, canonical}
use Rattle.rules.specs.declared.Size.{Size}
use Rattle.sequences.specs.History.{History, image, is_accepted}

-- whose slots: global ones, or those of one PCID that are not global
pub data Who : Type 0 where
  global : Who
  others : ℕ → Who

abbrev pub are_global : Who → Bool
are_global global = true
are_global (others q) = false

abbrev pub are_of : ℕ → Who → Bool
are_of p global = false
are_of p (others q) = eqb q p

-- ---- the list
-- what a held slot holds: a page, by its size and number, and whose it is
pub record Held : Type 0 where
  pub size : Size
  pub page : ℕ
  pub who : Who

-- the page contains the address
abbrev pub has_address : Held → ℕ → Bool
has_address x a = eqb x.page (page_number x.size a)

-- the PCID that a CR3 write makes current
abbrev pub pcid_after : Image → ℕ → ℕ
pcid_after s v = cond (pcide s.flags) (field 12 0 v) 0

-- a mode write changes PG, PGE, PCIDE or NXE
abbrev pub differ : Bool → Bool → Bool
differ true b = not b
differ false b = b

abbrev pub changes : ℕ → ℕ → Bool
changes v f = differ (pg v) (pg f) || differ (pge v) (pge f) || differ (pcide v) (pcide f) || differ (nxe v) (nxe f)

-- INVPCID by its type: a page that contains the address, of that PCID, not global; that PCID, not global; all; all not global
abbrev pub type_names : ℕ → ℕ → ℕ → Held → Bool
type_names zero p a x = has_address x a && are_of p x.who
type_names (suc zero) p a x = are_of p x.who
type_names (suc (suc zero)) p a x = true
type_names (suc (suc (suc n))) p a x = not (are_global x.who)

-- a call that is accepted at image s drops a slot that holds this
abbrev pub names : Image → Request → Held → Bool
names s (start_with w f) x = true
names s (translate k a ac) x = false
names s (invlpg a) x = canonical (control s) a && has_address x a && (are_global x.who || are_of (pcid s) x.who)
names s (invpcid t p a) x = type_names t p a x
names s (write_cr3 v) x = not (is_on 63 v) && are_of (pcid_after s v) x.who
names s (write_mode v) x = changes v s.flags

-- ---- what an operation covers: the slots of `who` that hold address a, of all sizes
abbrev pub held_at : Who → ℕ → Size → Held
held_at who a z = record { size = z; page = page_number z a; who = who }

abbrev pub covers : Who → ℕ → Image → Request → Bool
covers who a s q = names s q (held_at who a small) && names s q (held_at who a middle) && names s q (held_at who a large)

-- the next call, if it is this one, is accepted and covers them
abbrev pub covered : Who → ℕ → History → Memory → Request → Bool
covered who a h mem q = covers who a (image h) q && is_accepted h mem q
