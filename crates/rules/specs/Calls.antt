-- The calls: what each leaves, for all inputs, refused ones too.
use Rattle.std.specs.Prelude.{ℕ, zero, suc, ◌%◌, ◌^◌, Bool, true, false, cond, ◌&&◌, not, List, length, leb, eqb}
use Rattle.rules.specs.Bits.{is_on}
use Rattle.rules.specs.Sizes.{size_of}
use Rattle.rules.specs.Image.{Image, encode, decode, control, pg, pge, pcide, nxe, pcid, is_global, started}
use Rattle.rules.specs.Memory.{Memory}
use Rattle.rules.specs.Walk.{Walked, walk}
use Rattle.rules.specs.Buffer.{contains, matches, of_pcid, Hit, hit, miss, find, serves, hit_address, dropped, filled}
use Rattle.rules.specs.Answers.{answer_of, numbers, record_bytes, returned}
use Rattle.rules.specs.Refusals.{Request, start_with, translate, invlpg, invpcid, write_cr3, write_mode, canonical, refusal}
use Rattle.rules.specs.declared.Access.{Access}
use Rattle.rules.specs.declared.Answer.{Answer}
use Rattle.rules.specs.declared.Answer.TheVariants.{Address, Refused, Done}

-- what an accepted call leaves: the answer, the image and guest memory
pub record After : Type 0 where
  pub answer : Answer
  pub image : Image
  pub memory : Memory

-- ---- translate
-- the six kinds of access: a read, a write, a fetch by the supervisor, and then by the user; AC is set by any number but 0
abbrev pub access_of : ℕ → ℕ → Access
access_of k ac = record { write = eqb (k % 3) 1; user = leb 3 k; fetch = eqb (k % 3) 2; ac = not (eqb ac 0) }

-- the slot found answers: nothing is read or changed
abbrev pub served : Image → Memory → ℕ → ℕ → After
served s mem a i =
    record {
      answer = Address (hit_address (size_of i) (s.slots i).datum a) (size_of i).length 0;
      image = s;
      memory = mem;
    }

-- what is held for the address is no use: it goes, whatever its size, and the walk is made
abbrev pub walked : Image → Memory → Access → ℕ → After
walked s mem k a =
    let w : Walked = walk (control s) k a mem in
    record {
      answer = answer_of (control s) k a w.found;
      image = filled (dropped (matches (pcid s) a) s) a w.found;
      memory = w.memory;
    }

abbrev pub served_if : Bool → Image → Memory → Access → ℕ → ℕ → After
served_if true s mem k a i = served s mem a i
served_if false s mem k a i = walked s mem k a

-- by the first slot that holds the address, if there is one
abbrev pub looked : Image → Memory → Access → ℕ → Hit → After
looked s mem k a (hit i) = served_if (serves (control s) k (s.slots i).datum) s mem k a i
looked s mem k a miss = walked s mem k a

-- without paging an address is physical already
abbrev pub translated : Bool → Image → Memory → Access → ℕ → After
translated true s mem k a = looked s mem k a (find s a)
translated false s mem k a = record { answer = Address a 0 0; image = s; memory = mem }

-- ---- what the operations write
abbrev pub with_cr3 : ℕ → Image → Image
with_cr3 v s = record { width = s.width; flags = s.flags; cr3 = v; victims = s.victims; slots = s.slots }

abbrev pub with_flags : ℕ → Image → Image
with_flags v s = record { width = s.width; flags = v; cr3 = s.cr3; victims = s.victims; slots = s.slots }

-- ---- what the operations drop, by a slot's number and tag
abbrev pub is_same : Bool → Bool → Bool
is_same true b = b
is_same false b = not b

-- no flag changes, but for those by which rights are judged alone: write protect, SMEP and SMAP
abbrev pub same_mode : ℕ → ℕ → Bool
same_mode v f = is_same (pg v) (pg f) && is_same (pge v) (pge f) && is_same (pcide v) (pcide f) && is_same (nxe v) (nxe f)

-- INVPCID by its type: an address of one PCID; one PCID; everything; everything that is not global
abbrev pub invpcid_drops : ℕ → ℕ → ℕ → ℕ → ℕ → Bool
invpcid_drops zero p a i t = contains a i t && of_pcid p t
invpcid_drops (suc zero) p a i t = of_pcid p t
invpcid_drops (suc (suc zero)) p a i t = true
invpcid_drops (suc (suc (suc n))) p a i t = not (is_global t)

-- ---- an accepted call. INVLPG of an address that is not canonical drops nothing; a CR3 write drops the PCID that it makes current, unless bit 63 says
-- not to, and that bit is not stored; a mode write drops everything if a flag changes that is not of rights alone
abbrev pub done : Image → Memory → After
done s mem = record { answer = Done; image = s; memory = mem }

abbrev pub accepted : Image → Memory → Request → After
accepted s mem (start_with w f) = done (started w f) mem
accepted s mem (translate k a ac) = translated (pg s.flags) s mem (access_of k ac) a
accepted s mem (invlpg a) = done (dropped (λ i t. canonical (control s) a && matches (pcid s) a i t) s) mem
accepted s mem (invpcid t p a) = done (dropped (invpcid_drops t p a) s) mem
accepted s mem (write_cr3 v) =
    let s' : Image = with_cr3 (v % 2 ^ 63) s in
    done (dropped (λ i t. not (is_on 63 v) && of_pcid (pcid s') t) s') mem
accepted s mem (write_mode v) = done (dropped (λ i t. not (same_mode v s.flags)) (with_flags v s)) mem

-- ---- a call on the host's bytes: one that is refused leaves them as they were
pub record Outcome : Type 0 where
  pub answer : Answer
  pub image : List ℕ
  pub memory : Memory

abbrev pub encoded : After → Outcome
encoded o = record { answer = o.answer; image = encode o.image; memory = o.memory }

abbrev pub by_number : List ℕ → Memory → Request → ℕ → Outcome
by_number b mem q zero = encoded (accepted (decode b) mem q)
by_number b mem q (suc n) = record { answer = Refused (suc n); image = b; memory = mem }

abbrev pub call : List ℕ → Memory → Request → Outcome
call b mem q = by_number b mem q (refusal b mem q)

-- ---- a call through the door: what it returns, and every byte after it
pub record Left : Type 0 where
  pub number : ℕ
  pub answer : List ℕ
  pub image : List ℕ
  pub memory : Memory

-- the record is written
abbrev pub written : Outcome → Left
written o =
    record {
      number = returned o.answer;
      answer = record_bytes (numbers o.answer);
      image = o.image;
      memory = o.memory;
    }

-- where the answer bytes have the wrong length, the number 1 is returned and nothing is written anywhere
abbrev pub door : List ℕ → List ℕ → Memory → Request → Left
door r b mem q =
    cond (eqb (length r) 32) (written (call b mem q))
    (record { number = 1; answer = r; image = b; memory = mem })
