-- "Drops exactly the entries named": what an operation leaves of the slots, by the list of `Covers`. Each claim is a type, and holds of hand-made images
-- too, of any 2,048 bytes that the call accepts; proofs/ has one proof of each, by the claim's name with a small first letter.
use Rattle.std.specs.Prelude.{ℕ, ◌≡◌, ◌⊎◌, true, false, cond, List}
use Rattle.rules.specs.Bits.{AreBytes}
use Rattle.rules.specs.Sizes.{size_of}
use Rattle.rules.specs.Image.{Slot, Image, none, decode, is_held, is_global, pcid_in, page_in}
use Rattle.rules.specs.Memory.{Memory}
use Rattle.rules.specs.Buffer.{contains}
use Rattle.rules.specs.Refusals.{Request, start_with, translate, invlpg, invpcid, write_cr3, write_mode, refusal}
use Rattle.rules.specs.Calls.{call}
use Rattle.sequences.specs.History.{History, image}
use Rattle.sequences.specs.Covers.{Who, global, others, Held, names, covers}
use Rattle.sequences.specs.Spans.{is_translate}

-- what a slot with this number and tag holds
abbrev pub who_of : ℕ → Who
who_of t = cond (is_global t) global (others (pcid_in t))

abbrev pub held_in : ℕ → ℕ → Held
held_in i t = record { size = size_of i; page = page_in t; who = who_of t }

-- a slot that is held, and that some address's own set and page name. A hand-made image may hold a page in a set that is not its own, or one whose number
-- is too large for its size: no address finds such a slot, and the claims do not speak of it
pub record IsPlaced (i : ℕ) (t : Slot) : Type 0 where
  pub held : is_held t.tag ≡ true
  pub address : ℕ
  pub has : contains address i t.tag ≡ true

-- after a history every held slot is one
abbrev pub Placed : Type 0
Placed = (h : History) (i : ℕ) → is_held ((image h).slots i).tag ≡ true → IsPlaced i ((image h).slots i)

-- ---- an accepted operation other than translate: of the slots above those are empty that the list names, and the others as they were; no slot at all is
-- anything but empty or as it was; victim numbers stay through all but start
abbrev pub victims_after : Image → Request → ℕ
victims_after s (start_with w f) = 0
victims_after s (translate k a ac) = s.victims
victims_after s (invlpg a) = s.victims
victims_after s (invpcid t p a) = s.victims
victims_after s (write_cr3 v) = s.victims
victims_after s (write_mode v) = s.victims

pub record Exactly (s : Image) (q : Request) (s' : Image) : Type 0 where
  pub slots : (i : ℕ) → IsPlaced i (s.slots i) → s'.slots i ≡ cond (names s q (held_in i (s.slots i).tag)) none (s.slots i)
  pub gone_or_kept : (i : ℕ) → (s'.slots i ≡ none) ⊎ (s'.slots i ≡ s.slots i)
  pub victims : s'.victims ≡ victims_after s q

abbrev pub Drops : Type 0
Drops =
    (b : List ℕ) (mem : Memory) (q : Request) → AreBytes b → is_translate q ≡ false → refusal b mem q ≡ 0
    → Exactly (decode b) q (decode (call b mem q).image)

-- ---- what is covered goes, and what goes was covered, at an address of its page and for its own `who`
pub record Ties (s : Image) (q : Request) (i : ℕ) (t t' : Slot) : Type 0 where
  pub goes : (a : ℕ) → contains a i t.tag ≡ true → covers (who_of t.tag) a s q ≡ true → t' ≡ none
  pub was : t' ≡ none → (a : ℕ) × (contains a i t.tag ≡ true) × (covers (who_of t.tag) a s q ≡ true)

abbrev pub Covering : Type 0
Covering =
    (b : List ℕ) (mem : Memory) (q : Request) → AreBytes b → is_translate q ≡ false → refusal b mem q ≡ 0
    → (i : ℕ) → IsPlaced i ((decode b).slots i) → Ties (decode b) q i ((decode b).slots i) ((decode (call b mem q).image).slots i)
