-- The ways through a translation: refused; answered with paging off; and with paging on by a page that is held, or by the walk. Each leaves what the rules' call does.
use Prim.Native.Nat.{ℕ, zero, suc, ◌≤◌}
use mathlib.Core.Path.{◌≡◌, refl, ap, sym, ◌∙◌, subst}
use mathlib.Core.Bool.{Bool, true, false, not}
use mathlib.Core.List.{List}
use lib.ListN.{length}
use borrow.Author.Tests.{not-false, not-true}
use Rattle.rules.specs.Bits.{AreBytes}
use Rattle.rules.specs.Image.{decode, pg}
use Rattle.rules.specs.Memory.{Memory, Whole}
use Rattle.rules.specs.Buffer.{find}
use Rattle.rules.specs.Refusals.{translate, refusal}
use Rattle.rules.specs.Calls.{After, access_of, looked, translated, encoded, accepted}
use Rattle.rules.specs.declared.Answer.{Answer}
use Rattle.rules.specs.declared.Answer.TheVariants.{Address, Refused}
use Rattle.rules.proofs.CallLaws.{call_accepted, call_refused}
use Rattle.rules.proofs.FitLaws.{fit_passes}
use Rattle.rules.proofs.MemoryLaws.{whole as memory-whole}
use Rattle.rules.proofs.RefusalLaws.{Given, given, fit_image}
use Rattle.refusals.specs.Asked.{Asked}
use Rattle.refusals.specs.Refusal.{number_of}
use Rattle.refusals.specs.declared.asked.Asked.{Asked as AskedOf}
use Rattle.refusals.specs.declared.refusal.Refusal.{Refusal}
use Rattle.refusals.proofs.Checks.{some_number}
use Rattle.paging.specs.declared.Held.{Held}
use Rattle.std.specs.Prelude.{Option, None}
use Rattle.numbers.specs.Needs.{IsAccess, ForEach}
use Rattle.paging.specs.Paged.{held_page, Usable, Finds, missed, Encodes}
use Rattle.paging.proofs.Holding.{still_walked}
use Rattle.translator.specs.Contract.{Translates}

-- ---- a translation
module _ (b : List ℕ) (mem : Memory) (k a ac : ℕ) where
  by_refusal : (n : ℕ) → n ≡ refusal b mem (translate k a ac) → (n ≡ 0 → ⊥) → Translates (translate k a ac) b b mem mem (Refused n)
  by_refusal zero f s = absurd (s refl)
  by_refusal (suc n) f s = record { outcome = sym (call_refused b mem (translate k a ac) n (sym f)) }

  pub refuses_it : (e : Refusal) (r : Answer) → number_of e ≡ refusal b mem (translate k a ac) → r ≡ Refused (number_of e) → Translates (translate k a ac) b b mem mem r
  refuses_it e r h g = subst (Translates (translate k a ac) b b mem mem) (sym g) (by_refusal (number_of e) h (some_number e))

-- ---- one that is accepted
pub record Accepts (b : List ℕ) (mem : Memory) (k a ac : ℕ) : Type 0 where
  pub number : refusal b mem (translate k a ac) ≡ 0
  pub bytes : AreBytes b

pub accepts : (b : List ℕ) (mem : Memory) (k a ac : ℕ) → 0 ≡ refusal b mem (translate k a ac) → AreBytes b → Accepts b mem k a ac
accepts b mem k a ac h bytes = record { number = sym h; bytes = bytes }

module _ (b : List ℕ) (mem : Memory) (k a ac : ℕ) (x : Accepts b mem k a ac) where
  was : Given b mem (translate k a ac)
  was = given b mem (translate k a ac) x.number

  pub long : length b ≡ 2048
  long = was.0.long

  -- paging is as it was asked
  paging : (y : AskedOf) → Asked b mem y → y.paged ≡ pg (decode b).flags
  paging y asked = asked.paging (asked.image ∙ fit_passes b was.0)

  pub paging_on : (y : AskedOf) → Asked b mem y → not y.paged ≡ false → pg (decode b).flags ≡ true
  paging_on y asked e = sym (paging y asked) ∙ not-false y.paged e

  pub paging_off : (y : AskedOf) → Asked b mem y → not y.paged ≡ true → pg (decode b).flags ≡ false
  paging_off y asked e = sym (paging y asked) ∙ not-true y.paged e

  pub known : k ≤ 5
  known = was.1

  pub usable : Usable b
  usable = record { image = fit_image b x.bytes was.0; wide = was.0.wide; narrow = was.0.narrow }

  pub whole : Whole mem
  whole = memory-whole mem was.2

  accepts_it : (o : After) → accepted (decode b) mem (translate k a ac) ≡ o → (b' : List ℕ) (mem' : Memory) (r : Answer) → Encodes o b' mem' r
      → Translates (translate k a ac) b b' mem mem' r
  accepts_it o f b' mem' r h =
      record {
        outcome =
            (λ j. record { answer = h.answer j; image = h.image j; memory = h.memory j })
            ∙ ap encoded (sym f)
            ∙ sym (call_accepted b mem (translate k a ac) x.number);
      }

  pub flat : pg (decode b).flags ≡ false → Translates (translate k a ac) b b mem mem (Address a 0 0)
  flat off =
      accepts_it _ (ap (λ (y : Bool). translated y (decode b) mem (access_of k ac) a) off) b mem (Address a 0 0)
      (record { answer = refl; image = sym usable.image.says; memory = refl })

  pub goes_on_lem : pg (decode b).flags ≡ true → (b' : List ℕ) (mem' : Memory) (r : Answer) → Encodes (looked (decode b) mem (access_of k ac) a (find (decode b) a)) b' mem' r
      → Translates (translate k a ac) b b' mem mem' r
  goes_on_lem on b' mem' r g = accepts_it _ (ap (λ (y : Bool). translated y (decode b) mem (access_of k ac) a) on) b' mem' r g

  module _ (on : pg (decode b).flags ≡ true) (n : ℕ) (is : IsAccess (decode b).flags n (access_of k ac)) (b' : List ℕ) (h : Option Held) (finds : Finds b b' n a h) where
    pub by_held : (v l : ℕ) → h ≡ held_page v l → Translates (translate k a ac) b b' mem mem (Address v l 0)
    by_held v l e =
        let f : Finds b b' n a (held_page v l) = subst (Finds b b' n a) e finds in
        goes_on_lem on b' mem (Address v l 0) (rw (f.1 (access_of k ac) is mem) (record { answer = refl; image = f.0 ∙ sym usable.image.says; memory = refl }))

    pub by_walk : h ≡ None → (b'' : List ℕ) (mem' : Memory) (r : Answer) → ForEach (decode b').flags n (λ q. Encodes (missed (decode b') mem q a) b'' mem' r)
        → Translates (translate k a ac) b b'' mem mem' r
    by_walk e b'' mem' r g =
        goes_on_lem on b'' mem' r (still_walked b b' n a h finds e (λ (y : After). Encodes y b'' mem' r) mem g (access_of k ac) is)
