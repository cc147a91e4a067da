-- An answer is the walk's of a moment after which nothing covers it: that of this call, if the call walked; else that of the origin of the slot that
-- answers, whose walk would have given the same to the access of now. A slot reads nothing and never faults, so what was read is of this call.
use Prim.Native.Nat.{ℕ, zero, suc}
use mathlib.Core.Path.{◌≡◌, refl, ap, sym, ◌∙◌, subst}
use mathlib.Core.Bool.{Bool, true, false, cond, ◌||◌, true≢false}
use mathlib.Core.List.{List}
use native.Mathlib.Omega.{arith}
use lib.Dec.{eqb}
use borrow.Author.Tests.{eqb-true}
use Rattle.rules.specs.Image.{Image, decode, control, pg, pcid, is_global, pcid_in}
use Rattle.rules.specs.Memory.{Memory}
use Rattle.rules.specs.Walk.{reach_in}
use Rattle.rules.specs.Buffer.{contains, matches, hit, find, serves}
use Rattle.rules.specs.Refusals.{translate}
use Rattle.rules.specs.Calls.{After, access_of, served, Outcome, encoded}
use Rattle.rules.specs.declared.Answer.{Answer}
use Rattle.rules.specs.declared.Answer.TheVariants.{Address, PageFault, Refused, Done}
use Rattle.rules.proofs.SlotLaws.{matched, match_held, match_has, match_own}
use Rattle.rules.proofs.Grown.{grown_none}
use Rattle.rules.proofs.CallWays.{Called, taken, refused, called, Way, unpaged, answered, walks, way}
use Rattle.sequences.specs.History.{History, ◌then◌with◌, bytes, image, Accepted}
use Rattle.sequences.specs.Covers.{Who, global, others}
use Rattle.sequences.specs.Spans.{Since, moment, later, Uncovered}
use Rattle.sequences.specs.Claims.{walk_only, judged_by, but_count, whose_hit, whose, RanUnder, Gives, Answers, IsPlain, ReadNow, Faults}
use Rattle.sequences.specs.Drops.{who_of}
use Rattle.sequences.proofs.Fates.{slot_at, tag_at}
use Rattle.sequences.proofs.Origins.{Origin, origin, since_map, slot_pcid, may_use, again, hit_is}

-- ---- a call that walks, or has no paging, does what a call without a buffer does
pub plainly : (s : Image) (mem : Memory) (k a ac : ℕ) (b : List ℕ) (on : Bool) → pg s.flags ≡ on
    → IsPlain s mem k a ac (record { answer = (walk_only on s mem (access_of k ac) a).answer; image = b; memory = (walk_only on s mem (access_of k ac) a).memory })
plainly s mem k a ac b on e = record { answer = rw e; memory = rw e }

-- ---- of now: any answer that neither a slot nor a refusal gives
abbrev is_read : Answer → Bool
is_read (Address value size zero) = false
is_read (Address value size (suc n)) = true
is_read (PageFault cause level code read) = true
is_read (Refused n) = false
is_read Done = false

module _ (b : List ℕ) (mem : Memory) (k a ac : ℕ) where
  of_way : {o : After} → Way (decode b) mem (access_of k ac) a o → is_read o.answer ≡ true → IsPlain (decode b) mem k a ac (encoded o)
  of_way (unpaged off) r = absurd (true≢false (sym r))
  of_way (answered on i e g) r = absurd (true≢false (sym r))
  of_way (walks on un) r = plainly (decode b) mem k a ac _ true on

  of_now : {o : Outcome} → Called b mem (translate k a ac) o → is_read o.answer ≡ true → IsPlain (decode b) mem k a ac o
  of_now (taken e) r = of_way (way (decode b) mem (access_of k ac) a) r
  of_now (refused n e) r = absurd (true≢false (sym r))

pub faults : Faults
faults b mem k a ac cause level code read e = of_now b mem k a ac (called b mem (translate k a ac)) (ap is_read e)

pub read_now : ReadNow
read_now b mem k a ac value size read e = of_now b mem k a ac (called b mem (translate k a ac)) (ap is_read e)

-- ---- a slot that answers: it holds the address, has an origin, and is global or of the current PCID
pub record Answering (h : History) (k a ac i : ℕ) : Type 0 where
  pub on : pg (image h).flags ≡ true
  pub found : find (image h) a ≡ hit i
  pub serve : serves (control (image h)) (access_of k ac) (slot_at h i).datum ≡ true

module _ {h : History} {k a ac i : ℕ} (w : Answering h k a ac i) where
  match : matches (pcid (image h)) a i (tag_at h i) ≡ true
  match = matched (image h) a i w.found

  pub has : contains a i (tag_at h i) ≡ true
  has = match_has (pcid (image h)) a i (tag_at h i) match

  pub whence : Origin i (slot_at h i) h
  whence = origin h i (slot_at h i) refl (match_held (pcid (image h)) a i (tag_at h i) match)

  -- so the moment of its origin ran under the PCID of now, if it is not global
  pub owned : (who_of (tag_at h i) ≡ cond (is_global (tag_at h i)) global (others (pcid (image h))))
      × ((s : Image) → pcid_in (tag_at h i) ≡ pcid s → RanUnder (who_of (tag_at h i)) (image h) s)
  owned = go (is_global (tag_at h i)) (match_own (pcid (image h)) a i (tag_at h i) match)
    where
      go : (g : Bool) → (g || eqb (pcid_in (tag_at h i)) (pcid (image h))) ≡ true
          → (cond g global (others (pcid_in (tag_at h i))) ≡ cond g global (others (pcid (image h))))
          × ((s : Image) → pcid_in (tag_at h i) ≡ pcid s → RanUnder (cond g global (others (pcid_in (tag_at h i)))) (image h) s)
      go true q = (refl, λ s e. tt)
      go false q = let p : pcid_in (tag_at h i) ≡ pcid (image h) = eqb-true (pcid_in (tag_at h i)) (pcid (image h)) q in (ap others p, λ s e. sym e ∙ p)

-- ---- any answer
module _ (h : History) (mem : Memory) (k a ac value size read : ℕ) where
  abbrev Claim : Who → Type 0
  Claim w = Since (Uncovered w a) (Gives (image h) w k a ac value size) (h then translate k a ac with mem)

  by_slot : (i : ℕ) (w : Answering h k a ac i) → (served (image h) mem a i).answer ≡ Address value size read → Claim (who_of (tag_at h i))
  by_slot i w q =
      later (translate k a ac)
      (since_map (λ h₀ m c u. u a (has w))
      (λ h₀ m k₀ b ac₀ f.
      record {
        answer =
            rw f.paging
            (hit_is f a (has w) (λ r s. r ≡ s) (control (image h)) (access_of k ac) (reach_in m (control (image h₀)) a).end _
            (again f a (has w) (control (image h₀)) m (record { width = refl; nxe = refl }) refl (grown_none m)).end
            (λ r e. rw (← e) (may_use f (control (image h)) (access_of k ac) w.serve))
            ∙ ap but_count q);
        under = (owned w).1 (image h₀) (slot_pcid f);
      })
      (whence w)) refl

  module _ (ok : Accepted h mem (translate k a ac)) where
    -- the moment is this call
    at_once : (w : Who) (on : Bool) → pg (image h).flags ≡ on → judged_by (image h) on (image h) mem (access_of k ac) a ≡ Address value size read → Claim w
    at_once w on e q =
        moment {mem = mem} k a ac ok (record { answer = rw e (ap but_count q); under = under w })
      where
        under : (w : Who) → RanUnder w (image h) (image h)
        under global = tt
        under (others p) = refl

    by_way : {o : After} → Way (image h) mem (access_of k ac) a o → o.answer ≡ Address value size read → Claim (whose (image h) a)
    by_way (unpaged off) q = at_once (whose (image h) a) false off q
    by_way (answered on i e g) q =
        let w : Answering h k a ac i = record { on = on; found = e; serve = g } in
        subst Claim ((owned w).0 ∙ ap (whose_hit (image h)) (sym e)) (by_slot i w q)
    by_way (walks on un) q = at_once (whose (image h) a) true on q

pub answers : Answers
answers h mem k a ac value size read q = go (called (bytes h) mem (translate k a ac)) q
  where
    go : {o : Outcome} → Called (bytes h) mem (translate k a ac) o → o.answer ≡ Address value size read → Claim h mem k a ac value size read (whose (image h) a)
    go (taken ok) q = by_way h mem k a ac value size read ok (way (image h) mem (access_of k ac) a) q
    go (refused n r) q = let z : ◌≡◌ {A = ℕ} 0 1 = cc in absurd (omega arith)
