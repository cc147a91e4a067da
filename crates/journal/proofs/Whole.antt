-- After a clear and any reports a journal's bytes are those of the whole history. A journal of a history is sound and is not refused, so by
-- induction each report makes the step on it, and the step makes the journal of the history with that report.
use Prim.Native.Nat.{ℕ, zero, suc, ◌+◌, ◌^◌, ◌≤◌, ◌<◌, min}
use mathlib.Core.Path.{◌≡◌, refl, ap, ◌∙◌, subst}
use mathlib.Core.Bool.{Bool, true, false, cond}
use mathlib.Core.List.{List, [], ◌∷◌, ◌++◌, map, append-nil, append_assoc}
use native.Mathlib.Omega.{arith}
use lib.Dec.{eqb, ltb}
use lib.ListN.{length, get_or, length-take}
use borrow.Author.Tests.{le-ltb, ltb-true, eq-eqb}
use Rattle.rules.specs.Buffer.{Hit, hit, miss}
use Rattle.rules.proofs.BoolLaws.{either}
use Rattle.rules.proofs.Alike.{AllOf}
use Rattle.rules.proofs.SlotLaws.{Hits, first_all}
use Rattle.rules.proofs.ImageLaws.{zeros_at}
use Rattle.journal.specs.Journal.{Fault, fault_of, limit, Record, Journal, blank, encode, decode, Sound}
use Rattle.journal.specs.Step.{from, find, counted, placed, report}
use Rattle.journal.specs.History.{stopped, others, distinct, recorded, record_of, history}
use Rattle.journal.specs.Calls.{is_over, is_unfit, cleared, reported}
use Rattle.journal.specs.Claims.{Report, faults, after, Whole}
use Rattle.journal.proofs.JournalLaws.{encode_length, decode_encode}
use Rattle.journal.proofs.StepLaws.{sound_counted, sound_again, sound_kept, sound_missed}
use Rattle.journal.proofs.HistoryLaws.{step}

-- ---- a report leaves a sound journal
from_low : (i n : ℕ) → i + n ≤ 64 → AllOf (λ k. k < 64) (from i n)
from_low i zero h = tt {0}
from_low i (suc n) h = (omega arith, from_low (suc i) n (omega arith))

sound_report : (f : Fault) (j : Journal) → Sound j → j.held ≤ 64 → f.page < 2 ^ 64 → f.code < 2 ^ 64 → f.root < 2 ^ 64 → Sound (report f j)
sound_report f j q h p c r = go (find f j) (first_all (λ k. k < 64) _ (from 0 j.held) (from_low 0 j.held (omega arith)))
  where
    go : (x : Hit) → Hits (λ k. k < 64) x → Sound (placed f (counted j) x)
    go (hit i) low = sound_again (counted j) (sound_counted j q) i low
    go miss low =
        either Sound (ltb j.held 64) _ _ (λ g. sound_kept f (counted j) (sound_counted j q) (ltb-true j.held 64 g) p c r)
        (λ g. sound_missed (counted j) (sound_counted j q))

-- ---- the journal of a history is not refused
repeats_low : (xs l : List Fault) (i : ℕ) → (get_or (map (record_of xs) l) i blank).repeats ≤ limit
repeats_low xs [] i = omega arith
repeats_low xs (x ∷ l) zero = omega arith
repeats_low xs (x ∷ l) (suc i) = repeats_low xs l i

not_over : (n : ℕ) (f : ℕ → Record) → ((i : ℕ) → (f i).repeats ≤ limit) → is_over n f ≡ false
not_over zero f h = refl
not_over (suc n) f h = rw (not_over n f h) (le-ltb limit (f n).repeats (h n))

held_low : (xs : List Fault) → length (recorded xs) ≤ 64
held_low xs = let l : length (recorded xs) ≡ min 64 (length (distinct xs)) = length-take 64 (distinct xs) in omega arith

-- these are the bytes of a history's journal, and it is sound
pub record Stands (b : List ℕ) (xs : List Fault) : Type 0 where
  pub bytes : b ≡ encode (history xs)
  pub sound : Sound (history xs)

module _ (b : List ℕ) (xs : List Fault) (s : Stands b xs) where
  says_history : decode b ≡ history xs
  says_history = ap decode s.bytes ∙ decode_encode (history xs) s.sound

  fit : is_unfit b ≡ false
  fit =
      rw (
        eq-eqb (length b) 2624 (ap length s.bytes ∙ encode_length (history xs)),
        says_history,
        le-ltb 64 (length (recorded xs)) (held_low xs),
        not_over (length (recorded xs)) (history xs).records (repeats_low xs (recorded xs)),
        le-ltb limit (stopped (others (recorded xs) xs)) (omega arith),
        le-ltb limit (stopped (length xs)) (omega arith),
      )

  -- ---- one more report
  next : (a c r : ℕ) → c < 2 ^ 64 → r < 2 ^ 64 → Stands (reported a c r b).journal (xs ++ (fault_of a c r ∷ []))
  next a c r g h =
      record {
        bytes = rw fit (ap (λ (j : Journal). encode (report (fault_of a c r) j)) says_history ∙ ap encode (step xs (fault_of a c r)));
        sound = subst Sound (step xs (fault_of a c r)) (sound_report (fault_of a c r) (history xs) s.sound (held_low xs) (omega arith) g h);
      }

-- ---- all of them
stands : (qs : List Report) (b : List ℕ) (past : List Fault) → Stands b past → Stands (after b qs) (past ++ faults qs)
stands [] b past s = rw append-nil s
stands (q ∷ qs) b past s =
    go (eqb q.lent 2624) (fault_of q.address q.code q.root) _
    (stands qs _ _ (next b past s q.address q.code q.root q.code_fits q.root_fits))
    (stands qs b past s)
  where
    go : (t : Bool) (f : Fault) (b' : List ℕ) → Stands (after b' qs) ((past ++ (f ∷ [])) ++ faults qs) → Stands (after b qs) (past ++ faults qs)
        → Stands (after (cond t b' b) qs) (past ++ cond t (f ∷ faults qs) (faults qs))
    go true f b' u v = rw append_assoc at u
    go false f b' u v = v

clear : (b : List ℕ) → length b ≡ 2624 → Stands (cleared b).journal []
unfolding encode
clear b h =
    rw (eq-eqb (length b) 2624 h)
    (record {
      bytes = refl;
      sound = record { words = λ i. rw (zeros_at 328 i) (omega arith); beyond = λ i g. refl };
    })

pub whole : Whole
whole b h qs =
    let s : Stands (after (cleared b).journal qs) (faults qs) = stands qs (cleared b).journal [] (clear b h) in
    record { bytes = s.bytes; taken = λ a c r. rw (fit _ _ s) }
