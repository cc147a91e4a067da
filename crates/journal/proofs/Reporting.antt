-- The ways through a report: what each function below it stores is what its part of the step says, and after the report was counted the bytes
-- are a journal's again.
use Prim.Native.Nat.{ℕ, ◌+◌, ◌-◌, ◌*◌, ◌≤◌, ◌<◌}
use mathlib.Core.Path.{◌≡◌, ap, ap₂, sym, ◌∙◌, subst}
use mathlib.Core.Bool.{false, ◌||◌, not}
use mathlib.Core.List.{List, [], ◌∷◌, ◌++◌}
use native.Mathlib.Omega.{arith}
use lib.Dec.{ltb}
use lib.ListN.{length, take, drop, replicate}
use borrow.Author.Tests.{lt-ltb, le-ltb, ltb-false, eqb-true, not-false}
use Rattle.rules.specs.Bits.{AreBytes, word_at, word_put, bytes_of_all}
use Rattle.rules.proofs.BoolLaws.{or_left, or_right}
use Rattle.journal.specs.Journal.{Fault, Journal, encode, decode, IsJournal}
use Rattle.rules.specs.Buffer.{miss}
use Rattle.journal.specs.Step.{more, find, counted, again, with_one_more, kept, missed, report}
use Rattle.journal.specs.Calls.{is_long, is_unfit, Clears}
use Rattle.journal.specs.Parts.{Fit, IsFirst, Finds}
use Rattle.std.specs.Prelude.{Option, Some, None}
use Rattle.journal.proofs.JournalLaws.{held_at_lem, lost_at, reports_at, repeats_at, decode_encode, journal_of, is_encoded}
use Rattle.journal.proofs.StepLaws.{counted_bytes, missed_bytes, one_more_bytes, again_bytes, stored_bytes, sound_counted}
use Rattle.journal.proofs.Finding.{finds_hit, finds_none}

-- ---- counts
module _ (b b' : List ℕ) (h : IsJournal b) where
  counted_at : (j : Journal) (at n : ℕ) → encode j ≡ word_put (encode (decode b)) at (more n) → n ≡ word_at b at → b' ≡ word_put b at (more (word_at b at)) → b' ≡ encode j
  counted_at j at n p q e = e ∙ sym (p ∙ ap₂ (λ (x : List ℕ) (m : ℕ). word_put x at (more m)) h.says q)

  pub report_counted : b' ≡ word_put b 16 (more (word_at b 16)) → b' ≡ encode (counted (decode b))
  report_counted = counted_at (counted (decode b)) 16 (decode b).reports (counted_bytes (decode b)) (reports_at b)

  pub lost_counted : b' ≡ word_put b 8 (more (word_at b 8)) → b' ≡ encode (missed (decode b))
  lost_counted = counted_at (missed (decode b)) 8 (decode b).lost (missed_bytes (decode b)) (lost_at b)

  pub repeat_counted : (i : ℕ) → i < 64 → b' ≡ word_put b (96 + i * 40) (more (word_at b (96 + i * 40))) → b' ≡ encode (again i (decode b))
  repeat_counted i g = counted_at (again i (decode b)) (96 + i * 40) ((decode b).records i).repeats (again_bytes (decode b) i g) (repeats_at b i g)

-- ---- a record
-- the next place is taken, with the number of the report, which is counted by now; `u` is what the lent part holds then
pub new_kept : (b b₁ u : List ℕ) (held : ℕ) (f : Fault) (n : ℕ) → IsJournal b → held ≡ (decode b).held → held < 64 → n ≡ word_at b 16 → b₁ ≡ word_put b 0 (held + 1)
    → u ≡ bytes_of_all (f.page ∷ f.code ∷ f.root ∷ n ∷ 0 ∷ [])
    → take (64 + held * 40) b₁ ++ (u ++ drop (64 + held * 40 + 40 - (64 + held * 40)) (drop (64 + held * 40) b₁))
    ≡ encode (kept f (decode b))
new_kept b b₁ u held f n h e g en e₁ eu =
    let j : Journal = decode b in
    let one : b₁ ≡ encode (with_one_more j) = e₁ ∙ sym (one_more_bytes j ∙ ap₂ (λ (x : List ℕ) (m : ℕ). word_put x 0 (m + 1)) h.says (sym e)) in
    let first : n ≡ j.reports = en ∙ sym (reports_at b) in
    let forty : 64 + held * 40 + 40 - (64 + held * 40) ≡ 40 = omega arith in
    rw (forty, one, eu, e, first)
    (sym (stored_bytes (with_one_more j) j.held (record { fault = f; first = j.reports; repeats = 0 }) (rw e at g)))

-- ---- a report that is not refused: counted, and then by what was found
first_of : (f : Fault) (j : Journal) (o : Option ℕ) → Finds f j o → (i : ℕ) → o ≡ Some i → IsFirst f j i
first_of f j o found i e = subst (Finds f j) e found

pub place_room : (b : List ℕ) (f : Fault) (o : Option ℕ) → Fit b → Finds f (decode b) o → (i : ℕ) → o ≡ Some i → i < 64
place_room b f o h found i e = let g : IsFirst f (decode b) i = first_of f (decode b) o found i e in omega (arith, g.held, h.room)

module _ (b : List ℕ) (held : ℕ) (eh : held ≡ word_at b 0) where
  pub is_held_lem : held ≡ (decode b).held
  is_held_lem = eh ∙ sym (held_at_lem b)

  pub held_room : Fit b → held ≤ 64
  held_room h = rw is_held_lem h.room

module _ (b b₁ : List ℕ) (h : Fit b) (e₁ : b₁ ≡ encode (counted (decode b))) where
  pub journal_counted : IsJournal b₁
  journal_counted = subst IsJournal (sym e₁) (is_encoded (counted (decode b)) (sound_counted (decode b) h.journal.sound))

  says_counted : decode b₁ ≡ counted (decode b)
  says_counted = ap decode e₁ ∙ decode_encode (counted (decode b)) (sound_counted (decode b) h.journal.sound)

  module _ (held : ℕ) (eh : held ≡ word_at b 0) where
    held_now : held ≡ (decode b).held
    held_now = is_held_lem b held eh

    pub held_counted : held ≡ (decode b₁).held
    held_counted = held_now ∙ sym (ap (λ (j : Journal). j.held) says_counted)

    module _ (b₂ : List ℕ) (f : Fault) (o : Option ℕ) (found : Finds f (decode b) o) where
      pub came_again : (i : ℕ) → o ≡ Some i → b₂ ≡ encode (again i (decode b₁)) → b₂ ≡ encode (report f (decode b))
      came_again i q e = rw (finds_hit f (decode b) i (first_of f (decode b) o found i q)) (e ∙ rw says_counted)

      new : o ≡ None → find f (decode b) ≡ miss
      new q = finds_none f (decode b) (subst (Finds f (decode b)) q found)

      pub came_new : o ≡ None → held < 64 → b₂ ≡ encode (kept f (decode b₁)) → b₂ ≡ encode (report f (decode b))
      came_new q k e = rw (new q, lt-ltb (decode b).held 64 (rw held_now at k)) (e ∙ rw says_counted)

      pub came_late : o ≡ None → 64 ≤ held → b₂ ≡ encode (missed (decode b₁)) → b₂ ≡ encode (report f (decode b))
      came_late q k e = rw (new q, le-ltb (decode b).held 64 (rw held_now at k)) (e ∙ rw says_counted)

-- ---- the two calls
module _ (b b' : List ℕ) where
  pub clear_done : not (is_long b) ≡ false → b' ≡ replicate (length b) 0 → Clears b b' 0
  clear_done h e = let l : length b ≡ 2624 = eqb-true (length b) 2624 (not-false (is_long b) h) in record { left = rw (e, l) }

module _ (b : List ℕ) where
  pub report_fit : is_unfit b ≡ false → AreBytes b → Fit b
  report_fit t bytes =
      let low : (not (is_long b) || ltb 64 (decode b).held) ≡ false = or_left _ _ (or_left _ _ (or_left _ _ t)) in
      record {
        journal = journal_of b bytes (eqb-true (length b) 2624 (not-false (is_long b) (or_left _ (ltb 64 (decode b).held) low)));
        room = ltb-false 64 (decode b).held (or_right (not (is_long b)) _ low);
      }
