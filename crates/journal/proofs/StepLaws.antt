-- What each part of a step stores in a journal's bytes, and that it leaves a sound journal.
use Prim.Native.Nat.{ℕ, zero, suc, ◌+◌, ◌*◌, ◌^◌, ◌<◌}
use mathlib.Core.Path.{◌≡◌, ap, sym, ◌∙◌, subst}
use mathlib.Core.List.{List, [], ◌∷◌, ◌++◌, append_assoc}
use native.Mathlib.Omega.{arith}
use lib.ListN.{take, drop, set}
use lib.Seq.{drop-drop, sets, sets-eq}
use borrow.Author.Tests.{ne_eqb}
use Rattle.rules.specs.Bits.{AreWords, word_put, bytes_of_all}
use Rattle.rules.proofs.ImageLaws.{put_bytes}
use Rattle.journal.specs.Journal.{Fault, Record, Journal, five_words, words_in, encode, Sound}
use Rattle.journal.specs.Step.{more, counted, stored, again, with_one_more, kept, missed}
use Rattle.journal.proofs.JournalLaws.{words_set, put_word, record_put, repeats_put}

-- ---- in words
-- the eight words before the records
abbrev ahead : Journal → List ℕ → List ℕ
ahead j l =
    j.held ∷ j.lost ∷ j.reports ∷ j.spare.three ∷ j.spare.four ∷ j.spare.five ∷ j.spare.six ∷ j.spare.seven ∷ l

stored_words : (i : ℕ) (t : Record) (j : Journal) → i < 64 → words_in (stored i t j) ≡ sets (words_in j) (8 + 5 * i) (five_words t)
stored_words i t j h =
    let e : 8 + 5 * i ≡ suc (suc (suc (suc (suc (suc (suc (suc (5 * i)))))))) = omega arith in
    rw e (ap (ahead j) (record_put 64 i t j.records h))

again_words : (i : ℕ) (j : Journal) → i < 64 → words_in (again i j) ≡ set (words_in j) (12 + 5 * i) (more (j.records i).repeats)
again_words i j h =
    let e : 12 + 5 * i ≡ suc (suc (suc (suc (suc (suc (suc (suc (4 + 5 * i)))))))) = omega arith in
    rw e (ap (ahead j) (repeats_put 64 i (more (j.records i).repeats) j.records h))

-- ---- in bytes
module _ (j : Journal) where
  pub counted_bytes : encode (counted j) ≡ word_put (encode j) 16 (more j.reports)
  unfolding encode
  counted_bytes = put_word (words_in j) 2 (more j.reports) (omega arith)

  pub missed_bytes : encode (missed j) ≡ word_put (encode j) 8 (more j.lost)
  unfolding encode
  missed_bytes = put_word (words_in j) 1 (more j.lost) (omega arith)

  pub one_more_bytes : encode (with_one_more j) ≡ word_put (encode j) 0 (j.held + 1)
  unfolding encode
  one_more_bytes = put_word (words_in j) 0 (j.held + 1) (omega arith)

  pub again_bytes : (i : ℕ) → i < 64 → encode (again i j) ≡ word_put (encode j) (96 + i * 40) (more (j.records i).repeats)
  unfolding encode
  again_bytes i h =
      let e : 8 * (12 + 5 * i) ≡ 96 + i * 40 = omega arith in
      ap bytes_of_all (again_words i j h) ∙ rw e at (put_word (words_in j) (12 + 5 * i) (more (j.records i).repeats) (omega arith))

  pub stored_bytes : (i : ℕ) (t : Record) → i < 64
      → encode (stored i t j) ≡ take (64 + i * 40) (encode j) ++ (bytes_of_all (five_words t) ++ drop 40 (drop (64 + i * 40) (encode j)))
  unfolding encode
  stored_bytes i t h =
      let at : 8 * (8 + 5 * i) ≡ 64 + i * 40 = omega arith in
      let end : 8 * (8 + 5 * i + 5) ≡ 64 + i * 40 + 40 = omega arith in
      ap bytes_of_all (stored_words i t j h ∙ sets-eq (five_words t) (words_in j) (8 + 5 * i) (omega arith) ∙ append_assoc (take (8 + 5 * i) (words_in j)) (five_words t) _)
      ∙ rw (at, end, ← drop-drop 40 (64 + i * 40) (encode j)) at (put_bytes (8 + 5 * i) (8 + 5 * i + 5) (five_words t) (words_in j))

-- ---- what a step leaves is sound
words_sets : (vs ws : List ℕ) (n : ℕ) → AreWords vs → AreWords ws → AreWords (sets ws n vs)
words_sets [] ws n g h = h
words_sets (v ∷ vs) ws n g h = words_sets vs (set ws n v) (suc n) (λ i. g (suc i)) (words_set ws n v h (g 0))

more_fits : (n : ℕ) → more n < 2 ^ 64
more_fits n = omega arith

module _ (j : Journal) (q : Sound j) where
  pub sound_counted : Sound (counted j)
  sound_counted = record { words = words_set (words_in j) 2 (more j.reports) q.words (more_fits j.reports); beyond = q.beyond }

  pub sound_missed : Sound (missed j)
  sound_missed = record { words = words_set (words_in j) 1 (more j.lost) q.words (more_fits j.lost); beyond = q.beyond }

  pub sound_one_more : j.held < 64 → Sound (with_one_more j)
  sound_one_more h = record { words = words_set (words_in j) 0 (j.held + 1) q.words (omega arith); beyond = q.beyond }

  module _ (i : ℕ) (h : i < 64) where
    pub sound_again : Sound (again i j)
    sound_again =
        record {
          words = subst AreWords (sym (again_words i j h)) (words_set (words_in j) (12 + 5 * i) _ q.words (more_fits (j.records i).repeats));
          beyond = λ k g. rw (ne_eqb k i (omega arith)) (q.beyond k g);
        }

    pub sound_stored : (t : Record) → AreWords (five_words t) → Sound (stored i t j)
    sound_stored t f =
        record {
          words = subst AreWords (sym (stored_words i t j h)) (words_sets (five_words t) (words_in j) (8 + 5 * i) f q.words);
          beyond = λ k g. rw (ne_eqb k i (omega arith)) (q.beyond k g);
        }

pub sound_kept : (f : Fault) (j : Journal) → Sound j → j.held < 64 → f.page < 2 ^ 64 → f.code < 2 ^ 64 → f.root < 2 ^ 64 → Sound (kept f j)
sound_kept f j q h p c r =
    sound_stored (with_one_more j) (sound_one_more j q h) j.held h (record { fault = f; first = j.reports; repeats = 0 }) fit
  where
    fit : AreWords (f.page ∷ f.code ∷ f.root ∷ j.reports ∷ 0 ∷ [])
    fit zero = p
    fit (suc zero) = c
    fit (suc (suc zero)) = r
    fit (suc (suc (suc zero))) = q.words 2
    fit (suc (suc (suc (suc zero)))) = omega arith
    fit (suc (suc (suc (suc (suc i))))) = omega arith
