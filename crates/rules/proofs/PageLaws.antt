-- The page that the lookup hands back is where a walk reads: the entry at an address of such a page is the page's word there.
use Prim.Native.Nat.{ℕ, zero, suc, ◌+◌, ◌-◌, ◌*◌, ◌/◌, ◌%◌, ◌≤◌, ◌<◌}
use mathlib.Core.Path.{◌≡◌, refl, ap, sym, ◌∙◌}
use mathlib.Core.Bool.{Bool, true, false, cond}
use mathlib.Core.List.{List, [], ◌∷◌}
use native.Mathlib.Omega.{arith}
use lib.ListN.{length, take, drop}
use lib.Seq.{take-take, drop-drop}
use lib.Dec.{ltb}
use borrow.Author.Tests.{ltb-true, ltb-false}
use Rattle.rules.specs.Bits.{word, word_at}
use Rattle.rules.specs.Memory.{Memory, high_base, entry_in, page_of_part, entry_at, no_lengths, page_of}
use Rattle.rules.proofs.PartLaws.{entry_inside}

within : (i m n : ℕ) (l : List ℕ) → i + m ≤ n → take m (drop i (take n l)) ≡ take m (drop i l)
within zero m n l h = take-take m n l (omega arith)
within (suc i) m zero l h = absurd (omega arith)
within (suc i) m (suc n) [] h = refl
within (suc i) m (suc n) (x ∷ xs) h = within i m n xs (omega arith)

-- ---- of one part
module _ (part : List ℕ) (a : ℕ) (eight : a % 8 ≡ 0) where
  abbrev Reads : List ℕ → Type 0
  Reads page = (page ≡ [] → ⊥) → entry_in part a ≡ word_at page (a % 4096)

  there : a / 4096 < length part / 4096 → entry_in part a ≡ word_at (take 4096 (drop (a / 4096 * 4096) part)) (a % 4096)
  there h =
      let whole : a / 4096 * 4096 + a % 4096 ≡ a = omega arith in
      let e : take 8 (drop (a % 4096) (take 4096 (drop (a / 4096 * 4096) part))) ≡ take 8 (drop a part) =
      within (a % 4096) 8 4096 (drop (a / 4096 * 4096) part) (omega arith)
      ∙ ap (take 8) (drop-drop (a % 4096) (a / 4096 * 4096) part ∙ ap (λ (i : ℕ). drop i part) whole) in
      entry_inside a part (omega arith) ∙ ap word (sym e)

  page_reads : Reads (page_of_part part a)
  page_reads = go (ltb (a / 4096) (length part / 4096)) refl
    where
      go : (x : Bool) → ltb (a / 4096) (length part / 4096) ≡ x → Reads (cond x (take 4096 (drop (a / 4096 * 4096) part)) [])
      go true e n = there (ltb-true (a / 4096) (length part / 4096) e)
      go false e n = absurd (n refl)

-- ---- and of memory
pub page_entry : (mem : Memory) (a : ℕ) → a % 8 ≡ 0 → (page_of mem a ≡ [] → ⊥) → entry_at mem a ≡ word_at (page_of mem a) (a % 4096)
page_entry mem a eight = go (no_lengths mem) (ltb a high_base) refl
  where
    go : (x y : Bool) → ltb a high_base ≡ y → (cond x [] (cond y (page_of_part mem.low a) (page_of_part mem.high (a - high_base))) ≡ [] → ⊥)
        → cond y (entry_in mem.low a) (entry_in mem.high (a - high_base))
        ≡ word_at (cond x [] (cond y (page_of_part mem.low a) (page_of_part mem.high (a - high_base)))) (a % 4096)
    go true y e n = absurd (n refl)
    go false true e n = page_reads mem.low a eight n
    go false false e n =
        let h : (a - high_base) % 8 ≡ 0 = omega (arith, ltb-false a high_base e) in
        let q : (a - high_base) % 4096 ≡ a % 4096 = omega (arith, ltb-false a high_base e) in
        page_reads mem.high (a - high_base) h n ∙ ap (word_at (page_of_part mem.high (a - high_base))) q
