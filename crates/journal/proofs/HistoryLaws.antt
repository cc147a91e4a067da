-- The step on the journal of a history makes the journal of the history with one more report. There are three cases: the fault has a record, it is
-- new and there is room for it, it is lost.
use Prim.Native.Nat.{ℕ, zero, suc, ◌+◌, ◌-◌, ◌≤◌, ◌<◌, min}
use mathlib.Core.Path.{◌≡◌, refl, ap, sym, ◌∙◌, fun_ext}
use mathlib.Core.Bool.{Bool, true, false, cond, ◌||◌, false≢true, or-true}
use mathlib.Core.List.{List, [], ◌∷◌, ◌++◌, map, map-append}
use native.Mathlib.Omega.{arith}
use native.Mathlib.Numerals.{add-one}
use native.Mathlib.Nat.{zero-add, add-zero}
use lib.Dec.{eqb, ltb, eqb-suc-zero, eqb-zero-suc, eqb-suc-suc}
use lib.ListN.{length, get_or, length-append, length-take}
use lib.Seq.{take_all, take-append-le}
use borrow.Author.Tests.{lt-ltb, le-ltb, ltb-true, ltb-false}
use Rattle.rules.specs.Buffer.{Hit, hit, miss, first}
use Rattle.rules.proofs.BoolLaws.{or_left, or_right}
use Rattle.journal.specs.Journal.{Fault, is_same, Record, unused, blank}
use Rattle.journal.specs.Step.{more, from, find, repeated, report}
use Rattle.journal.specs.History.{stopped, has, distinct, before, times, others, recorded, record_of, history}
use Rattle.journal.proofs.FaultLaws.{same_self, same_is, same_swap, has_take, has_new, has_distinct, Apart, apart_distinct, apart_take, distinct_snoc, before_snoc, before_new, times_snoc, times_some, times_none, others_snoc, others_more}

-- ---- looking for a fault among records in their order
abbrev hit_if : Bool → ℕ → Hit
hit_if true n = hit n
hit_if false n = miss

found : (f : Fault) (l : List Fault) (i : ℕ) (at : ℕ → Fault) → ((k : ℕ) → at (i + k) ≡ get_or l k blank.fault)
    → first (λ n. is_same (at n) f) (from i (length l)) ≡ hit_if (has f l) (i + before f l)
found f [] i at h = refl
found f (x ∷ l) i at h =
    let e : at i ≡ x = ap at (sym (add-zero i)) ∙ h 0 in
    let ih : first (λ n. is_same (at n) f) (from (suc i) (length l)) ≡ hit_if (has f l) (suc i + before f l) =
    found f l (suc i) at (λ k. let q : suc i + k ≡ i + suc k = omega arith in ap at q ∙ h (suc k)) in
    rw (e, ih) (go (is_same x f) (has f l))
  where
    go : (b m : Bool) → cond b (hit i) (hit_if m (suc i + before f l)) ≡ hit_if (b || m) (i + cond b 0 (before f l + 1))
    go true m = ap hit (sym (add-zero i))
    go false true = let q : suc i + before f l ≡ i + (before f l + 1) = omega arith in ap hit q
    go false false = refl

-- ---- a record after one more report
module _ (past : List Fault) (f : Fault) where
  abbrev next : List Fault
  next = past ++ (f ∷ [])

  -- of a fault that was reported before: its repeats count this report if it is of that fault
  repeats_next : (b : Bool) (t : ℕ) → 0 < t → stopped (t + cond b 1 0 - 1) ≡ cond b (more (stopped (t - 1))) (stopped (t - 1))
  repeats_next true t h = omega arith
  repeats_next false t h = omega arith

  record_again : (x : Fault) → has x past ≡ true → is_same x f ≡ true → repeated (record_of past x) ≡ record_of next x
  record_again x h e =
      rw (before_snoc x f past h, times_snoc x f past, same_swap f x, e)
      (ap (λ (n : ℕ). record { fault = x; first = stopped (before x past + 1); repeats = n }) (sym (repeats_next true (times x past) (times_some x past h))))

  record_same : (x : Fault) → has x past ≡ true → is_same x f ≡ false → record_of past x ≡ record_of next x
  record_same x h e =
      rw (before_snoc x f past h, times_snoc x f past, same_swap f x, e)
      (ap (λ (n : ℕ). record { fault = x; first = stopped (before x past + 1); repeats = n }) (sym (repeats_next false (times x past) (times_some x past h))))

  record_new : has f past ≡ false → record { fault = f; first = more (stopped (length past)); repeats = 0 } ≡ record_of next f
  record_new h =
      rw (before_new f past h, times_snoc f f past, times_none f past h, same_self f)
      (ap (λ (n : ℕ). record { fault = f; first = n; repeats = 0 }) (omega arith))

  -- ---- records by their number, of faults l that were all reported before
  abbrev AllIn : List Fault → Type 0
  AllIn l = (x : Fault) → has x l ≡ true → has x past ≡ true

  rest_in : (x : Fault) (l : List Fault) → AllIn (x ∷ l) → AllIn l
  rest_in x l sub y h = sub y (rw h (or-true (is_same x y)))

  records_same : (l : List Fault) → AllIn l → has f l ≡ false → (i : ℕ) → get_or (map (record_of past) l) i blank ≡ get_or (map (record_of next) l) i blank
  records_same [] sub h i = refl
  records_same (x ∷ l) sub h zero = record_same x (sub x (rw (same_self x))) (or_left (is_same x f) (has f l) h)
  records_same (x ∷ l) sub h (suc i) = records_same l (rest_in x l sub) (or_right (is_same x f) (has f l) h) i

  -- the record at this place came again
  abbrev Again : List Fault → ℕ → Type 0
  Again l n =
      (i : ℕ)
      → cond (eqb i n) (repeated (get_or (map (record_of past) l) n blank)) (get_or (map (record_of past) l) i blank) ≡ get_or (map (record_of next) l) i blank

  again_next : (x : Fault) (l : List Fault) (n : ℕ) → record_of past x ≡ record_of next x → Again l n → Again (x ∷ l) (n + 1)
  again_next x l n e ih zero = rw (add-one n, eqb-zero-suc) e
  again_next x l n e ih (suc i) = rw (add-one n, eqb-suc-suc) (ih i)

  again_first : (x : Fault) (l : List Fault) → repeated (record_of past x) ≡ record_of next x
      → ((i : ℕ) → get_or (map (record_of past) l) i blank ≡ get_or (map (record_of next) l) i blank) → Again (x ∷ l) 0
  again_first x l e rest zero = e
  again_first x l e rest (suc i) = rw eqb-suc-zero (rest i)

  -- no fault stands twice, so the first record of this one is its only one
  records_again : (l : List Fault) → AllIn l → Apart l → has f l ≡ true → Again l (before f l)
  records_again [] sub a h = absurd (false≢true h)
  records_again (x ∷ l) sub a h = go (is_same x f) refl (records_again l (rest_in x l sub) a.1)
    where
      was : has x past ≡ true
      was = sub x (rw (same_self x))

      go : (b : Bool) → is_same x f ≡ b → (has f l ≡ true → Again l (before f l)) → Again (x ∷ l) (cond b 0 (before f l + 1))
      go true e ih = again_first x l (record_again x was e) (records_same l (rest_in x l sub) (rw (same_is x f e) at a.0))
      go false e ih = again_next x l (before f l) (record_same x was e) (ih (rw e at h))

  -- a record behind the others
  records_new : (l : List Fault) (t : Record) (i : ℕ)
      → cond (eqb i (length l)) t (get_or (map (record_of next) l) i blank) ≡ get_or (map (record_of next) l ++ (t ∷ [])) i blank
  records_new [] t zero = refl
  records_new [] t (suc i) = rw eqb-suc-zero
  records_new (x ∷ l) t zero = rw eqb-zero-suc
  records_new (x ∷ l) t (suc i) = rw eqb-suc-suc (records_new l t i)

  -- ---- the step
  abbrev had : List Fault
  had = recorded past

  had_in : AllIn had
  had_in x h = sym (has_distinct x past) ∙ has_take x 64 (distinct past) h

  fault_at : (l : List Fault) (k : ℕ) → (get_or (map (record_of past) l) k blank).fault ≡ get_or l k blank.fault
  fault_at [] k = refl
  fault_at (x ∷ l) zero = refl
  fault_at (x ∷ l) (suc k) = fault_at l k

  find_is : find f (history past) ≡ hit_if (has f had) (before f had)
  find_is =
      found f had 0 (λ n. (get_or (map (record_of past) had) n blank).fault) (λ k. rw zero-add (fault_at had k))
      ∙ rw zero-add

  counts : more (stopped (length past)) ≡ stopped (length next)
  counts = rw (length-append past (f ∷ [])) (omega arith)

  -- the history with this report, where these faults have records
  whole : (l : List Fault) (n m : ℕ) (r : ℕ → Record) → recorded next ≡ l → n ≡ length l → m ≡ stopped (others l next)
      → ((i : ℕ) → r i ≡ get_or (map (record_of next) l) i blank)
      → record { held = n; lost = m; reports = more (stopped (length past)); spare = unused; records = r } ≡ history next
  whole l n m r e p q s = rw e (λ i. record { held = p i; lost = q i; reports = counts i; spare = unused; records = fun_ext s i })

  step_known : has f had ≡ true → report f (history past) ≡ history next
  step_known h =
      rw (find_is, h)
      (whole had _ _ _
      (rw (distinct_snoc f past, had_in f h))
      refl
      (rw (others_snoc had f past, h) (omega arith))
      (records_again had had_in (apart_take 64 (distinct past) (apart_distinct past)) h))

  module _ (h : has f had ≡ false) where
    step_new : length had < 64 → report f (history past) ≡ history next
    step_new g =
        let l : length had ≡ min 64 (length (distinct past)) = length-take 64 (distinct past) in
        let all : had ≡ distinct past = take_all 64 (distinct past) (omega arith) in
        let n : has f past ≡ false = sym (has_distinct f past) ∙ (rw all at h) in
        let d : recorded next ≡ had ++ (f ∷ []) =
        rw (distinct_snoc f past, n) (take_all 64 (distinct past ++ (f ∷ [])) (rw (length-append (distinct past) (f ∷ [])) (omega arith)) ∙ rw all) in
        rw (find_is, h, lt-ltb (length had) 64 g)
        (whole (had ++ (f ∷ [])) _ _ _
        d
        (sym (length-append had (f ∷ [])))
        (rw (others_snoc (had ++ (f ∷ [])) f past, has_new f had, others_more had f past n) (omega arith))
        (λ i. rw (records_same had had_in h i, record_new n, map-append (record_of next) had (f ∷ [])) (records_new had (record_of next f) i)))

    -- nothing of what has a record changes
    full : 64 ≤ length had → (b : Bool) → has f past ≡ b → recorded next ≡ had
    full g true e = rw (distinct_snoc f past, e)
    full g false e =
        let l : length had ≡ min 64 (length (distinct past)) = length-take 64 (distinct past) in
        rw (distinct_snoc f past, e) (take-append-le 64 (distinct past) (f ∷ []) (omega arith))

    step_lost : 64 ≤ length had → report f (history past) ≡ history next
    step_lost g =
        rw (find_is, h, le-ltb (length had) 64 g)
        (whole had _ _ _
        (full g (has f past) refl)
        refl
        (rw (others_snoc had f past, h) (omega arith))
        (records_same had had_in h))

pub step : (past : List Fault) (f : Fault) → report f (history past) ≡ history (past ++ (f ∷ []))
step past f = go (has f (recorded past)) refl (ltb (length (recorded past)) 64) refl
  where
    go : (a : Bool) → has f (recorded past) ≡ a → (b : Bool) → ltb (length (recorded past)) 64 ≡ b → report f (history past) ≡ history (past ++ (f ∷ []))
    go true h b e = step_known past f h
    go false h true e = step_new past f h (ltb-true _ _ e)
    go false h false e = step_lost past f h (ltb-false _ _ e)
