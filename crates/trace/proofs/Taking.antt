-- What is taken of a piece into lent bytes is a run over a start of it, that ends only where the room or the lines do: byte by byte, as it is defined. So
-- portions one after the other print the output of all that was taken.
use Rattle.std.proofs.Common.{◌≡◌, ℕ, ◌-◌, Bool, true, false, cond, List, [], ◌∷◌, ◌++◌, length, take, sym, refl, ap, ◌∙◌, true≢false, append-nil, arith, length-append, le-ltb}
use native.Mathlib.Nat.{sub-zero, sub-add-eq}
use Rattle.trace.specs.Pieces.{Run, begun, Step, is_over, byte, bytes, after, room, Taken, is_full, onward, taking}
use Rattle.trace.specs.Claims.{Part, Takes, Portion, Portions, portions, InPortions, InPortionsOver}
use Rattle.trace.proofs.RunLaws.{bytes_append, over}
use Rattle.trace.proofs.Whole.{ended, whole}

-- what is taken where it is full
none : (left : ℕ) (r : Run) (b : ℕ) (bs : List ℕ) → is_full left r ≡ true → Part left r (b ∷ bs) (record { step = record { out = []; run = r }; taken = 0 })
unfolding bytes
none left r b bs h =
    record {
      start = refl;
      within = omega arith;
      some = λ e o p. absurd (true≢false (sym h ∙ rw (le-ltb left room e, o)));
      all = λ p. rw (sub-zero left) h;
    }

-- a run over one byte more
bytes_more : (r : Run) (b : ℕ) (bs : List ℕ) (s : Step) → byte r b ≡ s → after s.out (bytes s.run bs) ≡ bytes r (b ∷ bs)
unfolding bytes
bytes_more r b bs s e = ap (λ (z : Step). after z.out (bytes z.run bs)) (sym e)

one_more : (left : ℕ) (r : Run) (b : ℕ) (bs : List ℕ) (s : Step) (t : Taken) → byte r b ≡ s → Part (left - length s.out) s.run bs t
    → Part left r (b ∷ bs) (onward s t)
one_more left r b bs s t e q =
    record {
      start = ap (after s.out) q.start ∙ bytes_more r b (take t.taken bs) s e;
      within = omega (arith, q.within);
      some = λ e o p. omega arith;
      all = λ p. rw (length-append s.out t.step.out, sub-add-eq left) (q.all (omega arith));
    }

-- either nothing, for want of room or as the last line was read, or a step `s` and what is taken after it
chosen : (left : ℕ) (f : Bool) (r : Run) (b : ℕ) (bs : List ℕ) (s : Step) (t : Taken) → is_full left r ≡ f → byte r b ≡ s
    → Part (left - length s.out) s.run bs t
    → Part left r (b ∷ bs) (cond f (record { step = record { out = []; run = r }; taken = 0 }) (onward s t))
chosen left true r b bs s t h e q = none left r b bs h
chosen left false r b bs s t h e q = one_more left r b bs s t e q

takes_more : (left : ℕ) (r : Run) (b : ℕ) (bs : List ℕ) → ((k : ℕ) (q : Run) → Part k q bs (taking k q bs)) → Part left r (b ∷ bs) (taking left r (b ∷ bs))
unfolding taking
takes_more left r b bs ih =
    let s : Step = byte r b in
    chosen left (is_full left r) r b bs s (taking (left - length s.out) s.run bs) refl refl (ih (left - length s.out) s.run)

takes_none : (left : ℕ) (r : Run) → Part left r [] (taking left r [])
unfolding taking bytes
takes_none left r = record { start = refl; within = omega arith; some = λ e o p. p; all = λ p. absurd (omega arith) }

pub takes : Takes
takes left r [] = takes_none left r
takes left r (b ∷ bs) = takes_more left r b bs (λ k q. takes k q bs)

-- ---- portions, one after the other, are a run over all that was taken
portions_bytes : (r : Run) (ps : List Portion) → ◌≡◌ {A = Step} (record { out = (portions r ps).out; run = (portions r ps).run }) (bytes r (portions r ps).took)
unfolding bytes
portions_bytes r [] = refl
portions_bytes r (p ∷ ps) =
    let t : Taken = taking p.lent r p.piece in
    ap (after t.step.out) (portions_bytes t.step.run ps)
    ∙ ap (λ (s : Step). after s.out (bytes s.run (portions t.step.run ps).took)) (takes p.lent r p.piece).start
    ∙ sym (bytes_append r (take t.taken p.piece) (portions t.step.run ps).took)

pub in_portions : InPortions
in_portions ps = ap ended (portions_bytes begun ps) ∙ whole (portions begun ps).took

-- after the last line that is read, what follows adds nothing
over_adds : (r : Run) (o more : List ℕ) → is_over r ≡ true → after o (bytes r more) ≡ record { out = o; run = r }
over_adds r o more h = ap (after o) (over r more h) ∙ ap (λ (l : List ℕ). record { out = l; run = r }) (append-nil o)

pub in_portions_over : InPortionsOver
in_portions_over ps more h =
    let p : Portions = portions begun ps in
    ap ended (sym (over_adds p.run p.out more h)
    ∙ ap (λ (s : Step). after s.out (bytes s.run more)) (portions_bytes begun ps)
    ∙ sym (bytes_append begun p.took more))
    ∙ whole (p.took ++ more)
