-- A turn takes the bytes of a line up to its end, or the piece's, and the line's end if it is there: what is left to take is what follows them.
use Rattle.std.specs.Prelude.{Option}
use Prim.Native.Nat.{ℕ, suc, ◌+◌, ◌-◌, ◌≤◌, ◌<◌}
use mathlib.Core.Path.{◌≡◌, refl, ap, sym, ◌∙◌}
use mathlib.Core.Bool.{Bool, true, false, cond}
use mathlib.Core.List.{List, [], ◌∷◌, ◌++◌, append-nil, append_assoc}
use native.Mathlib.Omega.{arith}
use native.Mathlib.Nat.{add-zero, sub-zero}
use native.Mathlib.Numerals.{add-one}
use lib.Dec.{eqb}
use lib.ListN.{length, take, drop, length-drop, length-take}
use lib.Seq.{take_all, drop-drop}
use borrow.Author.Tests.{le-ltb, lt-leb}
use Rattle.rules.proofs.BoolLaws.{or_right}
use Rattle.trace.specs.Text.{feed}
use Rattle.trace.specs.Orders.{order_of}
use Rattle.trace.specs.Does.{Low, Given, does}
use Rattle.trace.specs.Printed.{printed}
use Rattle.trace.specs.Totals.{counted}
use Rattle.trace.specs.Trace.{most}
use Rattle.trace.specs.Pieces.{Run, Step, after, enough, ends, room, Taken, is_full, is_over, taking}
use Rattle.trace.specs.declared.Order.{Order}
use Rattle.trace.proofs.RunLaws.{take_start}
use Rattle.reading.specs.Fields.{width, end_at}
use Rattle.reading.proofs.Parts.{width_le, separator_at}
use Rattle.runs.specs.declared.Ended.{Ended}
use Rattle.runs.specs.declared.Fed.{Fed}
use Rattle.runs.specs.Feeding.{ahead, Keeps, Gathers, text_of, run_with, run_of, Ends, Ready, Turns}
use Rattle.runs.proofs.Keeping.{text_asks}

-- a run with another start of a line
abbrev with_text : List ℕ → Run → Run
with_text t r = record { text = t; lines = r.lines; totals = r.totals; image = r.image; memory = r.memory }

-- ---- bytes that end no line
one_more : (left : ℕ) (r : Run) (b : ℕ) (bs : List ℕ) → is_full left r ≡ false → eqb b feed ≡ false
    → taking left r (b ∷ bs) ≡ ahead [] 1 (taking left (with_text (take enough (r.text ++ (b ∷ []))) r) bs)
unfolding taking
one_more left r b bs h e = rw (h, or_right _ (is_over r) h, e, sub-zero left, add-one)

in_turn : (n : ℕ) (t : Taken) → ahead [] 1 (ahead [] n t) ≡ ahead [] (suc n) t
in_turn n t = ap (λ (k : ℕ). record { step = t.step; taken = k }) (omega arith)

-- all before the line's end are taken at once
line_bytes : (left : ℕ) (r : Run) (t : List ℕ) → is_full left r ≡ false → length r.text ≤ enough
    → taking left r t ≡ ahead [] (width feed t) (taking left (with_text (take enough (r.text ++ take (width feed t) t)) r) (drop (width feed t) t))
unfolding width
line_bytes left r [] h l = rw (append-nil r.text, take_all enough r.text l, add-zero)
line_bytes left r (b ∷ bs) h l = go (eqb b feed) refl (line_bytes left (with_text (take enough (r.text ++ (b ∷ []))) r) bs h (omega (arith, length-take enough (r.text ++ (b ∷ [])))))
  where
    go : (q : Bool) → eqb b feed ≡ q
        → taking left (with_text (take enough (r.text ++ (b ∷ []))) r) bs
        ≡ ahead [] (width feed bs) (taking left (with_text (take enough (take enough (r.text ++ (b ∷ [])) ++ take (width feed bs) bs)) r) (drop (width feed bs) bs))
        → taking left r (b ∷ bs)
        ≡ ahead [] (cond q 0 (suc (width feed bs)))
        (taking left (with_text (take enough (r.text ++ take (cond q 0 (suc (width feed bs))) (b ∷ bs))) r) (drop (cond q 0 (suc (width feed bs))) (b ∷ bs)))
    go true e ih = rw (append-nil r.text, take_all enough r.text l, add-zero)
    go false e ih =
        one_more left r b bs h e
        ∙ ap (ahead [] 1) ih
        ∙ in_turn (width feed bs) _
        ∙ ap (λ (t : List ℕ). ahead [] (suc (width feed bs)) (taking left (with_text t r) (drop (width feed bs) bs)))
        (take_start enough (r.text ++ (b ∷ [])) (take (width feed bs) bs) ∙ ap (take enough) (append_assoc r.text (b ∷ []) (take (width feed bs) bs)))

-- ---- the byte that does
line_ends : (left : ℕ) (r : Run) (bs : List ℕ) → is_full left r ≡ false
    → taking left r (feed ∷ bs) ≡ ahead (ends r).out 1 (taking (left - length (ends r).out) (ends r).run bs)
unfolding taking
line_ends left r bs h = rw (h, or_right _ (is_over r) h) (ap (λ (k : ℕ). record { step = after (ends r).out (taking (left - length (ends r).out) (ends r).run bs).step; taken = k }) (sym (add-one _)))

-- by what the line asks for
ends_alike : (r : Run) (t t' : List ℕ) → order_of t ≡ order_of t' → ends (with_text t r) ≡ ends (with_text t' r)
ends_alike r t t' e = ap by e
  where
    by : Option Order → Step
    by o =
        let g : Given = does o r.image r.memory in
        record {
          out = printed (r.lines + 1) g.answer;
          run = record { text = []; lines = r.lines + 1; totals = counted r.totals g.answer; image = g.image; memory = g.memory };
        }

one_after : (o : List ℕ) (m n : ℕ) (t : Taken) → ahead [] m (ahead o n t) ≡ ahead o (m + n) t
one_after o m n t = ap (λ (k : ℕ). record { step = record { out = o ++ t.step.out; run = t.step.run }; taken = k }) (omega arith)

-- ---- a turn
module _ (f : Fed) (b : List ℕ) (mem : Low) (kept piece out : List ℕ) (h : Ready f kept piece out) (at : ℕ) (e : at ≡ end_at feed piece f.taken) where
  abbrev now : Run
  now = run_of f.run kept b mem

  abbrev left : ℕ
  left = length out - f.written

  abbrev part : List ℕ
  part = take (at - f.taken) (drop f.taken piece)

  -- the run at the line's end, or the piece's
  abbrev then : Run
  then = with_text (take enough (now.text ++ part)) now

  free : is_full left now ≡ false
  free = rw (le-ltb left room (omega (arith, h.fits)), lt-leb most f.run.lines h.lines)

  span : at - f.taken ≡ width feed (drop f.taken piece)
  span = omega (arith, e)

  rest : drop (width feed (drop f.taken piece)) (drop f.taken piece) ≡ drop at piece
  rest = drop-drop (width feed (drop f.taken piece)) f.taken piece ∙ ap (λ (k : ℕ). drop k piece) (sym e)

  bytes : taking left now (drop f.taken piece) ≡ ahead [] (at - f.taken) (taking left then (drop at piece))
  bytes =
      let few : length (take f.run.kept kept) ≤ enough = omega (arith, length-take f.run.kept kept, h.few) in
      rw (span, ← rest) (line_bytes left now (drop f.taken piece) free few)

  pub high : at ≤ length piece
  high = omega (arith, e, h.some, width_le feed (drop f.taken piece), length-drop f.taken piece)

  pub to_end : (kept' : List ℕ) (n : ℕ) → Keeps kept f.run.kept part kept' n → at ≡ length piece
      → Turns f b b mem mem kept kept' piece out out
      (record { run = record { kept = n; lines = f.run.lines; totals = f.run.totals }; taken = at; written = f.written })
  to_end kept' n k g =
      record {
        said = [];
        puts = record { place = omega arith; text = sym (append-nil (take f.written out)) };
        few = k.few;
        more = omega (arith, h.some);
        high = high;
        takes = bytes ∙ ap (λ (t : List ℕ). ahead [] (at - f.taken) (taking left (with_text t now) (drop at piece))) (sym k.text);
      }

  module _ (g : at ≡ length piece → ⊥) where
    here : drop at piece ≡ feed ∷ drop (suc at) piece
    here =
        let l : width feed (drop f.taken piece) < length (drop f.taken piece) = omega (arith, high, length-drop f.taken piece, h.some) in
        let k : f.taken + suc (width feed (drop f.taken piece)) ≡ suc at = omega (arith, e) in
        sym rest
        ∙ separator_at feed (drop f.taken piece) l
        ∙ ap (λ (t : List ℕ). feed ∷ t) (drop-drop (suc (width feed (drop f.taken piece))) f.taken piece ∙ ap (λ (i : ℕ). drop i piece) k)

    pub to_line : (b' : List ℕ) (mem' : Low) (kept' : List ℕ) (n : ℕ) (text out' : List ℕ) (d : Ended)
        → Gathers kept f.run.kept part kept' n → text ≡ text_of kept' n part
        → Ends f.run b b' mem mem' text out out' f.written d
        → Turns f b b' mem mem' kept kept' piece out out' (record { run = d.run; taken = at + 1; written = d.written })
    to_line b' mem' kept' n text out' d k t s =
        let asked : Run = run_with f.run text b mem in
        let alike : ends then ≡ ends asked = ends_alike now _ text (sym (ap order_of t ∙ text_asks kept f.run.kept part kept' n k)) in
        let room : left - length (ends asked).out ≡ length out - d.written = omega (arith, s.puts.place) in
        let count : at - f.taken + 1 ≡ at + 1 - f.taken = omega (arith, e) in
        record {
          said = (ends asked).out;
          puts = s.puts;
          few = omega (arith, s.fresh);
          more = omega (arith, e);
          high = omega (arith, high);
          takes =
              bytes
              ∙ ap (λ (l : List ℕ). ahead [] (at - f.taken) (taking left then l)) here
              ∙ ap (ahead [] (at - f.taken)) (line_ends left then (drop (suc at) piece) free)
              ∙ ap (λ (c : Step). ahead [] (at - f.taken) (ahead c.out 1 (taking (left - length c.out) c.run (drop (suc at) piece)))) alike
              ∙ one_after (ends asked).out (at - f.taken) 1 (taking (left - length (ends asked).out) (ends asked).run (drop (suc at) piece))
              ∙ rw (room, count, ← s.run kept', add-one at);
        }
