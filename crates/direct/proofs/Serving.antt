-- A held page, straight into its record: the slot answers if it is one's own and allows the access. It is the one to ask where it is the first that holds the page, since it is then the
-- first match.
use Prim.Native.Nat.{ℕ, ◌+◌, ◌*◌, ◌/◌, ◌%◌, ◌^◌}
use mathlib.Core.Path.{◌≡◌, refl, ap, sym, ◌∙◌, subst}
use mathlib.Core.Bool.{Bool, true, false, ◌&&◌}
use mathlib.Core.List.{List}
use Rattle.rules.specs.Bits.{word_at}
use Rattle.rules.specs.Sizes.{size_of}
use Rattle.rules.specs.Image.{decode, control, pcid}
use Rattle.rules.specs.Memory.{Memory}
use Rattle.rules.specs.Buffer.{find, all_ways, serves, hit_address}
use Rattle.rules.specs.Answers.{Words, numbers, record_bytes}
use Rattle.rules.specs.Calls.{After, served_if, looked}
use Rattle.rules.specs.declared.Control.{Control}
use Rattle.rules.specs.declared.Answer.{Answer}
use Rattle.rules.specs.declared.Answer.TheVariants.{Address}
use Rattle.rules.proofs.BoolLaws.{and_left, and_right}
use Rattle.rules.proofs.PlaceLaws.{flags_at}
use Rattle.sets.specs.Ways.{tag_in}
use Rattle.buffer.specs.declared.look.Place.{Place}
use Rattle.std.specs.Prelude.{Option, Some, None}
use Rattle.buffer.specs.Look.{place, Right, Looks, is_of, FirstHeld}
use Rattle.buffer.proofs.Looking.{look_own, look_none}
use Rattle.numbers.specs.Needs.{IsPcid, ForEach}
use Rattle.records.specs.Record.{Holds}
use Rattle.paging.specs.Paged.{Usable, missed, Encodes}
use Rattle.paging.proofs.Holding.{slot_datum, slot_address, first_looked, none_looked}
use Rattle.direct.specs.Writing.{Serves, Writes}

-- ---- whether it answers
module _ (b r : List ℕ) (at l p n a : ℕ) (o : Bool) (sp : IsPcid b p) (own : o ≡ is_of p (tag_in b (at / 16))) where
  own_is : o ≡ is_of (pcid (decode b)) (tag_in b (at / 16))
  own_is = own ∙ ap (λ (x : ℕ). is_of x (tag_in b (at / 16))) sp.current

  pub another : o ≡ false → Serves b at l n a r r false
  another e = record { told = λ k of. rw (← own_is, e); answer = refl }

  module _ (d w : ℕ) (v : Bool) (right : Right (place at l)) (yes : o ≡ true) (hd : d ≡ word_at b (40 + at)) (hw : w ≡ word_at b 8)
      (hv : (c : Control) → c.flags ≡ w → ForEach c.flags n (λ k. v ≡ serves c k d)) where
    told_is : ForEach (decode b).flags n (λ k. v ≡ (is_of (pcid (decode b)) (tag_in b (at / 16)) && serves (control (decode b)) k ((decode b).slots (at / 16)).datum))
    told_is k of = rw (← own_is, yes) (hv (control (decode b)) (flags_at b ∙ sym hw) k of ∙ ap (serves (control (decode b)) k) (slot_datum b at l d right hd))

    pub barred : v ≡ false → Serves b at l n a r r false
    barred e = record { told = λ k of. sym e ∙ told_is k of; answer = refl }

    pub allowed : v ≡ true → (x : ℕ) (r' : List ℕ) → x ≡ d % 2 ^ 52 / l * l + a % l → Holds (record { kind = 0; value = x; size = l; read = 0 }) r'
        → Serves b at l n a r r' true
    allowed e x r' h g =
        record {
          told = λ k of. sym e ∙ told_is k of;
          answer = g.bytes ∙ ap (λ (y : ℕ). record_bytes (numbers (Address y l 0))) (slot_address b at l d a x right hd h);
        }

-- ---- the first that holds the page answers if it is one's own
pub first_serves : (b r r' : List ℕ) (mem : Memory) (p : Place) (n a : ℕ) (v : Bool) → Usable b → Serves b p.at p.size n a r r' v → FirstHeld b a (all_ways a) (Some p)
    → v ≡ true → ForEach (decode b).flags n (λ k. Writes (looked (decode b) mem k a (find (decode b) a)) r' b mem)
first_serves b r r' mem p n a v u s h t k of =
    let own : Bool = is_of (pcid (decode b)) (tag_in b (p.at / 16)) in
    let may : Bool = serves (control (decode b)) k ((decode b).slots (p.at / 16)).datum in
    let both : (own && may) ≡ true = sym (s.told k of) ∙ t in
    let looks : Looks b a (place p.at p.size) = look_own b a p.at p.size (pcid (decode b)) own h refl refl (and_left own may both) in
    let bytes : r' ≡ record_bytes (numbers (Address (hit_address (size_of (p.at / 16)) ((decode b).slots (p.at / 16)).datum a) (size_of (p.at / 16)).length 0)) =
    s.answer ∙ rw (t, h.right.1.1) in
    rw (first_looked b mem p.at p.size a k looks ∙ ap (λ (x : Bool). served_if x (decode b) mem k a (p.at / 16)) (and_right own may both))
    (record { answer = record { bytes = bytes }; image = sym u.image.says; memory = refl })

-- ---- nothing is held
pub nothing_first : (b b' r' : List ℕ) (mem mem' : Memory) (n a : ℕ) (o : Option Place) → FirstHeld b a (all_ways a) o → o ≡ None
    → ForEach (decode b).flags n (λ k. Writes (missed (decode b) mem k a) r' b' mem')
    → ForEach (decode b).flags n (λ k. Writes (looked (decode b) mem k a (find (decode b) a)) r' b' mem')
nothing_first b b' r' mem mem' n a o held e g k of =
    subst (λ (x : After). Writes x r' b' mem') (sym (none_looked b mem a k None (look_none b a (subst (FirstHeld b a (all_ways a)) e held)) refl)) (g k of)

-- ---- an answer is written
pub recorded : (b : List ℕ) (mem : Memory) (n a : ℕ) (r' b' : List ℕ) (mem' : Memory) (r : Answer) (w : Words)
    → ForEach (decode b).flags n (λ k. Encodes (missed (decode b) mem k a) b' mem' r) → w ≡ numbers r → Holds w r'
    → ForEach (decode b).flags n (λ k. Writes (missed (decode b) mem k a) r' b' mem')
recorded b mem n a r' b' mem' r w h e g k of =
    record { answer = subst (λ (x : Words). Holds x r') (e ∙ ap numbers (h k of).answer) g; image = (h k of).image; memory = (h k of).memory }
