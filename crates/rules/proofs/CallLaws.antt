-- For a given input there is one outcome. A refused call changes nothing; the number given is the lowest that applies, since each list rises.
use Prim.Native.Nat.{ℕ, suc, ◌≤◌, ◌<◌}
use mathlib.Core.Path.{◌≡◌, refl, ap, sym, ◌∙◌}
use mathlib.Core.Bool.{Bool, true, false, cond}
use mathlib.Core.List.{List, [], ◌∷◌, Memᴰ}
use native.Mathlib.Omega.{arith}
use lib.ListN.{length}
use borrow.Author.Tests.{eq-eqb, ne_eqb}
use Rattle.rules.specs.Memory.{Memory}
use Rattle.rules.specs.Image.{decode}
use Rattle.rules.specs.Refusals.{Request, start_with, translate, invlpg, invpcid, write_cr3, write_mode, Refusal, lowest, refusals, refusal}
use Rattle.rules.specs.Calls.{accepted, Outcome, encoded, call, by_number, Left, written, door}
use Rattle.rules.specs.declared.Answer.TheVariants.{Refused}
use Rattle.rules.proofs.BoolLaws.{either}

-- ---- one outcome: what a call leaves is a function of what it is given, and a contract says that it is this
pub one_outcome : (b : List ℕ) (mem : Memory) (q : Request) (o o' : Outcome) → o ≡ call b mem q → o' ≡ call b mem q → o ≡ o'
one_outcome b mem q o o' h g = h ∙ sym g

pub one_left : (r b : List ℕ) (mem : Memory) (q : Request) (o o' : Left) → o ≡ door r b mem q → o' ≡ door r b mem q → o ≡ o'
one_left r b mem q o o' h g = h ∙ sym g

-- ---- accepted or refused
pub call_accepted : (b : List ℕ) (mem : Memory) (q : Request) → refusal b mem q ≡ 0 → call b mem q ≡ encoded (accepted (decode b) mem q)
call_accepted b mem q h = ap (by_number b mem q) h

pub call_refused : (b : List ℕ) (mem : Memory) (q : Request) (n : ℕ) → refusal b mem q ≡ suc n
    → call b mem q ≡ record { answer = Refused (suc n); image = b; memory = mem }
call_refused b mem q n h = ap (by_number b mem q) h

-- ---- through the door: with 32 answer bytes the record is written, with any other number refusal 1 writes nothing at all
pub door_written : (r b : List ℕ) (mem : Memory) (q : Request) → length r ≡ 32 → door r b mem q ≡ written (call b mem q)
door_written r b mem q h = rw (eq-eqb (length r) 32 h)

pub door_refused : (r b : List ℕ) (mem : Memory) (q : Request) → (length r ≡ 32 → ⊥)
    → door r b mem q ≡ record { number = 1; answer = r; image = b; memory = mem }
door_refused r b mem q h = rw (ne_eqb (length r) 32 h)

-- ---- the lowest number that applies
abbrev pub Above : ℕ → List Refusal → Type 0
Above n [] = Unit {0}
Above n (r ∷ rs) = (n < r.number) × Above n rs

abbrev pub Rising : List Refusal → Type 0
Rising [] = Unit {0}
Rising (r ∷ rs) = Above r.number rs × Rising rs

pub rising : (b : List ℕ) (mem : Memory) (q : Request) → Rising (refusals b mem q)
rising b mem (start_with w f) = omega arith
rising b mem (translate k a ac) = omega arith
rising b mem (invlpg a) = omega arith
rising b mem (invpcid t p a) = omega arith
rising b mem (write_cr3 v) = omega arith
rising b mem (write_mode v) = omega arith

-- one that applies is given, unless a lower one is
above_member : (n : ℕ) {r : Refusal} {rs : List Refusal} → Above n rs → Memᴰ r rs → n < r.number
above_member n h (Memᴰ.head e) = rw e h.0
above_member n h (Memᴰ.tail m) = above_member n h.1 m

pub lowest_least : {r : Refusal} {rs : List Refusal} → Rising rs → Memᴰ r rs → r.applies ≡ true → lowest rs ≤ r.number
lowest_least {r} h (Memᴰ.head {x} {xs} e) t = rw (← e, t) (omega arith)
lowest_least {r} h (Memᴰ.tail {x} {xs} m) t =
    either (λ (n : ℕ). n ≤ r.number) x.applies x.number (lowest xs) (λ e. omega (arith, above_member x.number h.0 m)) (λ e. lowest_least h.1 m t)

-- and the one that is given applies
pub lowest_applies : (rs : List Refusal) (n : ℕ) → lowest rs ≡ suc n → (r : Refusal) × Memᴰ r rs × (r.number ≡ suc n) × (r.applies ≡ true)
lowest_applies [] n h = absurd (omega arith)
lowest_applies (x ∷ xs) n h = go x.applies refl h (lowest_applies xs n)
  where
    Given : List Refusal → Type 0
    Given rs = (r : Refusal) × Memᴰ r rs × (r.number ≡ suc n) × (r.applies ≡ true)

    go : (b : Bool) → x.applies ≡ b → cond b x.number (lowest xs) ≡ suc n → (lowest xs ≡ suc n → Given xs) → Given (x ∷ xs)
    go true e g ih = (x, Memᴰ.head refl, g, e)
    go false e g ih =
        let i : Given xs = ih g in
        (i.0, Memᴰ.tail i.1, i.2, i.3)
