-- The ways through the door of a call that is lent no guest memory: the answer bytes have the wrong length, or the call's answer is written as its record.
use Prim.Native.Nat.{ℕ}
use mathlib.Core.Path.{◌≡◌, ap, sym, ◌∙◌, subst}
use mathlib.Core.List.{List}
use lib.ListN.{length}
use native.Mathlib.Decide.{ℕ_discrete}
use Rattle.std.specs.Prelude.{◌≢◌}
use Rattle.rules.specs.Refusals.{Request}
use Rattle.rules.specs.Calls.{written}
use Rattle.rules.specs.declared.Answer.{Answer}
use Rattle.rules.proofs.CallLaws.{door_written, door_refused}
use Rattle.records.specs.Record.{Recorded}
use Rattle.translator.specs.Contract.{Leaves}
use Rattle.pastrulow.specs.Door.{Passes}

pub turned_away : (q : Request) (r b : List ℕ) → (length r ≡ 32 → ⊥) → Passes q r r b b 1
turned_away q r b wrong = record { left = λ mem. sym (door_refused r b mem q wrong) }

pub answers : (q : Request) (r r' b b' : List ℕ) (a : Answer) (n : ℕ) → length r ≡ 32 → Recorded a r' n → Leaves q b b' a → Passes q r r' b b' n
answers q r r' b b' a n right done h =
    record {
      left = λ mem.
          (λ i. record { number = done.number i; answer = done.words.bytes i; image = b'; memory = mem })
          ∙ ap written (h.outcome mem)
          ∙ sym (door_written r b mem q right);
    }

-- what a call leaves is known of what it was lent and of what it left there
pub at_image : (q : Request) (s l b b' : List ℕ) (a : Answer) → s ≡ b → l ≡ b' → Leaves q s l a → Leaves q b b' a
at_image q s l b b' a e f h = subst (λ x. Leaves q x b' a) e (subst (λ x. Leaves q s x a) f h)

pub passes : (q : Request) (r r' b b' : List ℕ) (n : ℕ) → (length r ≢ 32 → (n ≡ 1) × ((r' ≡ r) × (b' ≡ b)))
    → (length r ≡ 32 → (a : Answer) × (Leaves q b b' a × Recorded a r' n)) → Passes q r r' b b' n
passes q r r' b b' n refused made = go (ℕ_discrete (length r) 32)
  where
    go : Dec (length r ≡ 32) → Passes q r r' b b' n
    go (yes e) = let m : (a : Answer) × (Leaves q b b' a × Recorded a r' n) = made e in answers q r r' b b' m.0 n e m.1.1 m.1.0
    go (no e) =
        let t : (n ≡ 1) × ((r' ≡ r) × (b' ≡ b)) = refused e in
        rw (t.0, t.1.0, t.1.1) (turned_away q r b e)
