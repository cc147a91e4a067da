-- An accepted translation with paging on, over the image's bytes: what it is lent, what is held, and what a walk leaves.
use Rattle.std.specs.Prelude.{ℕ, ◌^◌, ◌≤◌, ◌<◌, ◌≡◌, Option, Some, None, List}
use Rattle.rules.specs.Image.{Image, encode, decode, control, IsImage}
use Rattle.rules.specs.Memory.{Memory}
use Rattle.rules.specs.Walk.{walk}
use Rattle.rules.specs.Buffer.{find, filled}
use Rattle.rules.specs.Answers.{answer_of}
use Rattle.rules.specs.Calls.{After, looked}
use Rattle.rules.specs.declared.Access.{Access}
use Rattle.rules.specs.declared.Found.{Found}
use Rattle.rules.specs.declared.Found.TheVariants.{Page, Fault}
use Rattle.rules.specs.declared.Answer.{Answer}
use Rattle.rules.specs.declared.Answer.TheVariants.{Address}
use Rattle.numbers.specs.Needs.{ForEach}
use Rattle.paging.specs.declared.Held.{Held}

-- ---- what is lent
-- the bytes of an image, with a width
pub record Usable (b : List ℕ) : Type 0 where
  pub image : IsImage b
  pub wide : 36 ≤ (decode b).width
  pub narrow : (decode b).width ≤ 52

-- ---- what is left: the answer, bytes and memory of an outcome over parts
pub record Encodes (o : After) (b' : List ℕ) (mem' : Memory) (r : Answer) : Type 0 where
  pub answer : r ≡ o.answer
  pub image : b' ≡ encode o.image
  pub memory : mem' ≡ o.memory

-- ---- the walk
-- a finding as a walk makes it: a page's base and level are in their ranges
abbrev pub InRange : Found → Type 0
InRange (Page base level r global dirty n) = (base < 2 ^ 52) × ((1 ≤ level) × (level ≤ 3))
InRange (Fault cause level n) = Unit {0}

-- a finding is filled into the image, and answered
pub record Finishes (b b' : List ℕ) (k : Access) (a : ℕ) (f : Found) (r : Answer) : Type 0 where
  pub image : b' ≡ encode (filled (decode b) a f)
  pub answer : r ≡ answer_of (control (decode b)) k a f

-- the same of the finding of the walk, over the image s
abbrev pub missed : Image → Memory → Access → ℕ → After
missed s mem k a =
    record {
      answer = answer_of (control s) k a (walk (control s) k a mem).found;
      image = filled s a (walk (control s) k a mem).found;
      memory = (walk (control s) k a mem).memory;
    }

-- ---- a held page that answers, by its address and length
abbrev pub held_page : ℕ → ℕ → Option Held
held_page v l = Some (record { value = v; size = l })

-- ---- what is held, all ways looked at, for whatever access has this number: a page that answers, and nothing changes; or nothing, and what is left is walked for, by the
-- same flags
abbrev pub Finds : List ℕ → List ℕ → ℕ → ℕ → Option Held → Type 0
Finds b b' n a (Some h) =
    (b' ≡ b)
    × ForEach (decode b).flags n
    (λ k. (mem : Memory) → looked (decode b) mem k a (find (decode b) a) ≡ record { answer = Address h.value h.size 0; image = decode b; memory = mem })
Finds b b' n a None =
    Usable b' × ((decode b').flags ≡ (decode b).flags)
    × ForEach (decode b).flags n (λ k. (mem : Memory) → looked (decode b) mem k a (find (decode b) a) ≡ missed (decode b') mem k a)
