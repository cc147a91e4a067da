-- A walk that is made: it goes by the image's control state, its finding is in range, and it is kept and answered.
use Prim.Native.Nat.{ℕ, ◌+◌, ◌%◌, ◌≤◌, ◌<◌}
use mathlib.Core.Path.{◌≡◌, refl, ap, sym, ◌∙◌, subst}
use mathlib.Core.Bool.{Bool, ◌&&◌}
use mathlib.Core.List.{List}
use native.Mathlib.Omega.{arith}
use Rattle.rules.specs.Bits.{is_on, part, word_at}
use Rattle.rules.specs.Sizes.{Is, is_small, is_middle, is_large, size_at, page_number}
use Rattle.rules.specs.Image.{encode, decode, control, tag_of, datum_of, IsImage}
use Rattle.rules.specs.Memory.{Memory, entry_at, Whole}
use Rattle.rules.specs.Walk.{Walked, walk, reach_in}
use Rattle.rules.specs.Buffer.{filled}
use Rattle.rules.specs.Answers.{tells_fetch, code, answer_of}
use Rattle.rules.specs.declared.Size.{Size}
use Rattle.rules.specs.declared.Control.{Control}
use Rattle.rules.specs.declared.Access.{Access}
use Rattle.rules.specs.declared.Rights.{Rights}
use Rattle.rules.specs.declared.Cause.{Cause}
use Rattle.rules.specs.declared.Found.{Found}
use Rattle.rules.specs.declared.Found.TheVariants.{Page, Fault}
use Rattle.rules.specs.declared.Answer.{Answer}
use Rattle.rules.specs.declared.Answer.TheVariants.{Address, PageFault}
use Rattle.rules.proofs.SizeLaws.{level_at, base_lt, base_low}
use Rattle.rules.proofs.WalkLaws.{IsLeaf, is_leaf, leaf_lt, found_cases}
use Rattle.rules.proofs.PlaceLaws.{width_at, flags_at, cr3_at}
use Rattle.walk.specs.Packed.{Ready, Walks}
use Rattle.buffer.specs.Fill.{filled_at}
use Rattle.numbers.specs.Needs.{IsPcid, ForEach, Known}
use Rattle.paging.specs.Paged.{Usable, InRange, Finishes, missed, Encodes}

-- ---- what a walk goes by
pub over_root : (b : List ℕ) (w : ℕ) → Usable b → w ≡ word_at b 0 → 12 ≤ w
over_root b w u e = omega (arith, u.wide, width_at b)

pub in_word : (b : List ℕ) (w : ℕ) → Usable b → w ≡ word_at b 0 → w < 64
in_word b w u e = omega (arith, u.narrow, width_at b)

pub control_is : (b : List ℕ) (w f v n p : ℕ) → w ≡ word_at b 0 → f ≡ word_at b 8 → v ≡ word_at b 16 → n ≡ part w 12 v → IsPcid b p
    → ◌≡◌ {A = Control} (record { width = w; flags = f; root = n; pcid = p }) (control (decode b))
control_is b w f v n p hw hf hv hn sp =
    rw (← sp.current) (rw (width_at b, flags_at b, cr3_at b, ← hw, ← hf, ← hv, ← hn))

pub walk_ready : (b : List ℕ) (mem : Memory) (c : Control) → Usable b → Whole mem → c ≡ control (decode b) → Ready c mem
walk_ready b mem c u h e =
    record {
      wide = rw e u.wide;
      narrow = rw e u.narrow;
      low = rw e (base_lt 1 (decode b).width (decode b).cr3 u.narrow (omega arith));
      aligned = rw e (omega (arith, base_low 1 (decode b).width (decode b).cr3 (omega arith)));
      whole = h;
    }

pub known_there : (b : List ℕ) (c : Control) (n : ℕ) → c ≡ control (decode b) → Known (decode b).flags n → Known c.flags n
known_there b c n e known = rw e known

-- ---- what a walk finds is in range
pub found_fits : (b : List ℕ) (c : Control) (n a : ℕ) (mem mem' : Memory) (f : Found) → Usable b → c ≡ control (decode b)
    → Known (decode b).flags n → Walks c n a mem mem' f → InRange f
found_fits b c n a mem mem' f u e known w =
    let narrow : c.width ≤ 52 = rw e u.narrow in
    let k : Access = known.access in
    subst InRange (sym (ap (λ (x : Walked). x.found) (w.walks k (rw e known.is))))
    (found_cases c k (reach_in mem c a).read InRange (reach_in mem c a).end
    (λ p d g. let l : IsLeaf (entry_at mem) c p = is_leaf mem c a p d in (leaf_lt (entry_at mem) c p l narrow, (l.low, l.high))) (λ cause. tt))

-- ---- what it finds is kept, and answered
its_level : (z : Size) → Is z → size_at z.level ≡ z
its_level z is_small = refl
its_level z is_middle = refl
its_level z is_large = refl

pub kept_page : (base : ℕ) (r : Rights) (g d : Bool) (z : Size) (b b' : List ℕ) (a p number set w tag datum : ℕ) (q : Bool)
    → Is z → number ≡ page_number z a → set ≡ z.first + number % z.sets
    → w ≡ word_at b 8 → q ≡ is_on 2 w → IsPcid b p → tag ≡ tag_of (q && g) p number → datum ≡ datum_of r d base
    → b' ≡ encode (filled_at set tag datum (decode b)) → b' ≡ encode (filled (decode b) a (Page base z.level r g d 0))
kept_page base r g d z b b' a p number set w tag datum q is num hs hw hq sp ht hd k =
    let hg : q ≡ is_on 2 (decode b).flags = rw (flags_at b, ← hw) hq in
    rw (its_level z is, ← num, ← hs, ← hg, ← sp.current, ← ht, ← hd) k

pub finish_page : (f : Found) (base level n : ℕ) (r : Rights) (g d : Bool) (z : Size) (b b' : List ℕ) (m a : ℕ)
    → InRange f → f ≡ Page base level r g d n → z ≡ size_at level → b' ≡ encode (filled (decode b) a (Page base z.level r g d 0))
    → ForEach (decode b).flags m (λ k. Finishes b b' k a f (Address (base + a % z.length) z.length n))
finish_page f base level n r g d z b b' m a h e size i k of =
    let q : InRange (Page base level r g d n) = subst InRange e h in
    let l : z.level ≡ level = ap (λ (x : Size). x.level) size ∙ level_at level q.1.0 q.1.1 in
    record {
      image = i ∙ ap (λ (x : ℕ). encode (filled (decode b) a (Page base x r g d n))) l ∙ ap (λ (x : Found). encode (filled (decode b) a x)) (sym e);
      answer = rw (e, size);
    }

pub finish_fault : (f : Found) (cause : Cause) (level n m w : ℕ) (told : Bool) (b : List ℕ) (t a : ℕ) → f ≡ Fault cause level n → IsImage b
    → w ≡ (decode b).flags → told ≡ tells_fetch w → ((c : Control) → told ≡ tells_fetch c.flags → ForEach c.flags t (λ k. m ≡ code c k cause))
    → ForEach (decode b).flags t (λ k. Finishes b b k a f (PageFault cause level m n))
finish_fault f cause level n m w told b t a e u hw ht h k of =
    let m-is : m ≡ code (control (decode b)) k cause = h (control (decode b)) (ht ∙ ap tells_fetch hw) k of in
    record { image = rw e (sym u.says); answer = rw (e, ← m-is) }

pub its_flags : (b : List ℕ) (c : Control) → c ≡ control (decode b) → c.flags ≡ (decode b).flags
its_flags b c e = ap (λ (x : Control). x.flags) e

pub walks_it : (b b' : List ℕ) (mem mem' : Memory) (c : Control) (n a : ℕ) (f : Found) (r : Answer) → c ≡ control (decode b) → Walks c n a mem mem' f
    → ForEach (decode b).flags n (λ k. Finishes b b' k a f r) → ForEach (decode b).flags n (λ k. Encodes (missed (decode b) mem k a) b' mem' r)
walks_it b b' mem mem' c n a f r e w h k of =
    let v : ◌≡◌ {A = Walked} (record { found = f; memory = mem' }) (walk (control (decode b)) k a mem) =
    w.walks k (rw e of) ∙ ap (λ (x : Control). walk x k a mem) e in
    let q : f ≡ (walk (control (decode b)) k a mem).found = ap (λ (x : Walked). x.found) v in
    record {
      answer = (h k of).answer ∙ ap (answer_of (control (decode b)) k a) q;
      image = (h k of).image ∙ ap (λ (x : Found). encode (filled (decode b) a x)) q;
      memory = ap (λ (x : Walked). x.memory) v;
    }
