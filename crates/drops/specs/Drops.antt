-- Drops in an image's bytes, and the one test that the code makes of a tag: its bits under a mask are those wanted, and, unless it is global, so are
-- its bits under a second one.
use Rattle.std.specs.Prelude.{ℕ, ◌/◌, Bool, true, ◌&&◌, ◌||◌, not, List, leb, ltb, eqb}
use Rattle.rules.specs.Sizes.{page_number, set_of}
use Rattle.rules.specs.Image.{encode, decode, is_global, page_in}
use Rattle.rules.specs.Buffer.{contains, of_pcid, dropped}
use Rattle.rules.specs.declared.Size.{Size}
use Rattle.sets.specs.Ways.{is_masked}

-- the bytes of the image without the slots that a test names
unfoldable pub dropped_in : (ℕ → ℕ → Bool) → List ℕ → List ℕ
dropped_in p b = encode (dropped p (decode b))

-- ---- the tests of the rules, by a slot's number and tag
abbrev pub every : ℕ → ℕ → Bool
every i t = true

abbrev pub not_global : ℕ → ℕ → Bool
not_global i t = not (is_global t)

abbrev pub every_of : ℕ → ℕ → ℕ → Bool
every_of p i t = of_pcid p t

abbrev pub every_of_at : ℕ → ℕ → ℕ → ℕ → Bool
every_of_at p a i t = contains a i t && of_pcid p t

-- ---- the tests of the code
-- as wanted under a mask; and global, or under a second mask as asked for: a second mask of 0 with 0 asks nothing
abbrev pub is_asked : ℕ → ℕ → ℕ → ℕ → ℕ → Bool
is_asked mask want own whose t = is_masked mask want t && (is_global t || is_masked own whose t)

-- any slot, by the first mask alone
abbrev pub masked : ℕ → ℕ → ℕ → ℕ → Bool
masked mask want i t = is_masked mask want t

-- slots from l on and before h
abbrev pub is_from : ℕ → ℕ → ℕ → Bool
is_from l h i = leb l i && ltb i h

abbrev pub every_from : ℕ → ℕ → ℕ → ℕ → Bool
every_from l h i t = is_from l h i

abbrev pub masked_from : ℕ → ℕ → ℕ → ℕ → ℕ → ℕ → ℕ → ℕ → Bool
masked_from l h mask want own whose i t = is_from l h i && is_asked mask want own whose t

-- for the address's page of one size
abbrev pub masked_of : Size → ℕ → ℕ → ℕ → ℕ → ℕ → ℕ → ℕ → Bool
masked_of z a mask want own whose i t = (eqb (i / 4) (set_of z a) && eqb (page_in t) (page_number z a)) && is_asked mask want own whose t
