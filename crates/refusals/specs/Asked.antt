-- What is asked of image and guest memory for every address alike: whether the image is unfit, whether memory is of lengths that are refused, and, of an image that is fit, whether paging
-- is on.
use Rattle.std.specs.Prelude.{ℕ, ◌≡◌, false, List}
use Rattle.rules.specs.Image.{decode, pg}
use Rattle.rules.specs.Memory.{Memory, no_lengths}
use Rattle.rules.specs.Refusals.{is_unfit}
use Rattle.refusals.specs.declared.asked.Asked.{Asked as AskedOf}

pub record Asked (b : List ℕ) (mem : Memory) (asked : AskedOf) : Type 0 where
  pub image : asked.unfit ≡ is_unfit b
  pub memory : asked.misfit ≡ no_lengths mem
  pub paging : asked.unfit ≡ false → asked.paged ≡ pg (decode b).flags
