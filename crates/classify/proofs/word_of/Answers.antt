-- `classify::word_of` meets its contract. The definition is the code with its calls replaced by what they ensure.
-- Assumes nothing.
use mathlib.Core.Bool.{Bool, true, false}
use mathlib.Core.Path.{◌≡◌, refl}
use Rattle.std.specs.Int.{from_bool}
use Rattle.classify.specs.Words.{bit}
use Rattle.classify.proofs.word_of.Goals as goal

from_bit : (b : Bool) → from_bool b ≡ bit b
from_bit true = refl
from_bit false = refl

pub returns : goal.returns
returns c = rw (← c.part_of.ensures, ← c.is_reserved-reserved.ensures, c.from.ensures, from_bit c.is_reserved-reserved.result)
