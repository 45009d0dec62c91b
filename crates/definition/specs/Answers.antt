-- The answers of the reader of definitions, against the definitions.
-- Assumes nothing.
use Rattle.std.specs.Prelude.{Result, Ok, Err, ℕ, true, List, ◌≡◌, length}
use Rattle.definition.specs.Extents.{Free}
use Rattle.definition.specs.Lists.{default_end, Formals, ill, whole}
use Rattle.definition.specs.Definitions.{Definition, barred, bad, good}
use Rattle.definition.specs.declared.Formal.{Formal}
use Rattle.definition.specs.declared.Judged.{Judged}
use Rattle.definition.specs.declared.Judged.TheVariants as judged
use Rattle.definition.specs.declared.ReadError.{ReadError}
use Rattle.definition.specs.declared.ReadError.TheVariants.{IllFormed}

-- a formal's default is one as it is read, and nothing bars it
abbrev pub FreeDefault : List ℕ → Formal → Type 0
FreeDefault s f = f.given ≡ true → Free s f.first × (default_end s f.first ≡ Ok (f.stop, f.next))

abbrev pub list_of : Formals → Result (ℕ × ℕ) ReadError
list_of ill = Err IllFormed
list_of (whole fs e) = Ok (length fs, e)

-- 01's numbers and values for each case: barred with number and place; bad (11) or good, with the end
abbrev pub judged_of : Definition → Judged
judged_of (barred n p) = judged.Barred n p
judged_of (bad e) = judged.Bad e
judged_of (good m e) = judged.Good e
