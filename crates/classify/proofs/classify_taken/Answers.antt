-- `classify::classify_taken` meets its contract. The constant tables compute to those of the readable list.
-- Assumes nothing.
use mathlib.Core.Path.{refl}
use native.Mathlib.Omega.{arith}
use Rattle.text.specs.Bytes.{bytes}
use Rattle.keywords.specs.Tables.{flat, starts_from, firsts, keyword_bytes, keyword_starts, keyword_firsts}
use Rattle.keywords.specs.Keywords.{keywords}
use Rattle.classify.proofs.Filled.{filled}
use Rattle.classify.proofs.classify_taken.Goals as goal

pub classify_with-requires : goal.classify_with-requires
unfolding keyword_bytes keyword_starts keyword_firsts flat starts_from firsts keywords bytes
classify_with-requires c = (c.requires, omega (arith, filled 1025), record { its_bytes = refl; its_starts = refl; its_firsts = refl })
