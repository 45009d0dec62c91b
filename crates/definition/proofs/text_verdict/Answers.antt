-- `definition::text_verdict` meets its contract. The text is judged as it is stored, and nothing more than 01's words makes it bad.
-- Assumes nothing.
use mathlib.Core.Path.{ap}
use Rattle.brackets.proofs.Settling.{settled_as}
use Rattle.afresh.specs.Feeding.{verdict_of}
use Rattle.judging.proofs.NothingMore.{nothing_more}
use Rattle.definition.proofs.text_verdict.Goals as goal

pub returns : goal.returns
returns c u = let a = c.args in settled_as (ap verdict_of (nothing_more a.s.now a.at a.end u)) c.judge_stored.ensures
