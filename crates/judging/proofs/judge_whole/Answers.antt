-- `judging::judge_whole` meets its contract.
-- Assumes nothing.
use mathlib.Core.List.{[], append-nil}
use mathlib.Core.Path.{refl, sym}
use native.Mathlib.Nat.{le_refl}
use Rattle.judging.proofs.Feeding.{feeding_next, feeding_short}
use Rattle.judging.proofs.Verdicts.{feeding_starts, sound_count, judged_end, judged_short}
use Rattle.judging.proofs.judge_whole.Goals as goal

pub read_bytes-requires : goal.read_bytes-requires
read_bytes-requires c = (feeding_starts {whole = []} c.begin.ensures c.requires).sound

pub returns-in_err-q : goal.returns-in_err-q
returns-in_err-q c = judged_short (le_refl _) c.from_residual.ensures (feeding_short (feeding_starts c.begin.ensures c.requires) c.args.w.now [] (sym (append-nil c.args.w.now)) c.in_err-q.ensures)

pub end_verdict-requires : goal.end_verdict-requires
end_verdict-requires c = sound_count c.in_ok-q.ensures.1

pub returns : goal.returns
returns c = judged_end _ _ _ _ _ _ (feeding_next (feeding_starts c.begin.ensures c.requires) c.args.w.now [] (sym (append-nil c.args.w.now)) c.in_ok-q.ensures c.read_bytes.auto.name c.read_bytes.auto.stack) refl c.end_verdict.ensures
