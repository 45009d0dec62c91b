-- `steps::defining::hidden_at` meets its contract: the lent bytes are enough for the brackets of any file.
-- Assumes nothing.
use native.Mathlib.Omega.{arith}
use Rattle.steps.proofs.Hiding.{judged_barred, judged_bad, judged_good, never_short}
use Rattle.steps.proofs.defining.hidden_at.Goals as goal

pub returns-in-Barred : goal.returns-in-Barred
returns-in-Barred c = judged_barred _ _ _ _ c.judge_definition-r.ensures (omega arith) (omega arith) _ _ c.in-Barred.is

pub returns-in-Bad : goal.returns-in-Bad
returns-in-Bad c = judged_bad _ _ _ _ c.judge_definition-r.ensures (omega arith) (omega arith) _ c.in-Bad.is

pub returns-in-Good : goal.returns-in-Good
returns-in-Good c = judged_good _ _ _ _ c.judge_definition-r.ensures (omega arith) (omega arith) _ c.in-Good.is

pub returns-in-Short : goal.returns-in-Short
returns-in-Short c = absurd (never_short _ _ _ _ c.judge_definition-r.ensures (omega arith) (omega arith) c.in-Short.is)
