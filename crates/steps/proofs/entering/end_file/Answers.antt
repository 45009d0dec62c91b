-- `steps::entering::end_file` meets its contract.
-- Assumes nothing.
use Rattle.steps.proofs.Frames.{end_plain, end_written, end_full}
use borrow.Author.Tests.{not-true, not-false}
use Rattle.steps.proofs.entering.end_file.Goals as goal

pub returns-then-not-c : goal.returns-then-not-c
returns-then-not-c c = end_plain _ c.args.z c.leave.result _ _ (not-true _ c.if-not-c.true) c.leave.ensures

pub leave-requires-in-Upto : goal.leave-requires-in-Upto
leave-requires-in-Upto c = rw c.with_spot.ensures (c.requires.0, c.requires.1, c.requires.2)

pub returns-in-Upto : goal.returns-in-Upto
returns-in-Upto c = end_written _ c.args.z _ _ _ c.leave-in-Upto.result _ _ _ _ _ (not-false _ c.if-not-c.false) c.place_of.ensures c.write_whole-r.ensures c.in-Upto.is c.with_spot.ensures c.leave-in-Upto.ensures

pub returns-in-Full : goal.returns-in-Full
returns-in-Full c = end_full _ c.args.z _ _ _ _ _ _ _ _ (not-false _ c.if-not-c.false) c.place_of.ensures c.write_whole-r.ensures c.in-Full.is c.refuse.ensures
