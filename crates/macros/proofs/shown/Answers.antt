-- `macros::shown` meets its contract: what the search finds lies below the count.
-- Assumes nothing.
use Rattle.macros.proofs.Showing.{shown_at, shown_past, shown_missing}
use Rattle.macros.proofs.shown.Goals as goal

pub returns-then-count-i : goal.returns-then-count-i
returns-then-count-i c ms h = shown_past c.args.w.now h (c.find-f.ensures ms h) c.in-Ok.i c.in-Ok.is c.if-count-i.true

pub returns-else-count-i : goal.returns-else-count-i
returns-else-count-i c ms h = shown_at c.args.w.now h (c.find-f.ensures ms h) c.in-Ok.i c.in-Ok.is (c.form_at.ensures ms h)

pub returns-in-Err : goal.returns-in-Err
returns-in-Err c ms h = shown_missing c.args.w.now h (c.find-f.ensures ms h) _ c.in-Err.is c.part_of-in-Err.ensures
