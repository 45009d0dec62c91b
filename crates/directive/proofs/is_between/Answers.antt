-- `directive::is_between` meets its contract. What it calls gives its parts.
-- Assumes nothing.
use Rattle.directive.proofs.is_between.Goals as goal

pub returns : goal.returns
returns c = rw (c.is_gap.ensures, c.holds_in.ensures)
