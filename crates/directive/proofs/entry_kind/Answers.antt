-- `directive::entry_kind` meets its contract. The definition branches as the code does.
-- Assumes nothing.
use borrow.Author.Tests.{eq-eqb, ne_eqb}
use Rattle.directive.proofs.entry_kind.Goals as goal

pub returns-then-d-eq-BEGIN_KEYWORDS : goal.returns-then-d-eq-BEGIN_KEYWORDS
returns-then-d-eq-BEGIN_KEYWORDS c = simp (eq-eqb _ _ c.if-d-eq-BEGIN_KEYWORDS.true)

pub returns : goal.returns
returns c = simp (ne_eqb _ _ c.if-d-eq-BEGIN_KEYWORDS.false)
