-- `expand::usages::is_usage` meets its contract: a usage is a grave accent name that is no directive's.
-- Assumes nothing.
use borrow.Author.Tests.{ne_eqb}
use Rattle.expand.proofs.Spelling.{usage_none, usage_grave}
use Rattle.expand.proofs.usages.is_usage.Goals as goal

pub returns-then-p-ne-GRAVE : goal.returns-then-p-ne-GRAVE
returns-then-p-ne-GRAVE c = usage_none _ _ _ (ne_eqb _ _ c.if-p-ne-GRAVE.true)

pub returns : goal.returns
returns c = usage_grave _ _ _ c.if-p-ne-GRAVE.false _ _ c.directive_of.ensures c.name_of.ensures
