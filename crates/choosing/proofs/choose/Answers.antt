-- `choosing::choose` meets its contract.
-- Assumes nothing.
use borrow.Author.Tests.{ne_eqb}
use Rattle.choosing.proofs.Choosing.{closes, turns}
use borrow.Author.Rules.{rules}
use Rattle.choosing.proofs.choose.Goals as goal

pub returns-then-d-eq-ENDIF : goal.returns-then-d-eq-ENDIF
returns-then-d-eq-ENDIF c h here = closes c.args.d here _ c.close_block.result _ c.if-d-eq-ENDIF.true c.close_block.ensures c.chosen_by.ensures

pub returns-then-d-eq-ELSE : goal.returns-then-d-eq-ELSE
returns-then-d-eq-ELSE c h here = turns c.args.d here _ c.next_block.result _ c.if-d-eq-ELSE.true c.next_block.ensures c.chosen_by-then-d-eq-ELSE.ensures

pub choose_by_condition-requires : goal.choose_by_condition-requires
choose_by_condition-requires c = (search rules, search rules, ne_eqb _ _ c.if-d-eq-ELSE.false, ne_eqb _ _ c.if-d-eq-ENDIF.false)
