-- `choosing::choose_by_condition` meets its contract.
-- Assumes nothing.
use mathlib.Core.Path.{refl}
use Rattle.std.proofs.lemmas.Result.{err_from_is_err_and}
use Rattle.choosing.proofs.Choosing.{takes_elsif, takes_ifdef, takes_ifndef, condition_refused}
use Rattle.choosing.proofs.choose_by_condition.Goals as goal

pub returns-then-d-eq-ELSIF : goal.returns-then-d-eq-ELSIF
returns-then-d-eq-ELSIF c h here = takes_elsif c.args.d here _ c.requires.2 c.requires.3 c.condition_at.result c.condition_at.ensures _ _ c.in_ok-is.was c.next_block.result _ c.if-d-eq-ELSIF.true c.next_block.ensures c.chosen_by.ensures

pub returns-then-d-eq-IFDEF : goal.returns-then-d-eq-IFDEF
returns-then-d-eq-IFDEF c h here = takes_ifdef c.args.d here _ c.requires.2 c.requires.3 c.condition_at.result c.condition_at.ensures _ _ c.in_ok-is.was c.open_block.result _ c.if-d-eq-IFDEF.true c.open_block.ensures c.chosen_by-then-d-eq-IFDEF.ensures

pub returns : goal.returns
returns c h here = takes_ifndef c.args.d here _ c.requires.2 c.requires.3 c.condition_at.result c.condition_at.ensures _ _ c.in_ok-is.was c.open_block-2.result _ c.if-d-eq-ELSIF.false c.if-d-eq-IFDEF.false c.open_block-2.ensures c.chosen_by-2.ensures

pub returns-in_err-is : goal.returns-in_err-is
returns-in_err-is c h here = let p = err_from_is_err_and c.from_residual.result c.from_residual.ensures.1 in rw (p.1, p.2) (condition_refused c.args.d here _ c.requires.2 c.requires.3 c.condition_at.result c.condition_at.ensures _ c.in_err-is.was refl)
