-- `macros::is_start_name` meets its contract.
-- Assumes nothing.
use Rattle.macros.proofs.Ranges.{other_token, barred_token, short_token, whole_token}
use Rattle.std.proofs.lemmas.Bool.{not_from_true, not_from_false}
use Rattle.macros.proofs.is_start_name.Goals as goal

pub returns-then-not-t : goal.returns-then-not-t
returns-then-not-t c = other_token c.args.w.now c.in_file.ensures c.token_at-t.ensures (not_from_false _ c.if-not-t.true)

pub returns-then-t-ne0 : goal.returns-then-t-ne0
returns-then-t-ne0 c = barred_token c.args.w.now c.in_file.ensures c.token_at-t.ensures (not_from_true _ c.if-not-t.false) c.if-t-ne0.true

pub returns-then-t-w : goal.returns-then-t-w
returns-then-t-w c = short_token c.args.w.now c.in_file.ensures c.token_at-t.ensures (not_from_true _ c.if-not-t.false) c.if-t-ne0.false c.if-t-w.true

pub returns : goal.returns
returns c = whole_token c.args.w.now c.in_file.ensures c.token_at-t.ensures (not_from_true _ c.if-not-t.false) c.if-t-ne0.false c.if-t-w.false c.plain_name.ensures c.directive_of.ensures
