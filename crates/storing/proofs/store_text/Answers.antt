use mathlib.Core.Path.{refl}
use mathlib.Core.Bool.{false}
use native.Mathlib.Omega.{arith}
use native.Mathlib.Nat.{le_refl}
use Rattle.lex.specs.Tokens.{in_definition}
use Rattle.storing.proofs.Adding.{adding_first, adding_past, adding_end, adding_next, adding_short}
use Rattle.storing.proofs.Reading.{token_past}
use Rattle.storing.proofs.Joining.{pieces_out, pieces_past, pieces_stop, pieces_next, pieces_length}
use Rattle.storing.proofs.Trimming.{stored_at}
use Rattle.storing.proofs.store_text.Goals as goal

pub loop-i-init : goal.loop-i-init
loop-i-init c = adding_first (le_refl _) c.requires

pub trim_end-requires : goal.trim_end-requires
trim_end-requires c = adding_past c.loop-i.invariant

pub returns-then-s-i : goal.returns-then-s-i
returns-then-s-i c = stored_at c.requires (adding_end c.loop-i.invariant (pieces_out _ _ _ _ c.if-s-i.true)) c.trim_end.ensures

pub trim_end-requires-then-t-eq-NEWLINE : goal.trim_end-requires-then-t-eq-NEWLINE
trim_end-requires-then-t-eq-NEWLINE c = adding_past c.loop-i.invariant

pub returns-then-t-eq-NEWLINE : goal.returns-then-t-eq-NEWLINE
returns-then-t-eq-NEWLINE c = stored_at c.requires (adding_end c.loop-i.invariant (pieces_stop _ _ _ _ _ _ c.in_definition.ensures c.token_at-t.ensures c.if-s-i.false c.if-t-eq-NEWLINE.true)) c.trim_end-then-t-eq-NEWLINE.ensures

pub put_piece-requires : goal.put_piece-requires
put_piece-requires c = adding_past c.loop-i.invariant

pub loop-i-smaller : goal.loop-i-smaller
loop-i-smaller c = omega (arith, c.loop-i-test.true, token_past _ _ _ _ c.token_at-t.ensures c.if-s-i.false)

pub loop-i-preserved : goal.loop-i-preserved
loop-i-preserved c = adding_next c.loop-i.invariant _ _ (pieces_next _ _ _ _ _ _ c.in_definition.ensures c.token_at-t.ensures c.if-s-i.false c.if-t-eq-NEWLINE.false c.loop-i-test.true _ c.marks_after-marks.ensures) c.in_ok-k.ensures

pub returns-in_err-k : goal.returns-in_err-k
returns-in_err-k c = rw c.from_residual.ensures (omega (arith, pieces_length c.args.s.now c.args.end in_definition c.args.at false, adding_short c.loop-i.invariant _ _ (pieces_next _ _ _ _ _ _ c.in_definition.ensures c.token_at-t.ensures c.if-s-i.false c.if-t-eq-NEWLINE.false c.loop-i-test.true _ refl) c.in_err-k.ensures))

pub trim_end-requires-2 : goal.trim_end-requires-2
trim_end-requires-2 c = adding_past c.loop-i.invariant

pub returns : goal.returns
returns c = stored_at c.requires (adding_end c.loop-i.invariant (pieces_past _ _ _ _ c.loop-i-test.false)) c.trim_end-2.ensures
