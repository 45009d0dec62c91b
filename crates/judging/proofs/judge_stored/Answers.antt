use mathlib.Core.Bool.{false}
use mathlib.Core.Path.{refl}
use native.Mathlib.Omega.{arith}
use Rattle.lex.specs.Tokens.{in_definition}
use Rattle.storing.specs.Stored.{piece, stored}
use Rattle.storing.proofs.Reading.{token_past}
use Rattle.storing.proofs.Joining.{pieces_out, pieces_past, pieces_stop, pieces_next, pieces_length}
use Rattle.judging.proofs.Feeding.{feeding_next, feeding_short}
use Rattle.judging.proofs.Verdicts.{feeding_starts, sound_count, judged_end, judged_short}
use Rattle.judging.proofs.judge_stored.Goals as goal

pub loop-i-init : goal.loop-i-init
loop-i-init c = feeding_starts c.begin-q.ensures c.requires

pub end_verdict-requires : goal.end_verdict-requires
end_verdict-requires c = sound_count c.loop-i.invariant.sound

pub returns-then-s-i : goal.returns-then-s-i
unfolding stored
returns-then-s-i c = judged_end _ _ _ _ _ _ c.loop-i.invariant (pieces_out _ _ _ _ c.if-s-i.true) c.end_verdict.ensures

pub end_verdict-requires-then-t-eq-NEWLINE : goal.end_verdict-requires-then-t-eq-NEWLINE
end_verdict-requires-then-t-eq-NEWLINE c = sound_count c.loop-i.invariant.sound

pub returns-then-t-eq-NEWLINE : goal.returns-then-t-eq-NEWLINE
unfolding stored
returns-then-t-eq-NEWLINE c = judged_end _ _ _ _ _ _ c.loop-i.invariant (pieces_stop _ _ _ _ _ _ c.in_definition.ensures c.token_at-t.ensures c.if-s-i.false c.if-t-eq-NEWLINE.true) c.end_verdict-then-t-eq-NEWLINE.ensures

pub read_piece-requires : goal.read_piece-requires
read_piece-requires c = c.loop-i.invariant.sound

pub loop-i-smaller : goal.loop-i-smaller
loop-i-smaller c = omega (arith, c.loop-i-test.true, token_past _ _ _ _ c.token_at-t.ensures c.if-s-i.false)

pub loop-i-preserved : goal.loop-i-preserved
loop-i-preserved c = feeding_next c.loop-i.invariant (piece c.args.s.now c.loop-i.marks c.token_at-t.result) _ (pieces_next _ _ _ _ _ _ c.in_definition.ensures c.token_at-t.ensures c.if-s-i.false c.if-t-eq-NEWLINE.false c.loop-i-test.true _ c.marks_after-marks.ensures) c.in_ok-q.ensures c.read_piece.auto.name c.read_piece.auto.stack

pub returns-in_err-q : goal.returns-in_err-q
unfolding stored
returns-in_err-q c = judged_short (pieces_length c.args.s.now c.args.end in_definition c.args.at false) c.from_residual.ensures (feeding_short c.loop-i.invariant (piece c.args.s.now c.loop-i.marks c.token_at-t.result) _ (pieces_next _ _ _ _ _ _ c.in_definition.ensures c.token_at-t.ensures c.if-s-i.false c.if-t-eq-NEWLINE.false c.loop-i-test.true _ refl) c.in_err-q.ensures)

pub end_verdict-requires-2 : goal.end_verdict-requires-2
end_verdict-requires-2 c = sound_count c.loop-i.invariant.sound

pub returns : goal.returns
unfolding stored
returns c = judged_end _ _ _ _ _ _ c.loop-i.invariant (pieces_past _ _ _ _ c.loop-i-test.false) c.end_verdict-2.ensures
