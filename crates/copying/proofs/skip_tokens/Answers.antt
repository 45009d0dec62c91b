use mathlib.Core.Bool.{false}
use Rattle.copying.proofs.Going.{Moves, moves_byte, moves_skipped, moves_less, gone_none, gone_next, gone_upto, byte_small, line_fits, part_small}
use Rattle.copying.proofs.skip_tokens.Goals as goal

moved : (c : goal.After-past_byte-c) → Moves c.args.s.now false c.loop-c.c c.past_byte-c.result
moved c = moves_byte false c.peek-b.ensures c.is_single.ensures c.if-is_single.true c.past_byte-c.ensures

moved-2 : (c : goal.After-past_token-c) → Moves c.args.s.now false c.loop-c.c c.past_token-c.result
moved-2 c = moves_skipped c.in_file.ensures c.token_at-t.ensures c.stops.ensures c.if-stops.false c.part_of.ensures c.past_token-c.ensures

pub loop-c-init : goal.loop-c-init
loop-c-init c = gone_none c.requires

pub past_byte-c-requires : goal.past_byte-c-requires
past_byte-c-requires c = (byte_small c.loop-c.invariant.reads c.peek-b.ensures c.is_single.ensures c.if-is_single.true, line_fits c.loop-c.invariant.reads)

pub loop-c-smaller-then-is_single : goal.loop-c-smaller-then-is_single
loop-c-smaller-then-is_single c = moves_less (moved c)

pub loop-c-preserved-then-is_single : goal.loop-c-preserved-then-is_single
loop-c-preserved-then-is_single c = gone_next c.loop-c.invariant (moved c)

pub returns-then-stops : goal.returns-then-stops
returns-then-stops c = gone_upto c.loop-c.invariant c.in_file.ensures c.token_at-t.ensures c.stops.ensures c.if-stops.true

pub past_token-c-requires : goal.past_token-c-requires
past_token-c-requires c = (line_fits c.loop-c.invariant.reads, part_small c.loop-c.invariant.reads _ c.part_of.ensures)

pub loop-c-smaller : goal.loop-c-smaller
loop-c-smaller c = moves_less (moved-2 c)

pub loop-c-preserved : goal.loop-c-preserved
loop-c-preserved c = gone_next c.loop-c.invariant (moved-2 c)
