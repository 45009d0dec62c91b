use mathlib.Core.Bool.{true}
use mathlib.Core.Path.{◌∙◌}
use native.Mathlib.Omega.{arith}
use Rattle.writing.proofs.Laws.{puts_text, puts_map}
use Rattle.copying.proofs.Going.{Moves, moves_byte, moves_copied, moves_less, byte_small, line_fits, part_small, byte_writable, token_writable, copied_none, copied_byte, copied_token, full_byte, full_token, copied_upto}
use Rattle.copying.proofs.copy_tokens.Goals as goal

moved : (c : goal.After-past_byte-c) → Moves c.args.s.now true c.loop-text.c c.past_byte-c.result
moved c = moves_byte true c.peek-b.ensures c.is_single.ensures c.if-is_single.true c.past_byte-c.ensures

moved-2 : (c : goal.After-past_token-c) → Moves c.args.s.now true c.loop-text.c c.past_token-c.result
moved-2 c = moves_copied c.in_file.ensures c.token_at-t.ensures c.stops.ensures c.if-stops.false c.part_of-w.ensures c.past_token-c.ensures

pub loop-text-init : goal.loop-text-init
loop-text-init c = copied_none c.requires

pub overflow_cast-place : goal.overflow_cast-place
overflow_cast-place c = omega (arith, line_fits c.loop-text.invariant.copyable.reads)

pub overflow_add-place : goal.overflow_add-place
overflow_add-place c = omega (arith, line_fits c.loop-text.invariant.copyable.reads, c.loop-text.invariant.copyable.reads.place_small)

pub write_one-r-requires : goal.write_one-r-requires
write_one-r-requires c = byte_writable c.loop-text.invariant

pub past_byte-c-requires : goal.past_byte-c-requires
past_byte-c-requires c = (byte_small c.loop-text.invariant.copyable.reads c.peek-b.ensures c.is_single.ensures c.if-is_single.true, line_fits c.loop-text.invariant.copyable.reads)

pub loop-text-smaller-in-Upto : goal.loop-text-smaller-in-Upto
loop-text-smaller-in-Upto c = moves_less (moved c)

pub loop-text-preserved-in-Upto : goal.loop-text-preserved-in-Upto
loop-text-preserved-in-Upto c = copied_byte c.loop-text.invariant c.peek-b.ensures c.is_single.ensures c.if-is_single.true c.write_one-r.ensures c.in-Upto.is (moved c)

pub shape_of-text-in-Full : goal.shape_of-text-in-Full
shape_of-text-in-Full c = c.write_one-r.auto.text ∙ puts_text c.loop-text.invariant.puts

pub shape_of-map-in-Full : goal.shape_of-map-in-Full
shape_of-map-in-Full c = c.write_one-r.auto.map ∙ puts_map c.loop-text.invariant.puts

pub returns-in-Full : goal.returns-in-Full
returns-in-Full c = full_byte c.loop-text.invariant c.peek-b.ensures c.is_single.ensures c.if-is_single.true c.write_one-r.ensures c.in-Full.is

pub shape_of-text-then-stops : goal.shape_of-text-then-stops
shape_of-text-then-stops c = puts_text c.loop-text.invariant.puts

pub shape_of-map-then-stops : goal.shape_of-map-then-stops
shape_of-map-then-stops c = puts_map c.loop-text.invariant.puts

pub returns-then-stops : goal.returns-then-stops
returns-then-stops c = copied_upto c.loop-text.invariant c.in_file.ensures c.token_at-t.ensures c.stops.ensures c.if-stops.true

pub write_token-r-requires : goal.write_token-r-requires
write_token-r-requires c = token_writable c.loop-text.invariant c.in_file.ensures c.token_at-t.ensures c.stops.ensures c.if-stops.false c.part_of-w.ensures

pub past_token-c-requires : goal.past_token-c-requires
past_token-c-requires c = (line_fits c.loop-text.invariant.copyable.reads, part_small c.loop-text.invariant.copyable.reads _ c.part_of-w.ensures)

pub loop-text-smaller : goal.loop-text-smaller
loop-text-smaller c = moves_less (moved-2 c)

pub loop-text-preserved : goal.loop-text-preserved
loop-text-preserved c = copied_token c.loop-text.invariant c.in_file.ensures c.token_at-t.ensures c.stops.ensures c.if-stops.false c.part_of-w.ensures c.write_token-r.ensures c.in-Upto-r.is (moved-2 c)

pub shape_of-text-in-Full-r : goal.shape_of-text-in-Full-r
shape_of-text-in-Full-r c = c.write_token-r.auto.text ∙ puts_text c.loop-text.invariant.puts

pub shape_of-map-in-Full-r : goal.shape_of-map-in-Full-r
shape_of-map-in-Full-r c = c.write_token-r.auto.map ∙ puts_map c.loop-text.invariant.puts

pub returns-in-Full-r : goal.returns-in-Full-r
returns-in-Full-r c = full_token c.loop-text.invariant c.in_file.ensures c.token_at-t.ensures c.stops.ensures c.if-stops.false c.part_of-w.ensures c.write_token-r.ensures c.in-Full-r.is
