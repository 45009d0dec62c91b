use native.Mathlib.Omega.{arith}
use Rattle.writing.proofs.Laws.{puts_text, puts_map}
use Rattle.writing.proofs.Writing.{going_none, going_room, going_place, going_next, going_all}
use Rattle.writing.proofs.write_bytes.Goals as goal

pub loop-b-init : goal.loop-b-init
loop-b-init c = going_none c.requires.0 c.requires.1 c.requires.2

pub write_byte-y-requires : goal.write_byte-y-requires
write_byte-y-requires c = going_room c.loop-b.invariant (omega arith)

pub place_after-p-requires : goal.place_after-p-requires
place_after-p-requires c = going_place c.loop-b.invariant (omega arith)

pub loop-b-preserved : goal.loop-b-preserved
loop-b-preserved c = going_next c.loop-b.invariant (omega arith) c.write_byte-y.ensures c.place_after-p.ensures

pub shape_of-text : goal.shape_of-text
shape_of-text c = puts_text c.loop-b.invariant.puts

pub shape_of-map : goal.shape_of-map
shape_of-map c = puts_map c.loop-b.invariant.puts

pub returns : goal.returns
returns c = going_all c.loop-b.invariant (omega arith)
