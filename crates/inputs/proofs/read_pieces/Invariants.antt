-- The loop of `inputs::read_pieces`: what stood in `out` stays in front, and what was added took the room that is gone. Assumes nothing.
use Rattle.std.proofs.Common.{◌≤◌, ◌≡◌, ◌+◌, vec_len}
use Rattle.std.specs.Io.{StartsWith}
use Rattle.inputs.proofs.read_pieces.Given as goal

abbrev pub invariant-loop-room : goal.invariant-loop-room
invariant-loop-room g l =
    (l.room ≤ l.most)
    × (vec_len l.out + l.room ≡ vec_len l.initial.out + l.most)
    × StartsWith l.out.items l.initial.out.items

abbrev pub decreases-loop-room : goal.decreases-loop-room
decreases-loop-room g l = l.room
