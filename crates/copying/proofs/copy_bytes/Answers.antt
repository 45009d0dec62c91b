-- `copying::copy_bytes` meets its contract: a part of a list with the bytes in its place is the list with each of them set.
-- Assumes nothing.
use Prim.Native.Nat.{◌+◌, ◌-◌}
use mathlib.Core.Path.{◌≡◌}
use mathlib.Core.List.{append_assoc}
use native.Mathlib.Omega.{arith}
use lib.ListN.{length}
use Rattle.std.proofs.lemmas.List.{drop-drop}
use Rattle.std.proofs.lemmas.List.Edits.{sets-eq}
use Rattle.copying.proofs.copy_bytes.Goals as goal

pub returns : goal.returns
returns c =
    let k : c.args.n + length c.args.w.now - c.args.n ≡ length c.args.w.now = omega arith in
    rw (c.copy_from_slice.ensures.after, sets-eq c.args.w.now c.args.text.now c.args.n c.requires, k) (simp (append_assoc, drop-drop))
