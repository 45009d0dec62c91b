-- `store::remove_at` meets its contract: bytes and records close up over the macro, and the starts behind it are lowered.
-- Assumes nothing.
use native.Mathlib.Omega.{arith}
use Rattle.store.proofs.Entries.{rows_fit}
use Rattle.store.proofs.Places.{place, taken_out}
use Rattle.store.proofs.remove_at.Goals as goal

pub overflow_sub-old : goal.overflow_sub-old
overflow_sub-old c = (place c.requires.2.holds c.requires.0 c.read-r.ensures (c.start_of-live.ensures _ _ c.requires.2.holds)).ordered

pub splice-requires : goal.splice-requires
splice-requires c =
    let p = place c.requires.2.holds c.requires.0 c.read-r.ensures (c.start_of-live.ensures _ _ c.requires.2.holds) in
    (p.within, p.live_fits, omega (arith, p.live_fits))

pub remove-requires : goal.remove-requires
remove-requires c = (c.requires.0, rows_fit c.requires.2.holds)

pub shift-requires : goal.shift-requires
shift-requires c = (omega (arith, rows_fit c.requires.2.holds), omega arith)

pub returns : goal.returns
returns c ms h = taken_out h c.requires.0 c.requires.1 c.read-r.ensures (c.start_of-live.ensures _ _ h) c.splice.ensures c.remove.ensures c.shift.ensures
