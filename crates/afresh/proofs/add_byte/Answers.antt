-- `afresh::add_byte` meets its contract. The name at its most bytes, or with one more.
-- Assumes nothing.
use native.Mathlib.Omega.{arith}
use Rattle.afresh.proofs.Feeding.{sound, fed_at, longer_full, fed_longer}
use Rattle.afresh.proofs.add_byte.Goals as goal

pub returns-then-most-r : goal.returns-then-most-r
returns-then-most-r c w h = rw (longer_full c.args.r c.args.name.now w (sound _ _ _ c.requires.0 c.requires.1 h) c.args.most c.args.state c.args.b c.if-most-r.true) (fed_at (sound c.args.r c.args.name.now w c.requires.0 c.requires.1 h) c.at_state.ensures)

pub returns : goal.returns
returns c w h = fed_longer _ _ _ (sound c.args.r c.args.name.now w c.requires.0 c.requires.1 h) _ _ _ (omega arith) c.requires.2
