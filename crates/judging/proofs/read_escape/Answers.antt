-- `judging::read_escape` meets its contract. The two bytes are read one behind the other.
-- Assumes nothing.
use mathlib.Core.Path.{refl}
use mathlib.Core.List.{[], ◌∷◌}
use borrow.Author.Tests.{eq-eqb, ne_eqb}
use Rattle.afresh.specs.States.{reading}
use Rattle.judging.proofs.Feeding.{read_none, feeding_first, feeding_last, feeding_next, feeding_short}
use Rattle.judging.proofs.read_escape.Goals as goal

pub returns-then-b-eq10 : goal.returns-then-b-eq10
returns-then-b-eq10 c = simp (eq-eqb _ _ c.if-b-eq10.true) (read_none _ _ _ c.requires)

pub returns-in_err-q : goal.returns-in_err-q
returns-in_err-q c = rw c.from_residual.ensures (simp (ne_eqb _ _ c.if-b-eq10.false) (feeding_short (feeding_first c.requires) (92 ∷ []) (c.args.b ∷ []) refl c.in_err-q.ensures))

pub read_byte-requires-2 : goal.read_byte-requires-2
read_byte-requires-2 c = c.in_ok-q.ensures.1

pub returns : goal.returns
unfolding reading
returns c = simp (ne_eqb _ _ c.if-b-eq10.false) (feeding_last (feeding_next (feeding_first c.requires) (92 ∷ []) (c.args.b ∷ []) refl c.in_ok-q.ensures c.read_byte.auto.name c.read_byte.auto.stack) c.read_byte-2.new.name c.read_byte-2.new.stack c.read_byte-2.result c.read_byte-2.ensures)
