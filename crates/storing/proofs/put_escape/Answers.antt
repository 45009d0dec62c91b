-- `storing::put_escape` meets its contract. The two bytes are added one behind the other.
-- Assumes nothing.
use mathlib.Core.Path.{refl}
use mathlib.Core.List.{[], ◌∷◌}
use borrow.Author.Tests.{eq-eqb, ne_eqb}
use Rattle.storing.proofs.Adding.{added_none, adding_first, adding_next, adding_past, adding_last, adding_short}
use Rattle.storing.proofs.put_escape.Goals as goal

pub returns-then-b-eq10 : goal.returns-then-b-eq10
returns-then-b-eq10 c = simp (eq-eqb _ _ c.if-b-eq10.true) (added_none _ _ _ c.requires.1)

pub returns-in_err-m : goal.returns-in_err-m
returns-in_err-m c = rw c.from_residual.ensures (simp (ne_eqb _ _ c.if-b-eq10.false) (adding_short (adding_first c.requires.0 c.requires.1) (92 ∷ []) (c.args.b ∷ []) refl c.in_err-m.ensures))

pub put_byte-requires-2 : goal.put_byte-requires-2
put_byte-requires-2 c = adding_past (adding_next (adding_first c.requires.0 c.requires.1) (92 ∷ []) (c.args.b ∷ []) refl c.in_ok-m.ensures)

pub returns : goal.returns
returns c = simp (ne_eqb _ _ c.if-b-eq10.false) (adding_last (adding_next (adding_first c.requires.0 c.requires.1) (92 ∷ []) (c.args.b ∷ []) refl c.in_ok-m.ensures) c.put_byte-2.new.out c.put_byte-2.result c.put_byte-2.ensures)
