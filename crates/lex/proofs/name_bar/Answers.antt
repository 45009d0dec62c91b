-- `lex::name_bar` meets its contract. A name that ends at or before its start is not too long.
-- Assumes nothing.
use Prim.Native.Nat.{◌-◌}
use native.Mathlib.Omega.{arith}
use borrow.Author.Tests.{eq-eqb, ne_eqb, lt-ltb, le-ltb}
use Rattle.lex.proofs.name_bar.Goals as goal

pub returns-then-bar-ne0 : goal.returns-then-bar-ne0
returns-then-bar-ne0 c = rw (ne_eqb _ _ c.if-bar-ne0.true)

pub returns-then-end-from : goal.returns-then-end-from
returns-then-end-from c = rw (eq-eqb _ _ c.if-bar-ne0.false, le-ltb 1024 (c.args.end - c.args.from) (omega arith))

pub returns-then-end-from-gt1024 : goal.returns-then-end-from-gt1024
returns-then-end-from-gt1024 c = rw (eq-eqb _ _ c.if-bar-ne0.false, lt-ltb _ _ c.if-end-from-gt1024.true)

pub returns-else-end-from-gt1024 : goal.returns-else-end-from-gt1024
returns-else-end-from-gt1024 c = rw (eq-eqb _ _ c.if-bar-ne0.false, le-ltb _ _ c.if-end-from-gt1024.false)
