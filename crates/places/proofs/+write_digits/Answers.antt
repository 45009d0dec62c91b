-- `places::write_digits` meets its contract. Assumes nothing.
use Rattle.std.proofs.Common.{arith}
use Rattle.places.proofs.Filling.{no_digit, one_digit, more_digits}
use Rattle.places.proofs.+write_digits.Goals as goal

pub returns-then-k-eq0 : goal.returns-then-k-eq0
returns-then-k-eq0 t c = (no_digit _ _ c.if-k-eq0.true, omega arith)

pub returns-then-n-lt10 : goal.returns-then-n-lt10
returns-then-n-lt10 t c = one_digit _ _ c.args.out.now c.requires c.if-k-eq0.false c.if-n-lt10.true

pub returns : goal.returns
returns t c = more_digits _ _ c.write_digits-m.new.out _ (omega (arith, c.write_digits-m.auto.out, c.requires)) c.if-k-eq0.false c.if-n-lt10.false c.write_digits-m.ensures
