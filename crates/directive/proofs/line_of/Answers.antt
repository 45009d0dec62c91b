-- `directive::line_of` meets its contract. A raw name's `>` lies in the text, so the place past it fits.
-- Assumes nothing.
use mathlib.Core.Path.{sym, ap, ◌∙◌}
use native.Mathlib.Omega.{arith}
use borrow.Author.Tests.{eq-eqb, ne_eqb}
use Rattle.lex.specs.Faults.{worse_of}
use Rattle.directive.specs.Include.{name_at}
use Rattle.directive.proofs.Including.{raw_inside}
use Rattle.directive.proofs.line_of.Goals as goal

pub overflow_add-e : goal.overflow_add-e
overflow_add-e c = omega (arith, raw_inside _ _ _ _ (sym c.scan_raw-raw.ensures ∙ c.in-Some.is) c.requires.1)

pub returns-in-Some : goal.returns-in-Some
unfolding name_at
returns-in-Some c = simp (← c.is_byte.ensures, c.if-is_byte.true, ← c.scan_raw-raw.ensures, c.in-Some.is, ← c.worse.ensures) c.line_behind.ensures

pub returns-in-None : goal.returns-in-None
unfolding name_at
returns-in-None c = simp (← c.is_byte.ensures, c.if-is_byte.true, ← c.scan_raw-raw.ensures, c.in-None.is) c.line_behind-in-None.ensures

pub returns-then-t-eq-STRING : goal.returns-then-t-eq-STRING
unfolding name_at
returns-then-t-eq-STRING c = simp (← c.is_byte.ensures, c.if-is_byte.false, ← (c.worse-g.ensures ∙ ap (worse_of c.args.f) c.fault_of.ensures), eq-eqb _ _ c.if-t-eq-STRING.true) c.line_behind-then-t-eq-STRING.ensures

pub returns : goal.returns
unfolding name_at
returns c = simp (← c.is_byte.ensures, c.if-is_byte.false, ← (c.worse-g.ensures ∙ ap (worse_of c.args.f) c.fault_of.ensures), ne_eqb _ _ c.if-t-eq-STRING.false) c.line_behind-2.ensures
