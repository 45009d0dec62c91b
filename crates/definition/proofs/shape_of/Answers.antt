-- `definition::shape_of` meets its contract. It branches as its definition does.
-- Assumes nothing.
use mathlib.Core.Path.{sym, ap}
use Rattle.brackets.specs.Stacks.{full}
use Rattle.brackets.proofs.Settling.{settled_as}
use Rattle.definition.specs.Answers.{list_of}
use Rattle.definition.proofs.Counting.{shape_none, shape_bare, shape_listed}
use Rattle.definition.proofs.shape_of.Goals as goal

pub returns-then-not-h : goal.returns-then-not-h
returns-then-not-h c = full (sym (ap list_of (shape_none c.args.s.now c.args.h c.if-not-h.true)))

pub returns-then-not-h-2 : goal.returns-then-not-h-2
returns-then-not-h-2 c = full (sym (ap list_of (shape_bare c.args.s.now c.args.h c.if-not-h.false c.if-not-h-2.true)))

pub returns : goal.returns
returns c = settled_as (sym (ap list_of (shape_listed c.args.s.now c.args.h c.if-not-h.false c.if-not-h-2.false))) c.list_at.ensures
