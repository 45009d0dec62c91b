-- `including::include` meets its contract.
-- Assumes nothing.
use Rattle.including.proofs.Entering.{include_barred, include_unnamed, include_quoted, include_angled}
use Rattle.including.proofs.include.Goals as goal

pub returns-then-b-ne0 : goal.returns-then-b-ne0
returns-then-b-ne0 c = include_barred _ _ _ _ _ _ _ c.include_at-l.ensures c.if-b-ne0.true

pub returns-in-Unnamed : goal.returns-in-Unnamed
returns-in-Unnamed c = include_unnamed _ _ _ _ _ _ _ c.include_at-l.ensures c.if-b-ne0.false c.in-Unnamed.is

pub returns-in-Quoted : goal.returns-in-Quoted
returns-in-Quoted c = include_quoted _ _ _ _ _ _ _ c.include_at-l.ensures c.if-b-ne0.false _ _ c.enter.result c.in-Quoted.is c.enter.ensures

pub returns-in-Angled : goal.returns-in-Angled
returns-in-Angled c = include_angled _ _ _ _ _ _ _ c.include_at-l.ensures c.if-b-ne0.false _ _ c.enter-in-Angled.result c.in-Angled.is c.enter-in-Angled.ensures
