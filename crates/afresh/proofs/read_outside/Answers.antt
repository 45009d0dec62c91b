-- `afresh::read_outside` meets its contract. It branches as its definition does.
-- Assumes nothing.
use borrow.Author.Tests.{eq-eqb, ne_eqb}
use Rattle.afresh.specs.States.{outside}
use Rattle.afresh.proofs.read_outside.Goals as goal

pub returns-then-r-eq-START : goal.returns-then-r-eq-START
unfolding outside
returns-then-r-eq-START c = simp (eq-eqb _ _ c.if-r-eq-START.true) c.read_fresh.ensures

pub returns-then-r-eq-WORD : goal.returns-then-r-eq-WORD
unfolding outside
returns-then-r-eq-WORD c = simp (ne_eqb _ _ c.if-r-eq-START.false, eq-eqb _ _ c.if-r-eq-WORD.true) c.read_word.ensures

pub returns-then-r-eq-RUN : goal.returns-then-r-eq-RUN
unfolding outside
returns-then-r-eq-RUN c = simp (ne_eqb _ _ c.if-r-eq-START.false, ne_eqb _ _ c.if-r-eq-WORD.false, eq-eqb _ _ c.if-r-eq-RUN.true) c.read_run.ensures

pub returns-then-r-eq-BASED : goal.returns-then-r-eq-BASED
unfolding outside
returns-then-r-eq-BASED c = simp (ne_eqb _ _ c.if-r-eq-START.false, ne_eqb _ _ c.if-r-eq-WORD.false, ne_eqb _ _ c.if-r-eq-RUN.false, eq-eqb _ _ c.if-r-eq-BASED.true) c.read_run-then-r-eq-BASED.ensures

pub returns : goal.returns
unfolding outside
returns c = simp (ne_eqb _ _ c.if-r-eq-START.false, ne_eqb _ _ c.if-r-eq-WORD.false, ne_eqb _ _ c.if-r-eq-RUN.false, ne_eqb _ _ c.if-r-eq-BASED.false) c.read_short.ensures
