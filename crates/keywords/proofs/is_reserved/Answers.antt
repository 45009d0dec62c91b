use mathlib.Core.Path.{sym, ◌∙◌}
use native.Mathlib.Omega.{arith}
use Rattle.keywords.proofs.Places.{firsts_number}
use Rattle.keywords.proofs.Searching.{passed_before, passed_one, passed_all, found, too_long}
use Rattle.keywords.proofs.is_reserved.Goals as goal

pub returns-then-stretch-word : goal.returns-then-stretch-word
returns-then-stretch-word c = too_long c.args.word.now (rw c.peek.ensures at c.stretch_of-stretch.ensures) c.args.version c.if-stretch-word.true

pub loop-k-init : goal.loop-k-init
loop-k-init c = passed_before c.args.word.now (rw c.peek.ensures at c.stretch_of-stretch.ensures)

pub is_word-requires : goal.is_word-requires
is_word-requires c = let e = c.stretch_of-stretch.ensures.in_table in (c.requires.its_bytes, c.requires.its_starts, omega arith)

pub offset_bounds-firsts-k : goal.offset_bounds-firsts-k
offset_bounds-firsts-k c = let e = c.stretch_of-stretch.ensures.in_table in omega arith

pub bounds-firsts-k : goal.bounds-firsts-k
bounds-firsts-k c = let e = c.stretch_of-stretch.ensures.in_table in omega (arith, firsts_number c.requires.its_firsts)

pub returns-then-is_word : goal.returns-then-is_word
returns-then-is_word c = let e = c.stretch_of-stretch.ensures.in_table in found c.loop-k.invariant c.requires.its_firsts c.args.version (omega arith) (sym c.is_word.ensures ∙ c.if-is_word.true)

pub loop-k-preserved : goal.loop-k-preserved
loop-k-preserved c = passed_one c.loop-k.invariant (sym c.is_word.ensures ∙ c.if-is_word.false)

pub returns : goal.returns
returns c = passed_all c.args.word.now (rw c.peek.ensures at c.stretch_of-stretch.ensures) c.loop-k.invariant c.args.version c.loop-k-test.false
