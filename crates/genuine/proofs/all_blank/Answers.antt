use mathlib.Core.Path.{◌∙◌}
use Rattle.genuine.proofs.Testing.{each_no, each_next, each_end, each_blank}
use Rattle.packed.specs.Records.{blank_record}
use Rattle.genuine.proofs.TestingRows.{row_other, row_blank}
use Rattle.std.proofs.lemmas.Bool.{not_from_true, not_from_false}
use Rattle.genuine.proofs.all_blank.Goals as goal

pub returns-then-not-is_blank : goal.returns-then-not-is_blank
returns-then-not-is_blank c = each_no each_blank _ _ blank_record c.loop-i-test.true (row_other c.read.ensures c.is_blank.ensures (not_from_false _ c.if-not-is_blank.true)) ∙ c.loop-i.invariant

pub loop-i-preserved : goal.loop-i-preserved
loop-i-preserved c = each_next each_blank _ _ blank_record c.loop-i-test.true (row_blank c.read.ensures c.is_blank.ensures (not_from_true _ c.if-not-is_blank.false)) ∙ c.loop-i.invariant

pub returns : goal.returns
returns c = each_end each_blank _ _ c.loop-i-test.false ∙ c.loop-i.invariant
