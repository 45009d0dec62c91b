-- `packed::read` meets its contract. Past the end the element read is the blank one; within the list it matters not what stands for those past its end.
-- Assumes nothing.
use mathlib.Core.Path.{sym}
use mathlib.Core.List.{[]}
use lib.ListN.{get_or-eq_default}
use Rattle.packed.specs.Records.{blank_record}
use Rattle.packed.proofs.Rows.{any_default, record_as, record_blank}
use Rattle.packed.proofs.read.Goals as goal

pub returns-then-records-i : goal.returns-then-records-i
returns-then-records-i c = record_blank (sym (get_or-eq_default c.args.records.now blank_record c.if-records-i.true))

pub returns : goal.returns
returns c = record_as (any_default c.args.records.now c.args.i [] blank_record c.if-records-i.false) c.record_of.ensures
