-- `handover::is_entry` meets its contract.
-- Assumes nothing.
use Rattle.handover.proofs.Walking.{entry_form, entry_name_out, entry_body_out, entry_body_long, entry_by_name}
use Rattle.handover.proofs.is_entry.Goals as goal

pub returns-then-v-gt1 : goal.returns-then-v-gt1
returns-then-v-gt1 c = let a = c.args in entry_form a.s.now a.v c.if-v-gt1.true

pub returns-then-s-v : goal.returns-then-s-v
returns-then-s-v c = let a = c.args in entry_name_out a.s.now a.v c.if-v-gt1.false c.if-s-v.true

pub returns-then-s-v-2 : goal.returns-then-s-v-2
returns-then-s-v-2 c = let a = c.args in entry_body_out a.s.now a.v c.if-v-gt1.false c.if-s-v.false c.if-s-v-2.true

pub returns-then-v-gt65535 : goal.returns-then-v-gt65535
returns-then-v-gt65535 c = let a = c.args in entry_body_long a.s.now a.v c.if-v-gt1.false c.if-s-v.false c.if-s-v-2.false c.if-v-gt65535.true

pub returns : goal.returns
returns c = let a = c.args in entry_by_name a.s.now a.v c.if-v-gt1.false c.if-s-v.false c.if-s-v-2.false c.if-v-gt65535.false c.name_in.ensures c.is_file_name.ensures
