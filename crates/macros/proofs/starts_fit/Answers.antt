-- `macros::starts_fit` meets its contract.
-- Assumes nothing.
use Rattle.macros.proofs.Starting.{too_many, ill_named, few_records, room_is}
use Rattle.std.proofs.lemmas.Bool.{not_from_true, not_from_false}
use Rattle.macros.proofs.starts_fit.Goals as goal

pub returns-then-ranges-gt256 : goal.returns-then-ranges-gt256
returns-then-ranges-gt256 c = too_many c.args.s.now c.args.ranges.now c.args.records c.args.bytes c.if-ranges-gt256.true

pub returns-then-not-all_starts : goal.returns-then-not-all_starts
returns-then-not-all_starts c = ill_named c.args.s.now c.args.ranges.now c.args.records c.args.bytes c.all_starts.ensures (not_from_false _ c.if-not-all_starts.true)

pub returns-then-records-ranges : goal.returns-then-records-ranges
returns-then-records-ranges c = few_records c.args.s.now c.args.ranges.now c.args.records c.args.bytes c.all_starts.ensures (not_from_true _ c.if-not-all_starts.false) c.if-ranges-gt256.false c.if-records-ranges.true

pub returns : goal.returns
returns c = room_is c.args.s.now c.args.ranges.now c.args.records c.args.bytes c.all_starts.ensures (not_from_true _ c.if-not-all_starts.false) c.if-ranges-gt256.false c.if-records-ranges.false c.starts_size.ensures
