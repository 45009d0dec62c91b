-- `macros::define_at` meets its contract: the work bytes are enough for any text.
-- Assumes nothing.
use native.Mathlib.Omega.{arith}
use Rattle.macros.proofs.Reading.{good_at, never_short, reads_barred, reads_bad}
use Rattle.macros.proofs.define_at.Goals as goal

pub store_good-requires : goal.store_good-requires
store_good-requires c = (c.requires.small, c.requires.few, c.requires.stored, omega (arith, c.requires.work_long), c.requires.form_long, good_at c.args.s.now c.args.at c.judge_definition-j.ensures c.requires.work_long (omega (arith, c.well_formed)) _ c.in-Good.is)

pub returns-in-Barred : goal.returns-in-Barred
returns-in-Barred c ms h = reads_barred c.args.s.now c.args.at c.judge_definition-j.ensures c.requires.work_long (omega (arith, c.well_formed)) h c.in-Barred.n c.in-Barred.p c.in-Barred.is

pub returns-in-Bad : goal.returns-in-Bad
returns-in-Bad c ms h = reads_bad c.args.s.now c.args.at c.judge_definition-j.ensures c.requires.work_long (omega (arith, c.well_formed)) h _ c.in-Bad.is

pub returns-in-Short : goal.returns-in-Short
returns-in-Short c ms h = absurd (never_short c.args.s.now c.args.at c.judge_definition-j.ensures c.requires.work_long (omega (arith, c.well_formed)) c.in-Short.is)
