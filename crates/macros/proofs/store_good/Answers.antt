-- `macros::store_good` meets its contract: the form written is that of the macro, or it is longer than all macro bytes.
-- Assumes nothing.
use native.Mathlib.Omega.{arith}
use Rattle.std.proofs.Common.{Some, None}
use Rattle.macros.proofs.Heading.{head_ordered}
use Rattle.macros.proofs.Reading.{form_upto, form_short, form_is, reads_defined, reads_short}
use Rattle.macros.proofs.store_good.Goals as goal

pub overflow_sub-h : goal.overflow_sub-h
overflow_sub-h c = head_ordered c.args.s.now c.args.at c.head_at-h.ensures

pub define-d-requires : goal.define-d-requires
define-d-requires c = let g = c.requires.5 in record { small = c.requires.0; few = c.requires.1; stored = c.requires.2; defined = g.defined; form-of = form_is c.args.s.now c.args.at g.is_good c.head_at-h.ensures (form_upto c.args.s.now c.args.work.now g.defined c.args.form.now c.write_form-f.new.out (c.write_form-f.ensures g.defined c.args.end g.is_good) c.in-Ok.is) c.part_of.ensures }

pub returns-in-Some : goal.returns-in-Some
returns-in-Some c ms h = let g = c.requires.5 in reads_defined g.is_good (c.define-d.ensures ms g.defined h (form_is c.args.s.now c.args.at g.is_good c.head_at-h.ensures (form_upto c.args.s.now c.args.work.now g.defined c.args.form.now c.write_form-f.new.out (c.write_form-f.ensures g.defined c.args.end g.is_good) c.in-Ok.is) c.part_of.ensures)) (Some c.in-Some.k) c.in-Some.is

pub returns-in-None : goal.returns-in-None
returns-in-None c ms h = let g = c.requires.5 in reads_defined g.is_good (c.define-d.ensures ms g.defined h (form_is c.args.s.now c.args.at g.is_good c.head_at-h.ensures (form_upto c.args.s.now c.args.work.now g.defined c.args.form.now c.write_form-f.new.out (c.write_form-f.ensures g.defined c.args.end g.is_good) c.in-Ok.is) c.part_of.ensures)) None c.in-None.is

pub returns-in-Err : goal.returns-in-Err
returns-in-Err c ms h = let g = c.requires.5 in reads_short c.args.form.now g.is_good h c.requires.4 (form_short c.args.s.now c.args.work.now g.defined c.args.form.now c.write_form-f.new.out (c.write_form-f.ensures g.defined c.args.end g.is_good) c.in-Err.is (omega (arith, c.requires.3)))
