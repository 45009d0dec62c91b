-- `form::write_macro` meets its contract. The head is put, and the text behind it.
-- Assumes nothing.
use mathlib.Core.Path.{refl}
use native.Mathlib.Omega.{arith}
use Rattle.std.specs.Prelude.{None}
use Rattle.text.specs.Bytes.{part}
use Rattle.storing.specs.Stored.{stored}
use Rattle.definition.specs.Definitions.{parameters_of}
use Rattle.form.proofs.Pushing.{put_past, by_then, put_not}
use Rattle.form.proofs.Formed.{form_at, form_short}
use Rattle.form.proofs.write_macro.Goals as goal

pub returns-in_err-n : goal.returns-in_err-n
returns-in_err-n c fs p q = let a = c.args in rw c.from_residual.ensures (form_short (part a.s.now a.h.from a.h.end) (parameters_of a.s.now fs) (stored a.s.now a.text a.end) a.out.now (put_not _ _ _ _ _ (c.push_head.ensures fs a.text p q) c.in_err-n.was (λ l. l) (stored a.s.now a.text a.end) refl))

pub push_text-requires : goal.push_text-requires
push_text-requires c = let a = c.args in let k = c.requires.1 in put_past (c.in_ok-n.ensures k.formals a.text k.shape k.number) (omega arith)

pub returns-in_err-m : goal.returns-in_err-m
returns-in_err-m c fs p q = let a = c.args in rw c.from_residual-in_err-m.ensures (form_short (part a.s.now a.h.from a.h.end) (parameters_of a.s.now fs) (stored a.s.now a.text a.end) a.out.now (by_then (c.in_ok-n.ensures fs a.text p q) (omega arith) (λ l. omega arith) c.push_text.new.out (stored a.s.now a.text a.end) refl None c.in_err-m.ensures))

pub returns : goal.returns
returns c fs p q = let a = c.args in form_at (part a.s.now a.h.from a.h.end) (parameters_of a.s.now fs) (stored a.s.now a.text a.end) a.out.now (c.in_ok-n.ensures fs a.text p q) (omega arith) c.in_ok-m.ensures
