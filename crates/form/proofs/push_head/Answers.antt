-- `form::push_head` meets its contract. The name is put, and the list behind it.
-- Assumes nothing.
use native.Mathlib.Omega.{arith}
use Rattle.text.specs.Bytes.{part}
use Rattle.definition.specs.Definitions.{parameters_of}
use Rattle.form.specs.Forms.{list_form}
use Rattle.form.proofs.Pushing.{put_past, by_then, put_not}
use Rattle.form.proofs.Formed.{head-form}
use Rattle.form.proofs.push_head.Goals as goal

pub returns-in_err-m : goal.returns-in_err-m
returns-in_err-m c fs x p q = let a = c.args in rw c.from_residual.ensures (put_not _ _ _ _ _ (rw c.part_of.ensures at c.push_bytes.ensures) c.in_err-m.was (λ l. absurd l) (list_form (parameters_of a.s.now fs)) (head-form (part a.s.now a.h.from a.h.end) (parameters_of a.s.now fs)))

pub push_list-requires : goal.push_list-requires
push_list-requires c = (put_past c.in_ok-m.ensures (omega arith), c.requires)

pub returns : goal.returns
returns c fs x p q = let a = c.args in by_then (rw c.part_of.ensures at c.in_ok-m.ensures) (omega arith) (λ l. l) _ (list_form (parameters_of a.s.now fs)) (head-form (part a.s.now a.h.from a.h.end) (parameters_of a.s.now fs)) c.push_list.result (c.push_list.ensures fs x p q)
