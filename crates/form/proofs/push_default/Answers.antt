-- `form::push_default` meets its contract. Mark and length of no default, or the default as it is stored in the work bytes.
-- Assumes nothing.
use mathlib.Core.Logic.{inl}
use native.Mathlib.Omega.{arith}
use borrow.Author.Tests.{not-true, not-false}
use Rattle.form.specs.Forms.{two}
use Rattle.form.proofs.Working.{stored_front}
use Rattle.form.proofs.Pushing.{put_as, put_past, by_then, put_not}
use Rattle.form.proofs.Formed.{default_plain, default_given}
use Rattle.form.proofs.push_default.Goals as goal

pub returns-in_err-m : goal.returns-in_err-m
returns-in_err-m c = let a = c.args in rw c.from_residual.ensures (put_not _ _ _ _ _ c.push_byte.ensures c.in_err-m.was (λ x. absurd x) (two 0) (default_plain a.s.now a.f (not-true _ c.if-not-f.true)))

pub push_two-requires : goal.push_two-requires
push_two-requires c = put_past c.in_ok-m.ensures (omega arith)

pub returns-then-not-f : goal.returns-then-not-f
returns-then-not-f c = let a = c.args in by_then c.in_ok-m.ensures (omega arith) (λ x. absurd x) _ (two 0) (default_plain a.s.now a.f (not-true _ c.if-not-f.true)) c.push_two.result c.push_two.ensures

pub returns-in_err-k : goal.returns-in_err-k
returns-in_err-k c = rw c.from_residual-in_err-k.ensures (inl (omega (arith, c.in_err-k.ensures)))

pub returns : goal.returns
returns c = let a = c.args in put_as c.push_stored.result _ _ _ (λ x. absurd x) (default_given a.s.now a.f (not-false _ c.if-not-f.false) (stored_front c.in_ok-k.ensures)) c.push_stored.ensures
