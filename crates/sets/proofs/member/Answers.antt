-- `sets::member` meets its contract: the bit is looked up in the word that it lies in.
-- Assumes nothing.
use mathlib.Core.Path.{sym, ◌∙◌}
use native.Mathlib.Omega.{arith}
use Rattle.sets.proofs.Words.{member_0, member_1, member_2, member_3}
use Rattle.sets.proofs.member.Goals as goal

pub returns-then-i-lt64 : goal.returns-then-i-lt64
returns-then-i-lt64 c = let a = c.args in c.bit.ensures ∙ sym (member_0 a.s a.i (omega arith))

pub returns-then-i-lt128 : goal.returns-then-i-lt128
returns-then-i-lt128 c = let a = c.args in c.bit-then-i-lt128.ensures ∙ sym (member_1 a.s a.i (omega arith) (omega arith) (omega arith))

pub returns-then-i-lt192 : goal.returns-then-i-lt192
returns-then-i-lt192 c = let a = c.args in c.bit-then-i-lt192.ensures ∙ sym (member_2 a.s a.i (omega arith) (omega arith) (omega arith) (omega arith))

pub returns : goal.returns
returns c = let a = c.args in c.bit-2.ensures ∙ sym (member_3 a.s a.i (omega arith) (omega arith) (omega arith) (omega arith) (omega arith))
