-- `sets::size` meets its contract: the ones of the four words, each at most 64, do not overflow.
-- Assumes nothing.
use native.Mathlib.Omega.{arith}
use lib.Count.{ones-le}
use Rattle.sets.proofs.Words.{size_of}
use Rattle.sets.proofs.size.Goals as goal

pub overflow_add-result : goal.overflow_add-result
overflow_add-result c = let s = c.args.s in omega (arith, ones-le 64 s.w0 (omega arith), ones-le 64 s.w1 (omega arith))

pub overflow_add-result-2 : goal.overflow_add-result-2
overflow_add-result-2 c = let s = c.args.s in omega (arith, ones-le 64 s.w0 (omega arith), ones-le 64 s.w1 (omega arith), ones-le 64 s.w2 (omega arith))

pub overflow_add-result-3 : goal.overflow_add-result-3
overflow_add-result-3 c = let s = c.args.s in omega (arith, ones-le 64 s.w0 (omega arith), ones-le 64 s.w1 (omega arith), ones-le 64 s.w2 (omega arith), ones-le 64 s.w3 (omega arith))

pub returns : goal.returns
returns c = size_of c.args.s (omega arith) (omega arith) (omega arith) (omega arith)
