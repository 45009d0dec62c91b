-- `pass::pass` meets its contract.
-- Assumes nothing.
use native.Mathlib.Omega.{arith}
use Rattle.pass.proofs.Answers.{left_kept, passes_left, passes_foreign}
use Rattle.pass.proofs.pass.Goals as goal

pub pass_stored-requires : goal.pass_stored-requires
pass_stored-requires c = left_kept c.check_store-c.ensures (λ i. omega (arith, c.shared_slice_known-1.given i)) _ c.in-Some.is

pub returns-in-Some : goal.returns-in-Some
returns-in-Some c = passes_left c.check_store-c.ensures _ c.in-Some.is c.pass_stored.ensures

pub returns-in-None : goal.returns-in-None
returns-in-None c = passes_foreign c.check_store-c.ensures c.in-None.is
