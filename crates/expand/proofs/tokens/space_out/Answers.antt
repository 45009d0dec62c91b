-- `expand::tokens::space_out` meets its contract.
-- Assumes nothing.
use mathlib.Core.Path.{ap}
use native.Mathlib.Omega.{arith}
use lib.ListN.{length}
use borrow.Author.Tests.{eq-eqb}
use Rattle.pending.specs.References.{raw_of}
use Rattle.expand.proofs.Spelling.{raw_length}
use Rattle.expand.proofs.tokens.space_out.Goals as goal

pub returns-then-p-eq-SPACE : goal.returns-then-p-eq-SPACE
unfolding raw_of
returns-then-p-eq-SPACE c = rw (eq-eqb _ _ c.if-p-eq-SPACE.true) c.add_space.ensures

pub add_space-requires-2 : goal.add_space-requires-2
add_space-requires-2 c =
    let z = c in
    omega (arith, ap length c.bytes_at.ensures, raw_length z.args.s.now z.args.b.now z.args.p z.requires.0 z.requires.1)
