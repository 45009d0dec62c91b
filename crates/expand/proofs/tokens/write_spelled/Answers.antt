-- `expand::tokens::write_spelled` meets its contract. One law for each way a token is spelled.
-- Assumes nothing.
use mathlib.Core.Path.{ap}
use native.Mathlib.Omega.{arith}
use lib.ListN.{length}
use Rattle.expand.proofs.Spelling.{raw_length, spelled_escaped, spelled_space, spelled_joined, spelled_raw}
use Rattle.expand.proofs.tokens.write_spelled.Goals as goal

pub returns-then-p-eq-ESCAPED : goal.returns-then-p-eq-ESCAPED
returns-then-p-eq-ESCAPED c = let h = c.if-p-eq-ESCAPED.true in rw (spelled_escaped, ← c.space_out-n.ensures) c.write_part.ensures

pub returns-then-p-eq-SPACE : goal.returns-then-p-eq-SPACE
returns-then-p-eq-SPACE c = let h = c.if-p-eq-ESCAPED.false in let e = c.if-p-eq-SPACE.true in rw spelled_space c.write_whole.ensures

pub join-n-requires : goal.join-n-requires
join-n-requires c =
    let z = c in
    omega (arith, z.requires.work_lent, ap length c.bytes_at-w.ensures, raw_length z.args.s.now z.args.b.now z.args.p z.requires.file_small z.requires.bytes_small)

pub returns-then-p : goal.returns-then-p
returns-then-p c = let h = c.if-p-eq-ESCAPED.false in let e = c.if-p.true in rw (spelled_joined, ← c.bytes_at-w.ensures, ← c.join-n.ensures) c.write_part-then-p.ensures

pub returns : goal.returns
returns c = let h = c.if-p-eq-ESCAPED.false in let e = c.if-p.false in rw (spelled_raw, ← c.bytes_at-w.ensures) c.write_whole-2.ensures
