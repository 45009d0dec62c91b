-- `afresh::read_sign` meets its contract. It branches as its definition does.
-- Assumes nothing.
use Rattle.afresh.specs.Feeding.{state_of}
use Rattle.afresh.proofs.Choices.{sign_marked, sign_slash, sign_solid, sign_single}
use Rattle.afresh.proofs.Feeding.{sound, fed_at}
use Rattle.afresh.proofs.read_sign.Goals as goal

pub returns-then-r : goal.returns-then-r
returns-then-r c n l k = rw (sign_marked (state_of c.args.r n c.args.stack.now) c.args.b c.if-r.true) (c.read_single.ensures n l k)

pub returns-then-b-eq47 : goal.returns-then-b-eq47
returns-then-b-eq47 c n l k = rw (sign_slash (state_of c.args.r n c.args.stack.now) c.args.b c.if-r.false c.if-b-eq47.true) (fed_at (sound c.args.r n c.args.stack.now l k c.requires) c.at_state.ensures)

pub returns-then-b-eq92 : goal.returns-then-b-eq92
returns-then-b-eq92 c n l k = rw (sign_solid (state_of c.args.r n c.args.stack.now) c.args.b c.if-r.false c.if-b-eq47.false c.if-b-eq92.true) (fed_at (sound c.args.r n c.args.stack.now l k c.requires) c.at_state-then-b-eq92.ensures)

pub returns : goal.returns
returns c n l k = rw (sign_single (state_of c.args.r n c.args.stack.now) c.args.b c.if-r.false c.if-b-eq47.false c.if-b-eq92.false) (c.read_single-2.ensures n l k)
