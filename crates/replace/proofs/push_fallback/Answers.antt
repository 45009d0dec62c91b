-- `replace::push_fallback` meets its contract.
-- Assumes nothing.
use Rattle.sets.specs.Sets.{members}
use Rattle.replace.proofs.Values.{fallback_is, adds_as}
use Rattle.replace.proofs.push_fallback.Goals as goal

pub returns : goal.returns
returns c s f d fs h =
    let a = c.args in
    adds_as c.push_default.result s a.b.now a.out.now c.push_default.new.out a.most a.n
    (fallback_is a.b.now a.at c.mark_at-m.ensures c.formal_end.ensures (members a.set) f d fs h)
    (c.push_default.ensures s)
