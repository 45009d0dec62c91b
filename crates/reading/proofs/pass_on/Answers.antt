-- `reading::pass_on` meets its contract: by what is copied, or skipped.
-- Assumes nothing.
use mathlib.Core.Path.{refl}
use Rattle.reading.proofs.pass_on.Goals as goal

pub returns-then-taken : goal.returns-then-taken
returns-then-taken c = rw c.if-taken.true c.copy_tokens.ensures

pub returns : goal.returns
returns c =
    let k = c.skip_tokens-r.ensures in
    let p = c.requires.reads in
    rw c.if-taken.false (k.skips, record { small = p.small; place_small = p.place_small; inside = k.reads.inside; line_small = k.reads.line_small }, refl, refl, refl, k.token_is, k.stops)
