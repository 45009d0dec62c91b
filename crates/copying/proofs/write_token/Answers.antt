-- `copying::write_token` meets its contract.
-- Assumes nothing.
use mathlib.Core.Path.{sym, ◌∙◌}
use Rattle.copying.proofs.Writing.{writable_still}
use Rattle.copying.proofs.write_token.Goals as goal

pub write_plain-requires : goal.write_plain-requires
write_plain-requires c = (writable_still c.requires.0, c.requires.1, c.requires.2 (sym c.may_wrap.ensures ∙ c.if-may_wrap.false))

pub returns : goal.returns
returns c = c.write_plain.ensures 1
