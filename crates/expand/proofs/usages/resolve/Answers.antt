-- `expand::usages::resolve` meets its contract.
-- Assumes nothing.
use mathlib.Core.Path.{sym, ◌∙◌}
use native.Mathlib.Omega.{arith}
use Rattle.sets.specs.Sets.{members}
use Rattle.store.proofs.Places.{found_below}
use Rattle.expand.proofs.Calling.{names_macro}
use Rattle.expand.proofs.usages.resolve.Goals as goal

pub member-requires : goal.member-requires
member-requires c =
    let h = c.requires.1.holds in
    omega (arith, found_below c.args.w.now h (c.find-f.ensures _ h) _ c.in-Ok.is, c.requires.0)

pub returns-else-member : goal.returns-else-member
returns-else-member c ms h = names_macro c.args.w.now h (c.find-f.ensures ms h) (members c.args.set) _ c.in-Ok.is (sym c.member.ensures ∙ c.if-member.false)
