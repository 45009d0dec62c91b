-- `genuine::all_solid` meets its contract: the test is asked of each byte in turn.
-- Assumes nothing.
use Rattle.std.proofs.Common.{rules, tests, ◌∙◌}
use Rattle.std.proofs.lemmas.Iterator.{YieldsList-from_slice}
use Rattle.std.proofs.lemmas.Iterator.Search.{all_from_yields_List}
use Rattle.genuine.proofs.Testing.{each_list, each_solid, is_solid}
use Rattle.genuine.proofs.all_solid.Goals as goal

pub returns : goal.returns
returns c =
    all_from_yields_List is_solid _ _ _ c.all.ensures.ran (YieldsList-from_slice c.args.w.now cc) (λ x b q k. search (rules, tests))
    ∙ each_list each_solid c.args.w.now
