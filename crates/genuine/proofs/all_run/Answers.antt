-- `genuine::all_run` meets its contract: each byte is asked in turn.
-- Assumes nothing.
use Rattle.std.proofs.Common.{rules, tests, ◌∙◌}
use Rattle.std.proofs.lemmas.Iterator.{YieldsList-from_slice}
use Rattle.std.proofs.lemmas.Iterator.Search.{all_from_yields_List}
use Rattle.lex.specs.Classes.{is_run}
use Rattle.genuine.proofs.Testing.{each_list, each_run}
use Rattle.genuine.proofs.all_run.Goals as goal

pub returns : goal.returns
returns c =
    all_from_yields_List (is_run 36) _ _ _ c.all.ensures.ran (YieldsList-from_slice c.args.w.now cc) (λ x b q k. search (rules, tests))
    ∙ each_list each_run c.args.w.now
