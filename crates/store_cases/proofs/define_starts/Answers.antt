-- `store_cases::define_starts` meets its contract: the start macros fit, so they are at most 256.
-- Assumes nothing.
use borrow.Author.Tests.{not-false}
use mathlib.Core.Path.{sym, ◌∙◌}
use Rattle.store_cases.proofs.Steps.{after_starts}
use borrow.Author.Rules.{rules}
use Rattle.std.proofs.lemmas.Bool.{not_from_true}
use Rattle.store_cases.proofs.define_starts.Goals as goal

pub define_starts-n-requires : goal.define_starts-n-requires
define_starts-n-requires c = record { small = search rules; none = search rules; fit = sym c.starts_fit.ensures ∙ not-false _ (not_from_true _ c.if-not-starts_fit.false); form_long = search rules }

pub returns : goal.returns
returns c = after_starts _ _ _ _ (sym c.starts_fit.ensures ∙ not-false _ (not_from_true _ c.if-not-starts_fit.false)) c.define_starts-n.ensures
