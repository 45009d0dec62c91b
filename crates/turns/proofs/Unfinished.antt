-- The turn of a token is never the end of the run.
-- Assumes nothing.
use mathlib.Core.List.{List}
use mathlib.Core.Path.{◌≡◌, subst}
use lib.Dec.{eqb}
use Rattle.lex.proofs.Tests.{by_test}
use Rattle.store.specs.Stores.{define, fits}
use Rattle.settings.specs.declared.Settings.{Settings}
use Rattle.writing.specs.Written.{Written}
use Rattle.turns.specs.States.{Frame, Turn, more, stop, finished, Here, write}
use Rattle.turns.specs.Acts.{Act, refuses, leaves, copies, skips, hides, branches, defines, undefines, includes, keeps, spells, expands, act_at}
use Rattle.turns.specs.Usages.{expand_here}
use Rattle.turns.specs.Performing.{perform}
use Rattle.turns.specs.Turns.{token_turn}
use Rattle.turns.proofs.Turning.{by_write}

Goes : Turn → Type 0
Goes (more s m) = Unit {0}
Goes (stop n f p m) = Unit {0}
Goes finished = ⊥

module _ (h : Here) where
  write_goes : (ws : List Written) (fs : List Frame) (c : Settings) → Goes (write h ws fs c)
  unfolding Goes
  write_goes ws fs c = by_write h Goes ws fs c (λ n e. tt) (λ r e. tt)

  act_goes : (a : Act) → Goes (perform h a)
  unfolding Goes
  act_goes (refuses n p) = tt
  act_goes leaves = by_test Goes h.frame.cursor.comment (λ e. write_goes _ _ _) (λ e. tt)
  act_goes copies = write_goes _ _ _
  act_goes skips = tt
  act_goes (hides e) = tt
  act_goes (branches cs e) = tt
  act_goes (defines m e) = by_test Goes (fits h.context.records h.context.bytes (define m h.state.macros)) (λ q. tt) (λ q. tt)
  act_goes (undefines ms e) = tt
  act_goes (includes i e) = tt
  act_goes (keeps v e) = write_goes _ _ _
  act_goes (spells w) = write_goes _ _ _
  act_goes expands = by_test Goes (eqb (expand_here h).stop 0) (λ q. tt) (λ q. tt)

  pub token_unfinished : token_turn h ≡ finished → ⊥
  unfolding Goes
  token_unfinished e = subst Goes e (act_goes (act_at h))
