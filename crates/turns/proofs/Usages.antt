-- Where a usage ends: no earlier than its word, and within the file.
-- Assumes nothing.
use Prim.Native.Nat.{ℕ, ◌≤◌}
use mathlib.Core.Bool.{true}
use mathlib.Core.List.{List, [], ◌∷◌}
use mathlib.Core.Path.{◌≡◌}
use native.Mathlib.Omega.{arith}
use lib.Dec.{eqb}
use lib.ListN.{length}
use borrow.Author.Tests.{eqb-true}
use Rattle.lex.proofs.Progress.{Inside}
use Rattle.definition.specs.Definitions.{Macro}
use Rattle.writing.specs.Written.{Room}
use Rattle.macros.proofs.Each.{Each}
use Rattle.replace.specs.Replacing.{Got, refused, got}
use Rattle.expand.specs.Expanding.{Outer, Next, on_got, onward, first, goes_on, expand}
use Rattle.turns.proofs.Replacing.{GotIn, first_in}

module _ (s : List ℕ) (i : ℕ) (l : i ≤ length s) where
  goes_in : (go : Next) (r : Room) (g : Got) → GotIn s (Inside s i) g → eqb (on_got go r g).stop 0 ≡ true → Inside s i (goes_on s g)
  unfolding GotIn Each
  goes_in go r (refused n p) h e = absurd (omega (arith, eqb-true n 0 e, h.low))
  goes_in go r (got q []) h e = record { past = l; within = omega arith }
  goes_in go r (got q (p ∷ ps)) h e = h.1.0.at_in

  -- where the file goes on behind a usage that is expanded to its end
  pub usage_inside : (n : ℕ) (o : Outer) (ms : List Macro) (r : Room) (w : List ℕ) → eqb (expand n o ms r w s i).stop 0 ≡ true
      → Inside s i (goes_on s (first ms w s i))
  unfolding expand
  usage_inside n o ms r w e = goes_in (λ q rest r'. onward n o ms q [] r') r (first ms w s i) (first_in s ms w i) e
