-- What lies in a text from a place on, or at its end: that place itself, what lies behind, the end of a token.
-- Assumes nothing.
use Prim.Native.Nat.{ℕ, ◌<◌, ◌≤◌}
use mathlib.Core.Bool.{Bool, true, false}
use mathlib.Core.List.{List}
use mathlib.Core.Path.{◌≡◌, refl}
use native.Mathlib.Omega.{arith}
use lib.Dec.{leb}
use lib.ListN.{length}
use borrow.Author.Tests.{leb-true, leb-false}
use Rattle.lex.specs.declared.Mode.{Mode}
use Rattle.lex.specs.Tokens.{token_at}
use Rattle.lex.proofs.Progress.{Inside, token_ends, token_within, token_past}

pub inside_here : (s : List ℕ) (i : ℕ) → i ≤ length s → Inside s i i
inside_here s i h = record { past = omega arith; within = h }

pub inside_on : {s : List ℕ} {i j e : ℕ} → Inside s i j → Inside s j e → Inside s i e
inside_on a b = record { past = omega (arith, a.past, b.past); within = b.within }

-- the token at j
pub token_in : (m : Mode) (s : List ℕ) (i j : ℕ) → i ≤ j → j < length s → Inside s i (token_at m s j).end
token_in m s i j h l = record { past = omega (arith, token_ends m s j l); within = token_within m s j l }

pub token_inside : (m : Mode) (s : List ℕ) (i : ℕ) → i ≤ length s → Inside s i (token_at m s i).end
token_inside m s i h = go (leb (length s) i) refl
  where
    go : (b : Bool) → leb (length s) i ≡ b → Inside s i (token_at m s i).end
    go true e = rw (token_past m s i (leb-true (length s) i e)) (inside_here s i h)
    go false e = token_in m s i i (omega arith) (leb-false (length s) i e)
