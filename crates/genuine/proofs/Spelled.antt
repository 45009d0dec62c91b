-- A stored text as it is spelled in a definition, read there: its tokens are those of the text read afresh.
-- Assumes nothing.
use Prim.Native.Nat.{ℕ, ◌≤◌}
use mathlib.Core.Bool.{false, ◌||◌}
use mathlib.Core.Path.{◌≡◌}
use mathlib.Core.List.{List, [], ◌∷◌, ◌++◌}
use lib.ListN.{length}
use Rattle.lex.specs.Tokens.{in_definition, Quote, EscapedQuote, Joiner, is, is_mark, tokens}
use Rattle.lex.specs.Faults.{Unbarred}
use Rattle.lex.specs.declared.Token.{Token}
use Rattle.brackets.specs.Steps.{on}
use Rattle.storing.specs.Stored.{pieces}
use Rattle.storing.specs.Graves.{grave_in}
use Rattle.afresh.specs.Unfit.{held_by}
use Rattle.genuine.proofs.Tests.{or_left}

-- none of them is a joiner or a quote mark
pub data Unmarked : List Token → Type 0 where
  none : Unmarked []
  some : {t : Token} {ts : List Token} → is_mark t ≡ false → Unmarked ts → Unmarked (t ∷ ts)

pub no_quote : (t : Token) → is_mark t ≡ false → is Quote t ≡ false
no_quote t = or_left (is Quote t) (is EscapedQuote t || is Joiner t)

-- from some closing brackets due to others
pub data Passes (s : List ℕ) : List Token → List ℕ → List ℕ → Type 0 where
  none : {ks : List ℕ} → Passes s [] ks ks
  some : {t : Token} {ts : List Token} {ks js hs : List ℕ} → held_by s t ks ≡ on js → Passes s ts js hs → Passes s (t ∷ ts) ks hs

-- a stored text at the end of a definition
pub record TextRead (s w : List ℕ) (p : ℕ) : Type 0 where
  pub unbarred : Unbarred (tokens in_definition s p)
  pub stored : pieces s (length s) false (tokens in_definition s p) ≡ w

-- a stored default in a definition, with something behind it
pub record DefaultRead (s d : List ℕ) (p e : ℕ) : Type 0 where
  pub read : List Token
  pub split : tokens in_definition s p ≡ read ++ tokens in_definition s e
  pub unbarred : Unbarred read
  pub unmarked : Unmarked read
  pub passes : Passes s read [] []
  pub stored : (x : ℕ) (rest : List Token) → e ≤ x → pieces s x false (read ++ rest) ≡ d ++ pieces s x false rest
  pub plain : (x : ℕ) (rest : List Token) → e ≤ x → grave_in s x (read ++ rest) ≡ grave_in s x rest
