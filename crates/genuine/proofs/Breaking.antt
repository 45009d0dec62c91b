-- The tokens where a line ends: of a text read afresh, and of its spelling.
-- Assumes nothing.
use Prim.Native.Nat.{ℕ, ◌+◌, ◌<◌}
use mathlib.Core.Bool.{Bool, true, false}
use mathlib.Core.List.{List}
use mathlib.Core.Path.{◌≡◌, refl}
use lib.Dec.{eqb}
use lib.ListN.{length, get_or}
use borrow.Author.Tests.{eq-eqb, lt-leb}
use Rattle.lex.specs.Tokens.{in_definition, between, Newline, Byte, Continuation, plain, backslash_token, sign_token, token_at}
use Rattle.lex.proofs.Tests.{read_within}
use Rattle.genuine.proofs.Pacing.{span_newline_end}
use Rattle.genuine.proofs.Turning.{afresh}

module _ (w : List ℕ) (i : ℕ) where
  pub newline_token : (x b : Bool) → get_or w i 0 ≡ 10 → token_at (afresh x b) w i ≡ plain Newline i (i + 1) 0
  unfolding token_at
  newline_token x b e =
      let l : i < length w = read_within (λ y. eqb y 10) refl w i (eq-eqb (get_or w i 0) 10 e) in
      rw (lt-leb (length w) i l, e)

  module _ (e : get_or w i 0 ≡ 92) (f : get_or w (i + 1) 0 ≡ 10) where
    within : i < length w
    within = read_within (λ y. eqb y 92) refl w i (eq-eqb (get_or w i 0) 92 e)

    -- a `\` before a newline
    pub slash-token : (x b : Bool) → token_at (afresh x b) w i ≡ plain Byte i (i + 1) 0
    unfolding token_at sign_token backslash_token
    slash-token x true = rw (lt-leb (length w) i within, e)
    slash-token x false = rw (lt-leb (length w) i within, e, span_newline_end w (i + 1) f, eq-eqb (i + 1) (i + 1) refl)

    pub continuation_token : (b : Bool) → token_at (between in_definition b) w i ≡ plain Continuation i (i + 2) 0
    unfolding token_at sign_token backslash_token
    continuation_token b = rw (lt-leb (length w) i within, e, f)
