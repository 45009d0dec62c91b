-- Tokens in the files of a hand-over, and the openers of conditionals among them.
-- Assumes nothing.
use Rattle.std.specs.Prelude.{ℕ, ◌<◌, true, ◌||◌, List, ◌≡◌, eqb, length}
use Rattle.lex.specs.Tokens.{in_file, Grave, is, name_of, token_at}
use Rattle.lex.specs.declared.Token.{Token}
use Rattle.names.specs.Names.{Ifdef, Ifndef, directive_of}
use Rattle.blocks.specs.Blocks.{Conditional}
use Rattle.handover.specs.Entries.{body_of}
use Rattle.turns.specs.States.{Context}

-- the file of entry i
abbrev pub file_of : Context → ℕ → List ℕ
file_of x i = body_of x.store x.table i

-- the token at p of that file
abbrev pub token_in : Context → ℕ → ℕ → Token
token_in x i p = token_at in_file (file_of x i) p

-- a token at p of file i that nothing bars
pub record Read (x : Context) (i p : ℕ) : Type 0 where
  pub file_in : i < length x.table
  pub inside : p < length (file_of x i)
  pub free : eqb (token_in x i p).bar 0 ≡ true

-- such a token, a grave accent name: of the directive d, or of a usage if d is 0
pub record Accented (x : Context) (i p d : ℕ) : Type 0 where
  pub read : Read x i p
  pub grave : is Grave (token_in x i p) ≡ true
  pub name_is : directive_of (name_of (file_of x i) (token_in x i p)) ≡ d

-- the `ifdef` or `ifndef` that stands at a conditional's place
pub record Opener (x : Context) (c : Conditional) : Type 0 where
  pub directive : ℕ
  pub accented : Accented x c.file c.byte directive
  pub opens : (eqb directive Ifdef || eqb directive Ifndef) ≡ true
