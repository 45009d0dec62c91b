-- Usages expanded: document 01's bench examples that need no file around them, and its slips.
-- Assumes nothing.
use Prim.Native.Nat.{ℕ}
use Prim.Native.String.{String}
use mathlib.Core.Bool.{true}
use mathlib.Core.List.{List, [], ◌∷◌}
use mathlib.Core.Path.{◌≡◌, refl}
use Rattle.text.specs.Bytes.{bytes}
use Rattle.lex.specs.Tokens.{in_file, name_of, token_at}
use Rattle.lex.specs.declared.Token.{Token}
use Rattle.definition.specs.Definitions.{Macro, Definition, barred, bad, good, definition_at}
use Rattle.definition.proofs.Computing.{defining}
use Rattle.store.specs.Stores.{define}
use Rattle.writing.specs.Written.{text_of, Room}
use Rattle.expand.specs.Expanding.{Outer, Expansion, expand}
use Rattle.expand.proofs.Computing.{expanding}

-- a usage's refusal (0: none), its replacements, and what is written
pub data Says : Type 0 where
  says : ℕ → ℕ → List ℕ → Says

abbrev says_of : Expansion → Says
says_of e = says e.stop e.count (text_of e.text)

-- the macros with one more, if its definition is good
abbrev also : Definition → List Macro → List Macro
also (barred n i) ms = ms
also (bad e) ms = ms
also (good m e) ms = define m ms

-- the macros of definitions, each a text that begins with "`define"
abbrev pub defined : List String → List Macro
defined [] = []
defined (d ∷ ds) = also (definition_at (bytes d) 7) (defined ds)

-- in line 1 of the root file
abbrev top : Outer
top = record { file = bytes "\"top.sv\""; line = bytes "1"; place = 1 }

-- the printing program's rooms
abbrev lent : Room
lent = record { bytes = 4096; lines = 4096; fresh = true }

abbrev used_by : List Macro → List ℕ → Token → Says
used_by ms s t = says_of (expand 100000 top ms lent (name_of s t) s t.end)

-- the usage that a file begins with, after these definitions
abbrev pub used : List String → String → Says
used ds u = used_by (defined ds) (bytes u) (token_at in_file (bytes u) 0)

-- usages in arguments
pub nested : used ("`define TOP(a,b) a + b" ∷ []) "`TOP( `TOP(b,1), `TOP(42,a) )" ≡ says 0 3 (bytes "b + 1 + 42 + a")
unfolding defining expanding define
nested = refl

-- an empty argument and a missing one take their defaults
pub defaults :
    used ("`define MACRO2(a=5, b, c=\"C\") $display(a,,b,,c);" ∷ []) "`MACRO2( , 2)" ≡
    says 0 1 (bytes "$display(5,,2,,\"C\");")
unfolding defining expanding define
defaults = refl

-- one argument for two formals
pub too_few : used ("`define D(x,y) [x|y]" ∷ []) "`D(\"m\")" ≡ says 15 0 []
unfolding defining expanding define
too_few = refl

-- three empty arguments for two formals
pub too_many : used ("`define D(x,y) [x|y]" ∷ []) "`D(,,)" ≡ says 15 0 []
unfolding defining expanding define
too_many = refl

-- two empty arguments for two formals
pub both_empty : used ("`define D(x,y) [x|y]" ∷ []) "`D(,)" ≡ says 0 1 (bytes "[|]")
unfolding defining expanding define
both_empty = refl

-- two macros that use each other
pub recursive : used ("`define A `B" ∷ "`define B `A" ∷ []) "`A" ≡ says 16 2 []
unfolding defining expanding define
recursive = refl

-- formals are not replaced inside an argument
pub formal_in_argument : used ("`define F(x,y) x y" ∷ []) "`F(y,z)" ≡ says 0 1 (bytes "y z")
unfolding defining expanding define
formal_in_argument = refl

-- self_use in an argument is no recursion
pub self_use : used ("`define NEXT(x) x + 1" ∷ []) "`NEXT(`NEXT(`NEXT(2)))" ≡ says 0 3 (bytes "2 + 1 + 1 + 1")
unfolding defining expanding define
self_use = refl

-- nor is it in an argument that macro text gives
pub self_use_in_text : used ("`define NEXT(x) x + 1" ∷ "`define TWICE(x) `NEXT(`NEXT(x))" ∷ []) "`TWICE(2)" ≡ says 0 3 (bytes "2 + 1 + 1")
unfolding defining expanding define
self_use_in_text = refl

-- but in the macro's own text it is
pub self_use_of_text : used ("`define NEXT(x) `NEXT(x)" ∷ []) "`NEXT(2)" ≡ says 16 1 []
unfolding defining expanding define
self_use_of_text = refl
