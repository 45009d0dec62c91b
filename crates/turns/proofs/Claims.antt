-- Files flattened: document 01's bench examples, each over the bytes of a file.
-- Assumes nothing.
use mathlib.Core.Bool.{Bool, true, false}
use mathlib.Core.Path.{◌≡◌, refl}
use Rattle.text.specs.Bytes.{bytes}
use Rattle.turns.specs.Examples.{says, flat, Variant, text_in, four_deep, one_condition}
use Rattle.turns.proofs.Computing.{flattening}

-- an ignored block does not end at a directive inside a definition
pub hidden : flat "`ifdef X\n`define Y `endif\na\n`endif\nb\n" ≡ says 0 0 0 (bytes "\nb\n")
unfolding flattening
hidden = refl

-- usages in arguments
pub nested : flat "`define TOP(a,b) a + b\n`TOP( `TOP(b,1), `TOP(42,a) )" ≡ says 0 0 3 (bytes "\nb + 1 + 42 + a")
unfolding flattening
nested = refl

-- an empty argument and a missing one take their defaults
pub defaults :
    flat "`define MACRO2(a=5, b, c=\"C\") $display(a,,b,,c);\n`MACRO2( , 2)" ≡ says 0 0 1 (bytes "\n$display(5,,2,,\"C\");")
unfolding flattening
defaults = refl

-- one argument, and three, for two formals
pub too_few : flat "`define D(x,y) [x|y]\n`D(\"m\")" ≡ says 15 21 0 (bytes "\n")
unfolding flattening
too_few = refl

pub too_many : flat "`define D(x,y) [x|y]\n`D(,,)" ≡ says 15 21 0 (bytes "\n")
unfolding flattening
too_many = refl

pub both_empty : flat "`define D(x,y) [x|y]\n`D(,)" ≡ says 0 0 1 (bytes "\n[|]")
unfolding flattening
both_empty = refl

-- two macros that use each other
pub recursive : flat "`define A `B\n`define B `A\n`A" ≡ says 16 26 2 (bytes "\n\n")
unfolding flattening
recursive = refl

-- 02, P1: a nest of four conditionals and one condition, in each of the sixteen variants
same : (fast wide spare logged : Bool)
    → text_in (record { fast = fast; wide = wide; spare = spare; logged = logged }) four_deep ≡ text_in (record { fast = fast; wide = wide; spare = spare; logged = logged }) one_condition
unfolding flattening
same true true true true = refl
same true true true false = refl
same true true false true = refl
same true true false false = refl
same true false true true = refl
same true false true false = refl
same true false false true = refl
same true false false false = refl
same false true true true = refl
same false true true false = refl
same false true false true = refl
same false true false false = refl
same false false true true = refl
same false false true false = refl
same false false false true = refl
same false false false false = refl

pub four-deep : (v : Variant) → text_in v four_deep ≡ text_in v one_condition
four-deep v = same v.fast v.wide v.spare v.logged

-- a condition is refused at the token that does not fit, in ignored text too
pub unfit : flat "`ifdef X\n`ifdef (A &\n`endif\n`endif\n" ≡ says 7 19 0 (bytes "")
unfolding flattening
unfit = refl

-- 7 before 8: an `elsif` with no conditional open
pub seven_first : flat "`elsif (A\n" ≡ says 7 9 0 (bytes "")
unfolding flattening
seven_first = refl

-- a directive's name is not defined, and cannot be
pub directive_name : flat "`ifdef (define)\nx\n`endif\n`define define\n" ≡ says 11 25 0 (bytes "\n")
unfolding flattening
directive_name = refl
