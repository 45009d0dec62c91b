-- Macro sets passed: document 01's bench example and others, each over the bytes of a file that defines them.
-- Assumes nothing.
use Prim.Native.String.{String}
use mathlib.Core.List.{List}
use mathlib.Core.Path.{◌≡◌, refl}
use Rattle.text.specs.Bytes.{bytes}
use Rattle.definition.specs.Definitions.{Macro}
use Rattle.turns.specs.Runs.{flattened}
use Rattle.turns.specs.Examples.{alone, printing}
use Rattle.passing.specs.Passing.{yes, fault, pass_of}
use Rattle.passing.specs.Chains.{chain_from}
use Rattle.passing.proofs.Computing.{passing}

-- the macros that a file leaves
abbrev macros_of : String → List Macro
macros_of s = (flattened (alone (bytes s)) printing).macros

-- two macros that use each other: the first is named, with 16
pub recursive : pass_of (macros_of "`define A `B\n`define B `A\n") ≡ fault 0 16
unfolding passing
recursive = refl

-- a macro that only reaches a cycle is not at fault itself
pub reaches_cycle : pass_of (macros_of "`define A `B\n`define B `C\n`define C `B\n") ≡ fault 1 16
unfolding passing
reaches_cycle = refl

-- an undefined macro; a list missing; a list with too many arguments; inside a list too
pub undefined : pass_of (macros_of "`define A x `Z\n") ≡ fault 0 13
unfolding passing
undefined = refl

pub no_list : pass_of (macros_of "`define A `F x\n`define F(x) x\n") ≡ fault 0 14
unfolding passing
no_list = refl

pub too_many : pass_of (macros_of "`define A `F(`F(1,2))\n`define F(x) x\n") ≡ fault 0 15
unfolding passing
too_many = refl

-- three macros, each written in the text of the one before
pub passes : pass_of (macros_of "`define A(x) `T(x,`C)\n`define T(a,b) a+b\n`define C c\n") ≡ yes
unfolding passing
passes = refl

pub chained : chain_from (macros_of "`define A(x) `T(x,`C)\n`define T(a,b) a+b\n`define C c\n") (bytes "A") ≡ 2
unfolding passing
chained = refl
