-- One file flattened, for worked examples.
-- Assumes nothing.
use Rattle.std.specs.Prelude.{ℕ, Bool, cond, List, [], ◌∷◌, ◌++◌, length}
use Prim.Native.String.{String}
use Rattle.text.specs.Bytes.{bytes}
use Rattle.handover.specs.Sizes.{HandOver, Rooms}
use Rattle.turns.specs.Runs.{Outcome, flattened}

-- the refusal (0: none), its byte, the replacements, and what is written
pub data Says : Type 0 where
  says : ℕ → ℕ → ℕ → List ℕ → Says

abbrev pub says_of : Outcome → Says
says_of o = says o.number o.byte o.count o.text

-- a hand-over of one file, `top.sv`
abbrev pub alone : List ℕ → HandOver
alone s =
    record {
      store = bytes "top.sv" ++ s;
      table = (0 ∷ 0 ∷ 6 ∷ 6 ∷ length s ∷ []) ∷ [];
      root = 0;
      starts = [];
      set = 3;
      limit = 100000;
    }

-- the printing program's rooms
abbrev pub printing : Rooms
printing = record { text = 4096; map = 4096; records = 4096; bytes = 4096 }

abbrev pub flat : String → Says
flat s = says_of (flattened (alone (bytes s)) printing)

-- a variant: which of four names are defined before the file's text
pub record Variant : Type 0 where
  pub fast : Bool
  pub wide : Bool
  pub spare : Bool
  pub logged : Bool

abbrev pub defines_of : Variant → List ℕ
defines_of v =
    cond v.fast (bytes "`define FAST\n") [] ++ cond v.wide (bytes "`define WIDE\n") [] ++ cond v.spare (bytes "`define SPARE\n") [] ++
    cond v.logged (bytes "`define LOGGED\n") []

-- the flat text of a file in a variant
abbrev pub text_in : Variant → String → List ℕ
text_in v s = (flattened (alone (defines_of v ++ bytes s)) printing).text

-- "Our variants nest four deep for want of this": four conditionals, each in the one before, and one condition
abbrev pub four_deep : String
four_deep = "`ifdef FAST`ifdef WIDE`ifndef SPARE`ifdef LOGGED\nring r();\n`endif`endif`endif`endif\n"

abbrev pub one_condition : String
one_condition = "`ifdef (FAST && WIDE && !SPARE && LOGGED)\nring r();\n`endif\n"
