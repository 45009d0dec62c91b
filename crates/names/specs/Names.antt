-- The directive names, "001's list, `keywords` and `endkeywords`", each with a number; and the tables of words that
-- stand for a number.
-- Assumes nothing.
use Prim.Native.String.{String}
use Rattle.std.specs.Prelude.{ℕ, Bool, cond, List, [], ◌∷◌, ltb}
use Rattle.text.specs.Bytes.{bytes, same}

-- the two words that macro text may hold, `__FILE__` and `__LINE__`
abbrev pub FileWord : ℕ
FileWord = 1

abbrev pub LineWord : ℕ
LineWord = 2

abbrev pub Define : ℕ
Define = 3

abbrev pub Undef : ℕ
Undef = 4

abbrev pub UndefineAll : ℕ
UndefineAll = 5

abbrev pub Ifdef : ℕ
Ifdef = 6

abbrev pub Ifndef : ℕ
Ifndef = 7

abbrev pub Elsif : ℕ
Elsif = 8

abbrev pub Else : ℕ
Else = 9

abbrev pub Endif : ℕ
Endif = 10

abbrev pub Include : ℕ
Include = 11

abbrev pub Resetall : ℕ
Resetall = 12

abbrev pub Timescale : ℕ
Timescale = 13

abbrev pub DefaultNettype : ℕ
DefaultNettype = 14

abbrev pub Celldefine : ℕ
Celldefine = 15

abbrev pub EndCelldefine : ℕ
EndCelldefine = 16

abbrev pub UnconnectedDrive : ℕ
UnconnectedDrive = 17

abbrev pub NoUnconnectedDrive : ℕ
NoUnconnectedDrive = 18

abbrev pub BeginKeywords : ℕ
BeginKeywords = 19

abbrev pub EndKeywords : ℕ
EndKeywords = 20

abbrev pub Keywords : ℕ
Keywords = 21

-- `endkeywords`
abbrev pub OldEndKeywords : ℕ
OldEndKeywords = 22

abbrev pub Line : ℕ
Line = 23

abbrev pub Pragma : ℕ
Pragma = 24

pub data Pair : Type 0 where
  pair : String → ℕ → Pair

-- the number of the word w in a table, else d
unfoldable pub number_in : List Pair → ℕ → List ℕ → ℕ
number_in [] d w = d
number_in (pair x n ∷ ps) d w =
    let r = number_in ps d w in
    cond (same w (bytes x)) n r

-- of macros and conditionals
unfoldable pub macro_directives : List Pair
macro_directives =
    pair "define" Define ∷ pair "undef" Undef ∷ pair "undefineall" UndefineAll ∷ pair "ifdef" Ifdef ∷
    pair "ifndef" Ifndef ∷ pair "elsif" Elsif ∷ pair "else" Else ∷ pair "endif" Endif ∷ []

-- of files and of the state of a design
unfoldable pub state_directives : List Pair
state_directives =
    pair "include" Include ∷ pair "resetall" Resetall ∷ pair "timescale" Timescale ∷
    pair "default_nettype" DefaultNettype ∷ pair "celldefine" Celldefine ∷ pair "endcelldefine" EndCelldefine ∷
    pair "unconnected_drive" UnconnectedDrive ∷ pair "nounconnected_drive" NoUnconnectedDrive ∷ []

-- of keywords, left out, and the two `__` words
unfoldable pub other_directives : List Pair
other_directives =
    pair "begin_keywords" BeginKeywords ∷ pair "end_keywords" EndKeywords ∷ pair "keywords" Keywords ∷
    pair "endkeywords" OldEndKeywords ∷ pair "line" Line ∷ pair "pragma" Pragma ∷ pair "__FILE__" FileWord ∷
    pair "__LINE__" LineWord ∷ []

-- the number of the directive of that name; 0: none
unfoldable pub other_of : List ℕ → ℕ
other_of w = number_in other_directives 0 w

unfoldable pub state_of : List ℕ → ℕ
state_of w = number_in state_directives (other_of w) w

unfoldable pub directive_of : List ℕ → ℕ
directive_of w = number_in macro_directives (state_of w) w

abbrev pub is_directive : List ℕ → Bool
is_directive w = ltb 0 (directive_of w)

-- "directive in the text (the two `__` words are allowed)"
abbrev pub bars_text : List ℕ → Bool
bars_text w = ltb 2 (directive_of w)

-- no word of the table
abbrev pub Unknown : ℕ
Unknown = 99

-- "s ms us ns ps fs" as powers of ten, 1 fs is 0
unfoldable pub unit_of : List ℕ → ℕ
unit_of w = number_in (pair "s" 15 ∷ pair "ms" 12 ∷ pair "us" 9 ∷ pair "ns" 6 ∷ pair "ps" 3 ∷ pair "fs" 0 ∷ []) Unknown w

-- "wire tri tri0 tri1 wand triand wor trior trireg uwire none", numbered from 0
unfoldable pub nettype_of : List ℕ → ℕ
nettype_of w =
    number_in
    (pair "wire" 0 ∷ pair "tri" 1 ∷ pair "tri0" 2 ∷ pair "tri1" 3 ∷ pair "wand" 4 ∷ pair "triand" 5 ∷ pair "wor" 6 ∷
    pair "trior" 7 ∷ pair "trireg" 8 ∷ pair "uwire" 9 ∷ pair "none" 10 ∷ [])
    Unknown w

-- "pull0 or pull1"; 0 is no drive
unfoldable pub drive_of : List ℕ → ℕ
drive_of w = number_in (pair "pull0" 1 ∷ pair "pull1" 2 ∷ []) Unknown w

-- "Versions", with their quotes
unfoldable pub version_of : List ℕ → ℕ
version_of w =
    number_in
    (pair "\"1364-1995\"" 0 ∷ pair "\"1364-2001\"" 1 ∷ pair "\"1364-2005\"" 2 ∷ pair "\"1800-2005\"" 3 ∷ []) Unknown w
