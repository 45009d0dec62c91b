-- The claim over flatten, classify and pass: 01's starred bench examples, conditions, what holds of every hand-over, and demand 3.
-- Assumes nothing.
use Rattle.std.specs.Prelude.{ℕ, ◌≤◌, Bool, true, false, List, [], ◌∷◌, ◌≡◌, eqb, length, get_or}
use Rattle.text.specs.Bytes.{bytes}
use Rattle.lex.specs.declared.Token.{Token}
use Rattle.writing.specs.Buffers.{lines_in}
use Rattle.conditions.specs.Grammar.{condition_at}
use Rattle.conditions.specs.Forms.{SameForm}
use Rattle.handover.specs.Sizes.{HandOver, Rooms, is_sound}
use Rattle.turns.specs.Runs.{context_of, start_of, flattened}
use Rattle.turns.specs.Mapping.{InFile, All}
use Rattle.turns.specs.Examples.{says, flat, Variant, text_in, four_deep, one_condition}
use Rattle.classify.specs.Words.{Words}
use Rattle.classify.specs.Answer.{outcome_of}
use Rattle.claims.specs.Growing.{Larger, Grows}
use Rattle.claims.specs.Refused.{PlacedIn, NumberedIn}
use Rattle.claims.specs.Pieces.{Kept, Piece, Pieces}
use Rattle.claims.specs.NothingDropped.{NothingDropped}
use Rattle.claims.specs.Demands.{DemandThree}

abbrev pub only : List (List ℕ) → Words
only ws = record { words = ws; number = 0; place = 0 }

-- "From her bench (starred: proved under one claim)": `flat s` says the refusal, its byte, the replacements and the text
pub record Bench : Type 0 where
  pub nested : flat "`define TOP(a,b) a + b\n`TOP( `TOP(b,1), `TOP(42,a) )" ≡ says 0 0 3 (bytes "\nb + 1 + 42 + a")
  pub defaults :
      flat "`define MACRO2(a=5, b, c=\"C\") $display(a,,b,,c);\n`MACRO2( , 2)" ≡ says 0 0 1 (bytes "\n$display(5,,2,,\"C\");")
  pub too_few : flat "`define D(x,y) [x|y]\n`D(\"m\")" ≡ says 15 21 0 (bytes "\n")
  pub too_many : flat "`define D(x,y) [x|y]\n`D(,,)" ≡ says 15 21 0 (bytes "\n")
  pub both_empty : flat "`define D(x,y) [x|y]\n`D(,)" ≡ says 0 0 1 (bytes "\n[|]")
  pub recursive : flat "`define A `B\n`define B `A\n`A" ≡ says 16 26 2 (bytes "\n\n")
  pub hidden : flat "`ifdef X\n`define Y `endif\na\n`endif\nb\n" ≡ says 0 0 0 (bytes "\nb\n")
  pub reserved : outcome_of 3 (bytes "logic") 1 ≡ only ((0 ∷ 5 ∷ 1 ∷ []) ∷ [])
  pub unreserved : outcome_of 1 (bytes "logic") 1 ≡ only ((0 ∷ 5 ∷ 0 ∷ []) ∷ [])

-- conditions with operators (02, P1)
pub record Conditions : Type 0 where
  -- "Our variants nest four deep for want of this": in each of the sixteen variants one condition gives the same text
  pub four-deep : (v : Variant) → text_in v four_deep ≡ text_in v one_condition
  -- where a condition ends, and whether and where it is refused, does not depend on what is defined
  pub one_form : (s : List ℕ) (d d' : List ℕ → Bool) (t : Token) → SameForm (condition_at s d t) (condition_at s d' t)

-- of the outcome of a hand-over in these rooms
pub record Always (h : HandOver) (r : Rooms) : Type 0 where
  -- "no byte past a lent end is touched": text and map fit
  pub text_fits : length (flattened h r).text ≤ r.text
  pub map_fits : length (flattened h r).map ≤ r.map
  -- "one number for each written line", each a file of the table and a line of it
  pub map_lines : length (flattened h r).map ≡ lines_in (flattened h r).text
  pub map_places : All (InFile (context_of h r)) (flattened h r).map
  -- "one numbered refusal with its file, line and byte": 1 exactly if the hand-over is not sound, else 2 to 20, placed in a file
  pub one_exactly : (flattened h r).number ≡ 1 → is_sound h r ≡ false
  pub unsound_one : is_sound h r ≡ false → (flattened h r).number ≡ 1
  pub refused_placed : is_sound h r ≡ true → ((flattened h r).number ≡ 0 → ⊥) → PlacedIn h (flattened h r)
  pub refused_number : is_sound h r ≡ true → ((flattened h r).number ≡ 0 → ⊥) → NumberedIn (flattened h r)
  -- with more room the text only grows, and nothing else changes but a refusal for room
  pub larger_grows : (r' : Rooms) → Larger r r' → is_sound h r' ≡ true → Grows (flattened h r) (flattened h r')
  -- "no macro, include or conditional left": the text is made of tokens and directives copied, of newlines behind files, of the two
  -- `__` words and of tokens of expansions that are no usages; of these only a directive that is kept begins with a grave accent
  pub from_pieces : Pieces (context_of h r) (flattened h r).text
  pub accents_kept : (b : List ℕ) → Piece (context_of h r) b → eqb (get_or b 0 0) 96 ≡ true → Kept (context_of h r) b
  -- nothing is dropped: each file read is taken stretch by stretch, without gap or overlap, and the text is what these wrote
  pub nothing_dropped : is_sound h r ≡ true → NothingDropped h r (context_of h r) (start_of h r)

pub record Claim : Type 0 where
  pub bench : Bench
  pub conditions : Conditions
  pub always : (h : HandOver) (r : Rooms) → Always h r
  pub demand_three : DemandThree
