-- Where an expansion stands, and how it ends from there.
-- Assumes nothing.
use Rattle.std.specs.Prelude.{ℕ, max, ◌+◌, ◌-◌, ◌*◌, ◌<◌, ◌≤◌, false, ◌≡◌, List, ◌++◌, length, Result, Ok, Err}
use Rattle.std.proofs.lemmas.List.Edits.{sets}
use Rattle.definition.specs.Definitions.{Macro}
use Rattle.sets.specs.Sets.{elem}
use Rattle.store.specs.Buffers.{Stored}
use Rattle.writing.specs.Written.{text_of, map_of, Room}
use Rattle.writing.specs.Buffers.{room_of, spot_after}
use Rattle.writing.specs.declared.Spot.{Spot}
use Rattle.pending.specs.Pending.{Pending}
use Rattle.pending.specs.References.{stacked}
use Rattle.arguments.specs.Ranges.{Ranged, Unplaced}
use Rattle.lex.specs.declared.Fault.{Fault}
use Rattle.packed.specs.declared.Record.{Record}
use Rattle.packed.specs.Records.{Small}
use Rattle.replace.specs.Replacing.{Listed, barred, listed, Got, refused, got, replace_at, deepest}
use Rattle.expand.specs.declared.Stand.{Stand}
use Rattle.expand.specs.declared.Turn.{Turn}
use Rattle.expand.specs.declared.Turn.TheVariants as turn
use Rattle.expand.specs.declared.Expanded.{Expanded}
use Rattle.expand.specs.Expanding.{Outer, Expansion, ends, on_got, walk, onward, first, goes_on, expand}

-- the outermost usage, from what the code is handed
abbrev pub outer : List ℕ → List ℕ → ℕ → Outer
outer file line place = record { file = file; line = line; place = place }

-- what is lent to an expansion, beside the text and the map
pub record Lends (s b : List ℕ) (r : List (List ℕ)) (macros : ℕ) (l o ranges : List (List ℕ)) (brackets : List ℕ) : Type 0 where
  pub file_small : length s ≤ 65535
  pub bytes_small : length b ≤ 65536
  pub few_macros : macros ≤ 256
  pub stored : Stored b r macros
  pub list_lent : 1024 ≤ length l
  pub out_lent : 1024 ≤ length o
  pub ranges_lent : 256 ≤ length ranges
  pub brackets_lent : 16384 ≤ length brackets

-- a place in the lent text and map
pub record Within (text map : List ℕ) (z : Spot) : Type 0 where
  pub in_text : z.written ≤ length text
  pub in_map : z.lines ≤ length map

-- what is lent to write a token
pub record Spells (s b work text map : List ℕ) (z : Spot) : Type 0 where
  pub file_small : length s ≤ 65535
  pub bytes_small : length b ≤ 65536
  pub work_lent : 65539 ≤ length work
  pub spot : Within text map z

-- what a usage names: a macro that is not in its set, or 13 or 16
abbrev pub CalledBy : Result ℕ ℕ → Result ℕ ℕ → List Macro → List ℕ → ℕ → Type 0
CalledBy (Ok i) f ms set n = (f ≡ Ok i) × (elem i set ≡ false) × (i < n)
CalledBy (Err k) f ms set n = (ps : List Pending) → replace_at f ms set ps ≡ refused k 0

-- the list of a usage, its arguments in ranges
pub record Accepts (g : Listed) (f : ℕ → List Pending) (last : ℕ) (ranges : List (List ℕ)) (c e : ℕ) : Type 0 where
  pub arguments : List (List Pending)
  pub shape : g ≡ listed arguments (f e)
  pub count : c ≡ length arguments
  pub ranged : Ranged f last ranges arguments
  pub unplaced : Unplaced ranges c
  pub within : e ≤ last

abbrev pub AcceptedBy : Result (ℕ × ℕ) Fault → Listed → (ℕ → List Pending) → ℕ → List (List ℕ) → Type 0
AcceptedBy (Ok l) g f last ranges = Accepts g f last ranges l.0 l.1
AcceptedBy (Err e) g f last ranges = g ≡ barred e.number e.place

-- what is lent to put the text of macro i on the first `base` pending tokens
pub record PutsIn (b : List ℕ) (q : Record) (i : ℕ) (l : List (List ℕ)) (n base : ℕ) (ranges o : List (List ℕ)) : Type 0 where
  pub bytes_small : length b ≤ 65536
  pub record_small : Small q
  pub macro_small : i < 256
  pub filled : n ≤ length l
  pub base_small : base ≤ 1024
  pub list_lent : 1024 ≤ length l
  pub out_lent : 1024 ≤ length o
  pub ranges_lent : 256 ≤ length ranges

-- the replacements left
abbrev pub left_of : ℕ → Stand → ℕ
left_of limit z = limit - z.count

-- the stand after a replacement: n pending tokens, the new ones with sets of at most d members
abbrev pub replaced_to : Stand → ℕ → ℕ → Stand
replaced_to z n d = record { depth = n; count = z.count + 1; deepest = max z.deepest d; spot = z.spot }

-- the stand behind a token that was written
abbrev pub written_to : Stand → Spot → Stand
written_to z y = record { depth = z.depth - 1; count = z.count; deepest = z.deepest; spot = y }

-- q stands in the place of a usage before `rest`
pub record Puts (s b : List ℕ) (l' : List (List ℕ)) (q rest : List Pending) (limit : ℕ) (z z' : Stand) : Type 0 where
  pub allowed : z.count < limit
  pub few : length (q ++ rest) ≤ 1024
  pub stand : z' ≡ replaced_to z (length (q ++ rest)) (deepest q)
  pub tokens : stacked s b l' (length (q ++ rest)) ≡ q ++ rest

-- or 18 or 17 refuses it
abbrev pub PutBy : Turn → List ℕ → List ℕ → List (List ℕ) → List Pending → List Pending → ℕ → Stand → Type 0
PutBy (turn.On z') s b l' q rest limit z = Puts s b l' q rest limit z z'
PutBy (turn.Ended k p) s b l' q rest limit z =
    (o : Outer) (ms : List Macro) (r : Room) → onward (left_of limit z) o ms q rest r ≡ ends k p r

-- a usage was replaced by what g says
pub record Replaces (s b : List ℕ) (l' : List (List ℕ)) (g : Got) (limit : ℕ) (z z' : Stand) : Type 0 where
  pub new : List Pending
  pub rest : List Pending
  pub shape : g ≡ got new rest
  pub puts : Puts s b l' new rest limit z z'

abbrev pub ReplacedBy : Turn → List ℕ → List ℕ → List (List ℕ) → Got → List Macro → ℕ → Stand → Type 0
ReplacedBy (turn.On z') s b l' g ms limit z = Replaces s b l' g limit z z'
ReplacedBy (turn.Ended k p) s b l' g ms limit z =
    (o : Outer) (r : Room) → on_got (onward (left_of limit z) o ms) r g ≡ ends k p r

-- the rest of the expansion at a stand
abbrev pub rest_of : Outer → List Macro → List ℕ → List ℕ → List (List ℕ) → ℕ → List ℕ → List ℕ → Stand → Expansion
rest_of o ms s b l limit text map z =
    walk (onward (left_of limit z) o ms) o ms (room_of (length text) (length map) z.spot) (stacked s b l z.depth)

-- the answer to an expansion that goes on as e says; next: where the file goes on behind the usage
abbrev pub answer_of : ℕ → Stand → Expansion → Expanded
answer_of next z e =
    record {
      number = e.stop;
      place = e.place;
      next = next;
      count = z.count + e.count;
      deepest = max z.deepest e.depth;
      spot = spot_after z.spot e.text;
    }

-- the answer where nothing goes on
abbrev pub stopped_at : ℕ → ℕ → ℕ → Stand → Expanded
stopped_at n p next z =
    record { number = n; place = p; next = next; count = z.count; deepest = z.deepest; spot = z.spot }

-- how it all ends
pub record Final : Type 0 where
  pub answer : Expanded
  pub text : List ℕ
  pub map : List ℕ

abbrev pub finish : ℕ → List ℕ → List ℕ → Stand → Expansion → Final
finish next text map z e =
    record {
      answer = answer_of next z e;
      text = sets text z.spot.written (text_of e.text);
      map = sets map z.spot.lines (map_of z.spot.fresh e.text);
    }

-- a stand within what is lent
pub record Stands (text map : List ℕ) (z : Stand) : Type 0 where
  pub few : z.depth ≤ 1024
  pub spot : Within text map z.spot

-- what falls with each token written and each usage replaced
abbrev pub weight_of : ℕ → Stand → ℕ
weight_of limit z = left_of limit z * 1025 + z.depth

-- a token was written or a usage replaced, and the rest ends as all did; or this was the end
pub record Goes (o : Outer) (ms : List Macro) (s b : List ℕ) (l l' : List (List ℕ)) (limit : ℕ) (text text' map map' : List ℕ) (z z' : Stand) : Type 0 where
  pub same_end :
      (next : ℕ) → finish next text map z (rest_of o ms s b l limit text map z) ≡
      finish next text' map' z' (rest_of o ms s b l' limit text' map' z')
  pub less : weight_of limit z' < weight_of limit z
  pub stands : Stands text' map' z'

abbrev pub SteppedBy : Turn → Outer → List Macro → List ℕ → List ℕ → List (List ℕ) → List (List ℕ) → ℕ → List ℕ → List ℕ → List ℕ → List ℕ → Stand → Type 0
SteppedBy (turn.On z') o ms s b l l' limit text text' map map' z = Goes o ms s b l l' limit text text' map map' z z'
SteppedBy (turn.Ended k p) o ms s b l l' limit text text' map map' z =
    (rest_of o ms s b l limit text map z ≡ ends k p (room_of (length text) (length map) z.spot)) × (text' ≡ text) × (map' ≡ map)

-- the answer, the text and the map at the end are those of the expansion e from the stand z on
pub record Ends (next : ℕ) (text text' map map' : List ℕ) (z : Stand) (e : Expansion) (r : Expanded) : Type 0 where
  pub answer : r ≡ answer_of next z e
  pub text_is : text' ≡ sets text z.spot.written (text_of e.text)
  pub map_is : map' ≡ sets map z.spot.lines (map_of z.spot.fresh e.text)

-- .. of a usage of w in the file s, whose word ends at i
abbrev pub Expands : Outer → List Macro → ℕ → List ℕ → List ℕ → ℕ → List ℕ → List ℕ → List ℕ → List ℕ → Stand → Expanded → Type 0
Expands o ms limit w s i text text' map map' z r =
    Ends (goes_on s (first ms w s i)) text text' map map' z
    (expand (left_of limit z) o ms (room_of (length text) (length map) z.spot) w s i) r
