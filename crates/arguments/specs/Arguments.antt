-- Argument lists: "sought in that same list (in the file, for the first usage)".
-- Assumes nothing.
use Rattle.std.specs.Prelude.{ℕ, cond, List, [], ◌∷◌, eqb}
use Rattle.pending.specs.Pending.{Pending, View, blanks, calls, names, opens, closes, commas, bars, plain, view}

-- what a token does in a list; due: the closing brackets due inside the list's own
pub data Move : Type 0 where
  keep : List ℕ → Move  -- a part of the argument; these are due after it
  part : Move  -- ends the argument, another begins
  close : Move  -- ends the list
  fail : ℕ → ℕ → Move  -- refused, with the place of 2 to 6

-- 14: "closing bracket of the wrong kind"
abbrev pub closing : ℕ → List ℕ → Move
closing b [] = cond (eqb b 41) close (fail 14 0)
closing b (c ∷ due) = cond (eqb b c) (keep due) (fail 14 0)

-- "Commas and brackets inside `()`, `[]`, `{}`, .. don't separate"
abbrev pub comma : List ℕ → Move
comma [] = part
comma (c ∷ due) = keep (c ∷ due)

abbrev pub move_of : View → List ℕ → Move
move_of blanks due = keep due
move_of (calls w) due = keep due
move_of (names w) due = keep due
move_of (opens c) due = keep (c ∷ due)
move_of (closes b) due = closing b due
move_of commas due = comma due
move_of (bars n i) due = fail n i
move_of plain due = keep due

-- a list as read: its first argument ("a list always has at least one argument"), the others, and what follows; or refused
pub data Args : Type 0 where
  bad : ℕ → ℕ → Args
  args : List Pending → List (List Pending) → List Pending → Args

abbrev pub push : Pending → Args → Args
push p (bad n i) = bad n i
push p (args a xs r) = args (p ∷ a) xs r

abbrev pub split : Args → Args
split (bad n i) = bad n i
split (args a xs r) = args [] (a ∷ xs) r

abbrev pub after : Move → Pending → List Pending → (List ℕ → Args) → Args
after (keep due) p ps go = push p (go due)
after part p ps go = split (go [])
after close p ps go = args [] [] ps
after (fail n i) p ps go = bad n i

-- the rest of a list after its `(`; 14: "unfinished"
unfoldable pub collect : List Pending → List ℕ → Args
collect [] due = bad 14 0
collect (p ∷ ps) due = after (move_of (view p) due) p ps (λ d. collect ps d)

abbrev pub seek_by : View → Args → Args → Args
seek_by blanks found more = more
seek_by (calls w) found more = bad 14 0
seek_by (names w) found more = bad 14 0
seek_by (opens c) found more = cond (eqb c 41) found (bad 14 0)
seek_by (closes b) found more = bad 14 0
seek_by commas found more = bad 14 0
seek_by (bars n i) found more = bad n i
seek_by plain found more = bad 14 0

-- "white space, newlines and comments before `(` skipped"; 14: "argument list missing"
unfoldable pub seek : List Pending → Args
seek [] = bad 14 0
seek (p ∷ ps) = let found = collect ps [] in let more = seek ps in seek_by (view p) found more
