-- One usage in a file expanded to its end.
-- Assumes nothing.
use Rattle.std.specs.Prelude.{ℕ, zero, suc, max, cond, List, [], ◌∷◌, ◌++◌, eqb, ltb, length}
use Rattle.lex.specs.Tokens.{Escaped, Quote, EscapedQuote, Joiner, Grave}
use Rattle.names.specs.Names.{FileWord, directive_of}
use Rattle.definition.specs.Definitions.{Macro}
use Rattle.writing.specs.Written.{Written, placed, Room, Put, full, fitted, put_in}
use Rattle.pending.specs.Pending.{Pending, file_from, view, on_usage}
use Rattle.replace.specs.Replacing.{Got, refused, got, replace, deepest}

-- the outermost usage: what the two `__` words write there, and its place as the map has it
pub record Outer : Type 0 where
  pub file : List ℕ
  pub line : List ℕ
  pub place : ℕ

-- "`__FILE__` and `__LINE__` write the quoted entry name and the decimal line, of the outermost usage"
abbrev pub word_writes : Outer → List ℕ → List ℕ
word_writes o w = cond (eqb (directive_of w) FileWord) o.file o.line

-- "an escaped name itself and one space"
abbrev pub spelled : Pending → List ℕ
spelled p = cond (eqb p.kind Escaped) (p.bytes ++ (32 ∷ [])) p.bytes

-- "Quote mark writes `"`, escaped quote mark `\"`, joiner nothing"
unfoldable pub writes : Outer → Pending → List ℕ
writes o p =
    cond (eqb p.kind Quote) (34 ∷ [])
    (cond (eqb p.kind EscapedQuote) (92 ∷ 34 ∷ [])
    (cond (eqb p.kind Joiner) []
    (cond (eqb p.kind Grave) (word_writes o p.name)
    (spelled p))))

-- from here on: what is written, the replacements, the deepest set, the refusal (0: none) with the place of 2 to 6; the room left
pub record Expansion : Type 0 where
  pub text : List Written
  pub count : ℕ
  pub depth : ℕ
  pub stop : ℕ
  pub place : ℕ
  pub room : Room

abbrev pub ends : ℕ → ℕ → Room → Expansion
ends n i r = record { text = []; count = 0; depth = 0; stop = n; place = i; room = r }

abbrev pub writing : List Written → Expansion → Expansion
writing ws e =
    record { text = ws ++ e.text; count = e.count; depth = e.depth; stop = e.stop; place = e.place; room = e.room }

abbrev pub replacing : ℕ → Expansion → Expansion
replacing d e =
    record { text = e.text; count = suc e.count; depth = max d e.depth; stop = e.stop; place = e.place; room = e.room }

-- the rest of an expansion after a replacement: what was put in, what follows it, the room
abbrev pub Next : Type 0
Next = List Pending → List Pending → Room → Expansion

abbrev pub on_got : Next → Room → Got → Expansion
on_got go r (refused n i) = ends n i r
on_got go r (got q rest) = go q rest r

abbrev pub on_put : List Written → Room → Put → (Room → Expansion) → Expansion
on_put ws r (full n) go = ends n 0 r
on_put ws r (fitted r') go = writing ws (go r')

-- "The first pending token is written, or, if a usage, is replaced"
unfoldable pub walk : Next → Outer → List Macro → Room → List Pending → Expansion
walk go o ms r [] = ends 0 0 r
walk go o ms r (p ∷ ps) =
    let ws = placed 0 o.place (writes o p) in
    on_usage (view p) (on_put ws r (put_in r ws) (λ r'. walk go o ms r' ps)) (λ w. on_got go r (replace ms w p.own ps))

-- 18, then 17: "pending list over 1,024 after a replacement"; n: the replacements left
unfoldable pub onward : ℕ → Outer → List Macro → Next
onward zero o ms q rest r = ends 18 0 r
onward (suc n) o ms q rest r =
    cond (ltb 1024 (length (q ++ rest))) (ends 17 0 r)
    (replacing (deepest q) (walk (onward n o ms) o ms r (q ++ rest)))

-- what a usage of w in the file s is replaced by, whose word ends at i
unfoldable pub first : List Macro → List ℕ → List ℕ → ℕ → Got
first ms w s i = replace ms w [] (file_from s i)

-- where the file goes on behind the usage and its list
abbrev pub goes_on : List ℕ → Got → ℕ
goes_on s (refused n i) = 0
goes_on s (got q []) = length s
goes_on s (got q (p ∷ ps)) = p.at

-- the usage expanded to its end; n: the replacements left. What follows the list in the file is no part of the pending list
unfoldable pub expand : ℕ → Outer → List Macro → Room → List ℕ → List ℕ → ℕ → Expansion
expand n o ms r w s i =
    on_got (λ q rest r'. onward n o ms q [] r') r (first ms w s i)
