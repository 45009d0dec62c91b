-- What a usage writes is made of pieces.
-- Assumes nothing.
use Prim.Native.Nat.{ℕ, zero, suc}
use mathlib.Core.List.{List, [], ◌∷◌, ◌++◌}
use lib.Dec.{ltb}
use lib.ListN.{length}
use Rattle.lex.proofs.Tests.{by_test}
use Rattle.definition.specs.Definitions.{Macro}
use Rattle.writing.specs.Written.{Written, placed, text_of, Room, Put, full, fitted, put_in}
use Rattle.writing.proofs.Laws.{text_placed, text_append}
use Rattle.pending.specs.Pending.{Pending, file_from, view}
use Rattle.pending.proofs.Viewing.{by_usage}
use Rattle.replace.specs.Replacing.{Got, refused, got, replace}
use Rattle.expand.specs.Expanding.{Outer, writes, Expansion, Next, on_got, on_put, walk, onward, first, expand}
use Rattle.macros.proofs.Each.{Each, each_none, each_append}
use Rattle.turns.specs.States.{Context}
use Rattle.turns.specs.Files.{file_of, Accented}
use Rattle.claims.specs.Pieces.{outer_at, Source, Piece, expanded, Pieces, none, then}
use Rattle.claims.proofs.PiecesMacros.{AllKnown}
use Rattle.claims.proofs.PiecesSources.{Sources, GotFrom, replace_from, InFile, file_each}

-- ---- bytes written

-- what is written is made of pieces
abbrev pub Made : Context → List Written → Type 0
Made x ws = Pieces x (text_of ws)

pub made_none : (x : Context) → Made x []
unfolding text_of
made_none x = none

-- a piece in front
pub made_then : (x : Context) (step p : ℕ) (b : List ℕ) (ws : List Written) → Piece x b → Made x ws → Made x (placed step p b ++ ws)
made_then x step p b ws h g = rw (text_append (placed step p b) ws, text_placed step p b) (then h g)

-- ---- a usage at p of file i

module _ (x : Context) (i p : ℕ) (a : Accented x i p 0) (ms : List Macro) (known : AllKnown x ms) where
  abbrev o : Outer
  o = outer_at x i p

  abbrev Gives : Expansion → Type 0
  Gives e = Made x e.text

  put_made : (b : List ℕ) (r : Room) (y : Put) (go : Room → Expansion) → Piece x b → ((r' : Room) → Gives (go r'))
      → Gives (on_put (placed 0 o.place b) r y go)
  put_made b r (full n) go h g = made_none x
  put_made b r (fitted r') go h g = made_then x 0 o.place b (go r').text h (g r')

  -- go: the rest of the expansion after a replacement
  module _ (go : Next) (rest-made : (q rest : List Pending) (r : Room) → Sources x i q → Sources x i rest → Gives (go q rest r)) where
    got_made : (r : Room) (g : Got) → GotFrom x i (Source x i) (λ p h e. h) g → Gives (on_got go r g)
    unfolding GotFrom
    got_made r (refused n j) h = made_none x
    got_made r (got q rest) h = rest-made q rest r h.0 h.1

    walk_made : (r : Room) (ps : List Pending) → Sources x i ps → Gives (walk go o ms r ps)
    unfolding Each walk
    walk_made r [] h = made_none x
    walk_made r (q ∷ ps) h =
        let ws = placed 0 o.place (writes o q) in
        by_usage Gives (view q)
        (λ e. put_made (writes o q) r (put_in r ws) (λ r'. walk go o ms r' ps) (expanded i p q a h.0 e) (λ r'. walk_made r' ps h.1))
        (λ w e. got_made r (replace ms w q.own ps) (replace_from x i (Source x i) (λ p h e. h) ms w q.own ps known h.1))

  onward_made : (n : ℕ) (q rest : List Pending) (r : Room) → Sources x i q → Sources x i rest → Gives (onward n o ms q rest r)
  unfolding onward
  onward_made zero q rest r h g = made_none x
  onward_made (suc n) q rest r h g =
      by_test Gives (ltb 1024 (length (q ++ rest))) (λ e. made_none x)
      (λ e. walk_made (onward n o ms) (λ q rest r h g. onward_made n q rest r h g) r (q ++ rest) (each_append (Source x i) q rest h g))

  first_made : (n : ℕ) (r : Room) (g : Got) → GotFrom x i (InFile x i) (λ p h e. h e) g → Gives (on_got (λ q rest r'. onward n o ms q [] r') r g)
  unfolding GotFrom
  first_made n r (refused k j) h = made_none x
  first_made n r (got q rest) h = onward_made n q [] r h.0 (each_none (Source x i))

  pub expand_made : (n : ℕ) (r : Room) (w : List ℕ) (j : ℕ) → Gives (expand n o ms r w (file_of x i) j)
  unfolding expand first
  expand_made n r w j =
      first_made n r (first ms w (file_of x i) j)
      (replace_from x i (InFile x i) (λ p h e. h e) ms w [] (file_from (file_of x i) j) known (file_each x i a.read.file_in j))
