-- How a usage in a file is refused: by one of 2 to 20, with a place in the file.
-- Assumes nothing.
use Prim.Native.Nat.{ℕ, zero, suc, ◌≤◌}
use mathlib.Core.List.{List, [], ◌∷◌, ◌++◌}
use native.Mathlib.Omega.{arith}
use lib.Dec.{ltb}
use lib.ListN.{length}
use Rattle.lex.proofs.Tests.{by_test}
use Rattle.lex.proofs.Progress.{Inside}
use Rattle.lex.proofs.Barring.{Numbered, numbered_none, numbered_some}
use Rattle.definition.specs.Definitions.{Macro}
use Rattle.macros.proofs.Each.{Each, each_append}
use Rattle.writing.specs.Written.{Written, map_of, placed, Room, Put, full, fitted, put_in}
use Rattle.pending.specs.Pending.{Pending, view}
use Rattle.pending.proofs.Viewing.{by_usage}
use Rattle.replace.specs.Replacing.{Got, refused, got, replace, deepest}
use Rattle.expand.specs.Expanding.{Outer, writes, Expansion, ends, Next, on_got, on_put, walk, onward, first, expand}
use Rattle.expand.specs.Expanding as expanding
use Rattle.turns.proofs.Replacing.{Within, PendingIn, AllIn, GotIn, replace_in, first_in}

-- an expansion in the file s that is not refused, or by one of 2 to 20, with a place in s or at its end
pub record ExpansionIn (s : List ℕ) (e : Expansion) : Type 0 where
  pub number_in : Numbered 20 e.stop
  pub place_in : e.place ≤ length s

-- no room: 19 or 20
unfoldable pub PutBars : Put → Type 0
PutBars (full n) = (2 ≤ n) × (n ≤ 20)
PutBars (fitted r) = Unit {0}

pub put_bars : (r : Room) (ws : List Written) → PutBars (put_in r ws)
unfolding PutBars put_in
put_bars r ws =
    by_test PutBars (ltb r.bytes (length ws)) (λ e. (omega arith, omega arith))
    (λ e. by_test PutBars (ltb r.lines (length (map_of r.fresh ws))) (λ e. (omega arith, omega arith)) (λ e. tt))

module _ (s : List ℕ) where
  abbrev Ends : Expansion → Type 0
  Ends e = ExpansionIn s e

  ended : (n p : ℕ) (r : Room) → Numbered 20 n → p ≤ length s → Ends (ends n p r)
  ended n p r h g = record { number_in = h; place_in = g }

  put-in : (ws : List Written) (r : Room) (p : Put) (go : Room → Expansion) → PutBars p → ((r' : Room) → Ends (go r')) → Ends (on_put ws r p go)
  unfolding PutBars
  put-in ws r (full n) go h g = ended n 0 r (numbered_some 20 n h.0 h.1) (omega arith)
  put-in ws r (fitted r') go h g = record { number_in = (g r').number_in; place_in = (g r').place_in }

  abbrev All : List Pending → Type 0
  All ps = AllIn (Within s) ps

  module _ (R : ℕ → Type 0) (go : Next) (g : (q rest : List Pending) (r : Room) → All q → AllIn R rest → Ends (go q rest r)) where
    got_in : (r : Room) (y : Got) → GotIn s R y → Ends (on_got go r y)
    unfolding GotIn
    got_in r (refused n i) h = ended n i r (numbered_some 20 n h.low h.high) h.place_in
    got_in r (got q rest) h = g q rest r h.0 h.1

  module _ (go : Next) (g : (q rest : List Pending) (r : Room) → All q → All rest → Ends (go q rest r)) where
    walk_in : (o : Outer) (ms : List Macro) (r : Room) (ps : List Pending) → All ps → Ends (walk go o ms r ps)
    unfolding Each walk
    walk_in o ms r [] h = ended 0 0 r (numbered_none 20) (omega arith)
    walk_in o ms r (p ∷ ps) h =
        let ws = placed 0 o.place (writes o p) in
        by_usage Ends (view p)
        (λ z. put-in ws r (put_in r ws) (λ r'. walk go o ms r' ps) (put_bars r ws) (λ r'. walk_in o ms r' ps h.1))
        (λ w z. got_in (Within s) go g r (replace ms w p.own ps) (replace_in s (Within s) (λ p h. h) ms w p.own ps h.1))

  replaced_in : (d : ℕ) (e : Expansion) → Ends e → Ends (expanding.replacing d e)
  replaced_in d e h = record { number_in = h.number_in; place_in = h.place_in }

  onward_in : (n : ℕ) (o : Outer) (ms : List Macro) (q rest : List Pending) (r : Room) → All q → All rest → Ends (onward n o ms q rest r)
  unfolding onward
  onward_in zero o ms q rest r a b = ended 18 0 r (numbered_some 20 18 (omega arith) (omega arith)) (omega arith)
  onward_in (suc n) o ms q rest r a b =
      by_test Ends (ltb 1024 (length (q ++ rest))) (λ e. ended 17 0 r (numbered_some 20 17 (omega arith) (omega arith)) (omega arith))
      (λ e. replaced_in (deepest q) (walk (onward n o ms) o ms r (q ++ rest))
      (walk_in (onward n o ms) (onward_in n o ms) o ms r (q ++ rest) (each_append (PendingIn (Within s)) q rest a b)))

  pub expand_in : (n : ℕ) (o : Outer) (ms : List Macro) (r : Room) (w : List ℕ) (i : ℕ) → ExpansionIn s (expand n o ms r w s i)
  unfolding Each expand
  expand_in n o ms r w i =
      got_in (Inside s i) (λ q rest r'. onward n o ms q [] r') (λ q rest r' a b. onward_in n o ms q [] r' a tt) r (first ms w s i)
      (first_in s ms w i)
