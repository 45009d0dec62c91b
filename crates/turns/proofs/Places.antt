-- What is written has places of lines of files.
-- Assumes nothing.
use Prim.Native.Nat.{ℕ, zero, suc, ◌+◌, ◌<◌, ◌≤◌}
use mathlib.Core.Bool.{Bool, true, false, cond}
use mathlib.Core.List.{List, [], ◌∷◌, ◌++◌}
use mathlib.Core.Path.{◌≡◌, refl, subst, sym}
use native.Mathlib.Nat.{add-zero}
use native.Mathlib.Omega.{arith}
use lib.Dec.{eqb, ltb}
use lib.ListN.{length}
use Rattle.lex.proofs.Tests.{by_test}
use Rattle.definition.specs.Definitions.{Macro}
use Rattle.writing.specs.Written.{Written, put, placed, map_of, Room, Put, full, fitted, put_in}
use Rattle.places.specs.Places.{newlines, line_at, place_of}
use Rattle.pending.specs.Pending.{Pending, view}
use Rattle.pending.proofs.Viewing.{by_usage}
use Rattle.replace.specs.Replacing.{Got, refused, got, replace}
use Rattle.expand.specs.Expanding.{Outer, writes, Expansion, Next, on_got, on_put, walk, onward, first, expand}
use Rattle.handover.specs.Entries.{body_of}
use Rattle.turns.specs.States.{Context}
use Rattle.turns.specs.Mapping.{InFile, All}

-- the places of bytes written
unfoldable pub Placed : Context → List Written → Type 0
Placed x [] = Unit {0}
Placed x (put b p ∷ ws) = InFile x p × Placed x ws

same_place : (t : Bool) (p : ℕ) → p ≡ cond t (p + 0) p
same_place true p = sym (add-zero p)
same_place false p = refl

module _ (x : Context) where
  pub placed_append : (ws vs : List Written) → Placed x ws → Placed x vs → Placed x (ws ++ vs)
  unfolding Placed
  placed_append [] vs h k = k
  placed_append (put b p ∷ ws) vs h k = (h.0, placed_append ws vs h.1 k)

  pub placed_map : (fresh : Bool) (ws : List Written) → Placed x ws → All (InFile x) (map_of fresh ws)
  unfolding All Placed map_of
  placed_map fresh [] h = tt
  placed_map true (put b p ∷ ws) h = (h.0, placed_map (eqb b 10) ws h.1)
  placed_map false (put b p ∷ ws) h = placed_map (eqb b 10) ws h.1

  -- all at one place
  pub placed_one : (p : ℕ) → InFile x p → (bs : List ℕ) → Placed x (placed 0 p bs)
  unfolding Placed placed
  placed_one p h [] = tt
  placed_one p h (b ∷ bs) = (h, subst (λ (q : ℕ). Placed x (placed 0 q bs)) (same_place (eqb b 10) p) (placed_one p h bs))

  -- on from line to line
  module _ (f : ℕ) (h : f < length x.table) where
    abbrev last_line : ℕ
    last_line = line_at (body_of x.store x.table f) (length (body_of x.store x.table f))

    pub line_in : (l : ℕ) → 1 ≤ l → l ≤ last_line → InFile x (place_of f l)
    line_in l a b = record { file = f; line = l; place_is = refl; file_in = h; first = a; last = b }

    placed_next : (t : Bool) (l n : ℕ) (bs : List ℕ) → 1 ≤ l → l + cond t (suc n) n ≤ last_line
        → ((k : ℕ) → 1 ≤ k → k + n ≤ last_line → Placed x (placed 1 (place_of f k) bs))
        → Placed x (placed 1 (cond t (place_of f l + 1) (place_of f l)) bs)
    placed_next true l n bs a b g =
        let e : place_of f (l + 1) ≡ place_of f l + 1 = omega arith in
        subst (λ (q : ℕ). Placed x (placed 1 q bs)) e (g (l + 1) (omega arith) (omega arith))
    placed_next false l n bs a b g = g l a b

    pub placed_lines : (bs : List ℕ) (l : ℕ) → 1 ≤ l → l + newlines bs ≤ last_line → Placed x (placed 1 (place_of f l) bs)
    unfolding Placed placed newlines
    placed_lines [] l a b = tt
    placed_lines (c ∷ bs) l a b =
        (line_in l a (omega (arith, b)), placed_next (eqb c 10) l (newlines bs) bs a b (λ k. placed_lines bs k))

  -- what comes out of a usage, all at its place
  module _ (o : Outer) (h : InFile x o.place) where
    put_placed : (ws : List Written) (r : Room) (p : Put) (go : Room → Expansion) → Placed x ws → ((r' : Room) → Placed x (go r').text)
        → Placed x (on_put ws r p go).text
    unfolding Placed
    put_placed ws r (full n) go a b = tt
    put_placed ws r (fitted r') go a b = placed_append ws (go r').text a (b r')

    module _ (go : Next) (g : (q rest : List Pending) (r : Room) → Placed x (go q rest r).text) where
      got_placed : (r : Room) (y : Got) → Placed x (on_got go r y).text
      unfolding Placed
      got_placed r (refused n i) = tt
      got_placed r (got q rest) = g q rest r

      walk_placed : (ms : List Macro) (r : Room) (ps : List Pending) → Placed x (walk go o ms r ps).text
      unfolding Placed walk
      walk_placed ms r [] = tt
      walk_placed ms r (p ∷ ps) =
          let ws = placed 0 o.place (writes o p) in
          by_usage (λ (e : Expansion). Placed x e.text) (view p)
          (λ z. put_placed ws r (put_in r ws) (λ r'. walk go o ms r' ps) (placed_one o.place h (writes o p)) (λ r'. walk_placed ms r' ps))
          (λ w z. got_placed r (replace ms w p.own ps))

    onward_placed : (n : ℕ) (ms : List Macro) (q rest : List Pending) (r : Room) → Placed x (onward n o ms q rest r).text
    unfolding Placed onward
    onward_placed zero ms q rest r = tt
    onward_placed (suc n) ms q rest r =
        by_test (λ (e : Expansion). Placed x e.text) (ltb 1024 (length (q ++ rest))) (λ e. tt)
        (λ e. walk_placed (onward n o ms) (λ q rest r. onward_placed n ms q rest r) ms r (q ++ rest))

    pub expand_placed : (n : ℕ) (ms : List Macro) (r : Room) (w s : List ℕ) (i : ℕ) → Placed x (expand n o ms r w s i).text
    unfolding expand
    expand_placed n ms r w s i =
        got_placed (λ q rest r'. onward n o ms q [] r') (λ q rest r'. onward_placed n ms q [] r') r (first ms w s i)
