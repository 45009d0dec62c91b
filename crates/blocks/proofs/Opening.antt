-- The open conditionals of a lent buffer: the first n of it alone make them, and each function's change of them.
-- Assumes nothing.
use Prim.Native.Nat.{ℕ, zero, suc, ◌+◌, ◌<◌, ◌≤◌}
use mathlib.Core.Bool.{Bool, true, false, not, ◌&&◌, ◌||◌}
use mathlib.Core.Option.{none}
use mathlib.Core.List.{List, [], ◌∷◌}
use mathlib.Core.Path.{◌≡◌, refl, sym, ap}
use native.Mathlib.Numerals.{add-one}
use native.Mathlib.Omega.{arith}
use lib.ListN.{length, get_or, set, length-set}
use lib.Seq.{get_or-set_same, get_or-set_other}
use Rattle.std.specs.Prelude.{Some}
use Rattle.std.specs.Int.{from_bool}
use borrow.Author.Tests.{eq-eqb, ne_eqb, le-leb, lt-leb}
use Rattle.blocks.specs.declared.Blocks.{Blocks}
use Rattle.blocks.specs.Blocks.{open_block, next_block, close_block}
use Rattle.blocks.specs.Stacks.{blank_block, flag, conditional_of, open_in, BlocksIn, ChangedBy}

-- a truth value as it is stored
pub flag_from : {n : ℕ} (b : Bool) → n ≡ from_bool b → flag n ≡ b
flag_from true e = rw e
flag_from false e = rw e

-- as many as are said to be open
pub open_length : (w : List (List ℕ)) (n : ℕ) → length (open_in w n) ≡ n
unfolding open_in
open_length w zero = refl
open_length w (suc n) = ap suc (open_length w n)

-- a store behind the first n changes none of them
pub open_set : (w : List (List ℕ)) (n i : ℕ) (v : List ℕ) → n ≤ i → open_in (set w i v) n ≡ open_in w n
unfolding open_in
open_set w zero i v h = refl
open_set w (suc n) i v h =
    let e : get_or (set w i v) n blank_block ≡ get_or w n blank_block = get_or-set_other w i n v blank_block (λ z. omega arith) in
    let r : open_in (set w i v) n ≡ open_in w n = open_set w n i v (omega arith) in
    rw (e, r)

-- a store at n makes the innermost of n + 1
pub open_put : (w : List (List ℕ)) (n : ℕ) (v : List ℕ) → n < length w → open_in (set w n v) (suc n) ≡ conditional_of v ∷ open_in w n
unfolding open_in
open_put w n v h = rw (get_or-set_same w n v blank_block h, open_set w n n v (omega arith))

-- within a list its default does not count
within : (w : List (List ℕ)) (n : ℕ) (d e : List ℕ) → n < length w → get_or w n d ≡ get_or w n e
within [] n d e h = absurd (omega arith)
within (x ∷ w) zero d e h = refl
within (x ∷ w) (suc n) d e h = within w n d e (omega arith)

-- the innermost of n + 1 is read at n
pub open_top : (w : List (List ℕ)) (n : ℕ) → n < length w → open_in w (suc n) ≡ conditional_of (get_or w n []) ∷ open_in w n
unfolding open_in
open_top w n h = rw (within w n blank_block [] h)

-- after a store at n, of which v's fourth number says whether text is taken
put-in : (w : List (List ℕ)) (n : ℕ) (v : List ℕ) (t : Bool) → n < 32 → 32 ≤ length w → flag (get_or v 3 0) ≡ t
    → BlocksIn (set w n v) (record { «open» = suc n; taken = t })
put-in w n v t h l e =
    record { few = omega arith; lent = rw length-set l; taken_is = rw (open_put w n v (omega arith)) (sym e) }

-- a 33rd open is refused
pub open_refused : (w : List (List ℕ)) (n file byte : ℕ) (b : Bool) → 32 ≤ n → open_block file byte b (open_in w n) ≡ none
unfolding open_block
open_refused w n file byte b h = rw (open_length, le-leb 32 n h)

-- one more is open
pub open_taken : (w : List (List ℕ)) (z : Blocks) (file byte : ℕ) (b : Bool) (p q r : ℕ) → BlocksIn w z → z.open < 32
    → flag p ≡ z.taken → flag q ≡ z.taken && b → flag r ≡ b
    → ChangedBy (Some (record { «open» = z.open + 1; taken = z.taken && b })) (open_block file byte b (open_in w z.open))
    w (set w z.open (file ∷ byte ∷ p ∷ q ∷ r ∷ 0 ∷ []))
unfolding open_block
open_taken w z file byte b p q r s h ep eq er =
    let n = z.open in
    let v : List ℕ = file ∷ byte ∷ p ∷ q ∷ r ∷ 0 ∷ [] in
    let l : 32 ≤ length w = s.lent in
    rw add-one
    ((rw (open_put w n v (omega arith), open_length, lt-leb 32 n h, ep, eq, er, ← s.taken_is)), put-in w n v (z.taken && b) h l eq)

-- none is open
pub next_none : (w : List (List ℕ)) (n : ℕ) (b l : Bool) → n ≡ 0 → next_block b l (open_in w n) ≡ none
unfolding next_block open_in
next_none w n b l e = rw e

-- past `else`
pub next_last : (w : List (List ℕ)) (n m : ℕ) (b l : Bool) → suc m ≡ n → m < length w → get_or (get_or w m []) 5 0 ≡ 1 → next_block b l (open_in w n) ≡ none
unfolding next_block
next_last w n m b l e h f = rw (← e, open_top w m h, eq-eqb (get_or (get_or w m []) 5 0) 1 f)

-- the innermost is at its next block, taken if t
pub next_taken : (w : List (List ℕ)) (n m : ℕ) (b l t : Bool) (p q r : ℕ) → suc m ≡ n → n ≤ 32 → 32 ≤ length w
    → (get_or (get_or w m []) 5 0 ≡ 1 → ⊥)
    → t ≡ flag (get_or (get_or w m []) 2 0) && (not (flag (get_or (get_or w m []) 4 0)) && b)
    → flag p ≡ t → flag q ≡ flag (get_or (get_or w m []) 4 0) || b → flag r ≡ l
    → ChangedBy (Some (record { «open» = n; taken = t })) (next_block b l (open_in w n)) w
    (set w m (get_or (get_or w m []) 0 0 ∷ get_or (get_or w m []) 1 0 ∷ get_or (get_or w m []) 2 0 ∷ p ∷ q ∷ r ∷ []))
unfolding next_block
next_taken w n m b l t p q r e f g k et ep eq er =
    let x = get_or w m [] in
    let v : List ℕ = get_or x 0 0 ∷ get_or x 1 0 ∷ get_or x 2 0 ∷ p ∷ q ∷ r ∷ [] in
    let h : m < length w = omega arith in
    rw (← e) ((rw (open_put w m v h, open_top w m h, ne_eqb (get_or x 5 0) 1 k, ep, et, eq, er)), put-in w m v t (omega arith) g ep)

-- `endif` of none
pub close_none : (w : List (List ℕ)) (n : ℕ) → n ≡ 0 → close_block (open_in w n) ≡ none
unfolding close_block open_in
close_none w n e = rw e

-- `endif` of the only one
pub close_one : (w : List (List ℕ)) (n : ℕ) → n ≡ 1 → 32 ≤ length w → ChangedBy (Some (record { «open» = 0; taken = true })) (close_block (open_in w n)) w w
unfolding close_block open_in
close_one w n e h = (rw e, record { few = omega arith; lent = h; taken_is = refl })

-- `endif` inside another
pub close_taken : (w : List (List ℕ)) (n m k : ℕ) (t : Bool) → suc m ≡ n → suc k ≡ m → n ≤ 32 → 32 ≤ length w → t ≡ flag (get_or (get_or w k []) 3 0)
    → ChangedBy (Some (record { «open» = m; taken = t })) (close_block (open_in w n)) w w
unfolding close_block
close_taken w n m k t e f g h et = (
  (rw (← e, open_top w m (omega arith))),
  record { few = omega arith; lent = h; taken_is = rw (← f, open_top w k (omega arith)) et },
)
