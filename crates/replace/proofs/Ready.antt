-- Arguments that were put in place: where they stand there, while more is added behind them.
-- Assumes nothing.
use Prim.Native.Nat.{ℕ, ◌+◌, ◌-◌, ◌<◌, ◌≤◌}
use mathlib.Core.Bool.{Bool, true, false}
use mathlib.Core.List.{List, [], ◌∷◌, ◌++◌}
use mathlib.Core.Path.{◌≡◌, refl, sym, ap, subst, ◌∙◌}
use native.Mathlib.Omega.{arith}
use lib.Dec.{eqb}
use borrow.Author.Tests.{eqb-true, eqb-false}
use lib.ListN.{length, take, drop, get_or, set, length-append, length-drop, length-set}
use lib.Seq.{take_all, drop_at, take-append-le, drop-append-le, get_or-set_same, get_or-set_other}
use Rattle.std.proofs.Common.{Option, Some, None}
use Rattle.pending.specs.Pending.{Pending}
use Rattle.pending.specs.References.{pendings}
use Rattle.pending.specs.Sources.{Spans}
use Rattle.pending.specs.Adding.{Adds, AddsBy}
use Rattle.arguments.specs.Ranges.{range_from, range_to, placed_from, placed_to}
use Rattle.replace.specs.Tidying.{tidy, tidy_all}
use Rattle.replace.specs.Placing.{PlacedBefore, PlacedIn, Ready, ReadyBy}
use Rattle.replace.proofs.Values.{any_default, tidied_at, adds_as}
use Rattle.replace.proofs.Again.{pendings_length}

abbrev blank : List ℕ
blank = 0 ∷ 0 ∷ 0 ∷ 0 ∷ []

-- ---- more is added

placed_on : (ps qs : List Pending) (r : List (List ℕ)) (xs : List (List Pending)) → PlacedIn ps r xs → PlacedIn (ps ++ qs) r xs
placed_on ps qs r xs h k l m n =
    let a : ℕ = placed_from r k in
    let e : ℕ = placed_to r k in
    let g = h k l m n in (
      omega (arith, g.0, length-append ps qs),
      ap (λ (ys : List Pending). take (e - a) ys) (drop-append-le a ps qs (omega (arith, g.0)))
          ∙ take-append-le (e - a) (drop a ps) qs (omega (arith, g.0, length-drop a ps))
          ∙ g.1,
    )

module _ {f : ℕ → List Pending} {last : ℕ} {r : List (List ℕ)} {xs : List (List Pending)} where
  module _ (s b : List ℕ) (o : List (List ℕ)) (n : ℕ) (h : Ready f last r xs (pendings s b (take n o))) where
    ready_adds : {o' : List (List ℕ)} {most m : ℕ} {q : List Pending} → Adds s b o o' most n m q → Ready f last r xs (pendings s b (take m o'))
    ready_adds {q = q} a =
        record { ranged = h.ranged; placed = subst (λ (ps : List Pending). PlacedIn ps r xs) (sym a.tokens) (placed_on (pendings s b (take n o)) q r xs h.placed) }

    pub ready_on : (w : Option ℕ) (o' : List (List ℕ)) (most : ℕ) (q : List Pending) → AddsBy w s b o o' most n q → ReadyBy w s b f last o' r xs
    ready_on w o' most q a m e = ready_adds (subst (λ (w : Option ℕ). AddsBy w s b o o' most n q) e a)

    pub ready_here : ReadyBy (Some n) s b f last o r xs
    ready_here m e = let z : n ≡ m = cc in subst (λ (j : ℕ). Ready f last r xs (pendings s b (take j o))) z h

    pub ready_eq : {m : ℕ} → n ≡ m → Ready f last r xs (pendings s b (take m o))
    ready_eq e = subst (λ (j : ℕ). Ready f last r xs (pendings s b (take j o))) e h

    pub ready_before : {c : ℕ} → n ≤ length o → c ≡ length xs → PlacedBefore r c n
    ready_before l e k i j m = omega (arith, (h.placed k (omega arith) j m).0, pendings_length s b o n l)

-- nothing is said where there was no room
pub ready_full : {A : Type 0} {m : ℕ} → None ≡ Some m → A
ready_full e = let z : ◌≡◌ {A = ℕ} 0 1 = cc in absurd (omega arith)

-- ---- a range as the code reads it

-- of an argument that was put in place
pub before_at : (r : List (List ℕ)) (c n k : ℕ) → PlacedBefore r c n → k < c → k < length r → get_or (get_or r k []) 2 0 ≤ get_or (get_or r k []) 3 0 → get_or (get_or r k []) 3 0 ≤ n
before_at r c n k h i j = rw (any_default r k [] blank j) (h k i j)

-- argument k, if it was put in place
pub placed_again : {f : ℕ → List Pending} {last : ℕ} (r : List (List ℕ)) (xs : List (List Pending)) (ps : List Pending) → Ready f last r xs ps → (k : ℕ) → k < length xs → k < length r
    → get_or (get_or r k []) 2 0 ≤ get_or (get_or r k []) 3 0
    → take (get_or (get_or r k []) 3 0 - get_or (get_or r k []) 2 0) (drop (get_or (get_or r k []) 2 0) ps) ≡ get_or (tidy_all xs) k []
placed_again r xs ps h k i j = rw (any_default r k [] blank j) (λ l. (h.placed k i j l).1 ∙ sym (tidied_at xs k i))

-- ---- argument k is put in place

-- its range then
abbrev pub range_then : List (List ℕ) → ℕ → ℕ → ℕ → List ℕ
range_then r k from to = get_or (get_or r k []) 0 0 ∷ get_or (get_or r k []) 1 0 ∷ from ∷ to ∷ []

module _ {f : ℕ → List Pending} {last : ℕ} (r : List (List ℕ)) (xs : List (List Pending)) (ps : List Pending) (k from to : ℕ) (q : List Pending) (h : Ready f last r xs ps)
    (there : k < length r) (begins : length ps ≡ from) (ends : to ≡ from + length q) (tidied : q ≡ tidy (get_or xs k [])) where
  ready_placed : Ready f last (set r k (range_then r k from to)) xs (ps ++ q)
  ready_placed = record { ranged = λ j l m. ranged_at j l m (eqb j k) refl; placed = λ j l m n. placed_at j l m n (eqb j k) refl }
    where
      same : (j : ℕ) → eqb j k ≡ true → get_or (set r k (range_then r k from to)) j blank ≡ range_then r k from to
      same j e = let z : j ≡ k = eqb-true j k e in rw z (get_or-set_same r k (range_then r k from to) blank there)

      other : (j : ℕ) → eqb j k ≡ false → get_or (set r k (range_then r k from to)) j blank ≡ get_or r j blank
      other j e = get_or-set_other r k j (range_then r k from to) blank (eqb-false j k e)

      short : (j : ℕ) → j < length (set r k (range_then r k from to)) → j < length r
      short j m = omega (arith, length-set r k (range_then r k from to))

      ranged_at : (j : ℕ) → j < length xs → j < length (set r k (range_then r k from to)) → (t : Bool) → eqb j k ≡ t
          → Spans f (range_from (set r k (range_then r k from to)) j) (range_to (set r k (range_then r k from to)) j) (get_or xs j []) × (range_to (set r k (range_then r k from to)) j ≤ last)
      ranged_at j l m true e =
          let z : j ≡ k = eqb-true j k e in
          rw (same j e, any_default r k [] blank there, sym z) (h.ranged j l (short j m))
      ranged_at j l m false e = rw (other j e) (h.ranged j l (short j m))

      placed_at : (j : ℕ) → j < length xs → j < length (set r k (range_then r k from to))
          → placed_from (set r k (range_then r k from to)) j ≤ placed_to (set r k (range_then r k from to)) j → (t : Bool) → eqb j k ≡ t
          → (placed_to (set r k (range_then r k from to)) j ≤ length (ps ++ q))
          × (take (placed_to (set r k (range_then r k from to)) j - placed_from (set r k (range_then r k from to)) j) (drop (placed_from (set r k (range_then r k from to)) j) (ps ++ q)) ≡ tidy (get_or xs j []))
      placed_at j l m n true e =
          let z : j ≡ k = eqb-true j k e in
          rw (same j e) (
            omega (arith, length-append ps q),
            ap (take (to - from)) (drop_at ps q from begins) ∙ take_all (to - from) q (omega arith) ∙ tidied ∙ ap (λ (i : ℕ). tidy (get_or xs i [])) (sym z),
          )
      placed_at j l m n false e = rw (other j e) (placed_on ps q r xs h.placed j l (short j m) (rw (other j e) at n))

-- the argument was read and added
pub given_placed : (s b : List ℕ) (o o' : List (List ℕ)) (most n : ℕ) {f : ℕ → List Pending} {last : ℕ} (r : List (List ℕ)) (xs : List (List Pending)) (k : ℕ)
    → Ready f last r xs (pendings s b (take n o)) → k < length xs → k < length r → n ≤ length o
    → {m : ℕ} → Adds s b o o' most n m (tidy (get_or xs k []))
    → Adds s b o o' most n m (get_or (tidy_all xs) k []) × ReadyBy (Some m) s b f last o' (set r k (range_then r k n m)) xs
given_placed s b o o' most n {f} {last} r xs k h i j l {m} d =
    let q : List Pending = tidy (get_or xs k []) in
    let g : Ready f last (set r k (range_then r k n m)) xs (pendings s b (take n o) ++ q) =
    ready_placed r xs (pendings s b (take n o)) k n m q h j (pendings_length s b o n l) d.count refl in (
      adds_as (Some m) s b o o' most n (sym (tidied_at xs k i)) d,
      ready_here s b o' m (subst (λ (ps : List Pending). Ready f last (set r k (range_then r k n m)) xs ps) (sym d.tokens) g),
    )
