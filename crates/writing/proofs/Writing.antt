-- The loops that count map entries and that write bytes, and the rooms before and after.
-- Assumes nothing.
use Prim.Native.Nat.{ℕ, suc, ◌+◌, ◌-◌, ◌*◌, ◌<◌, ◌≤◌}
use mathlib.Core.Bool.{Bool, true, false, cond}
use mathlib.Core.List.{List, [], ◌∷◌, ◌++◌, append-nil, append_assoc}
use mathlib.Core.Path.{◌≡◌, refl, sym, ap, ◌∙◌, subst}
use native.Mathlib.Nat.{mul-suc, sub-add-eq}
use native.Mathlib.Numerals.{add-one}
use native.Mathlib.Omega.{arith}
use lib.Dec.{eqb}
use lib.ListN.{length, get_or, drop, drop_of_length-le}
use lib.Seq.{drop-cons}
use borrow.Author.Tests.{lt-ltb, le-ltb}
use Rattle.writing.specs.declared.Spot.{Spot}
use Rattle.writing.specs.declared.Wrote.TheVariants.{Upto, Full}
use Rattle.writing.specs.Written.{Written, put, placed, text_of, map_of, fresh_after, put_in}
use Rattle.writing.specs.Buffers.{line_count, Writable, Puts, WroteBy}
use Rattle.writing.proofs.Laws.{length_placed, map_length, map_placed_length, puts_none, puts_append, puts_text, puts_map}

drop_next : (w : List ℕ) (i : ℕ) → i < length w → drop i w ≡ get_or w i 0 ∷ drop (i + 1) w
drop_next w i h = rw (add-one, drop-cons w i 0)

-- ---- counting

count_cons : (fresh : Bool) (b : ℕ) (bs : List ℕ) → line_count fresh (b ∷ bs) ≡ line_count fresh (b ∷ []) + line_count (eqb b 10) bs
unfolding line_count
count_cons true b bs = omega arith
count_cons false b bs = omega arith

-- n entries before i, and those from i on are to come
pub record Counted (w : List ℕ) (fresh : Bool) (i n : ℕ) (f : Bool) : Type 0 where
  pub whole : n + line_count f (drop i w) ≡ line_count fresh w
  pub most : n ≤ i
  pub inside : i ≤ length w

pub counted_none : (w : List ℕ) (fresh : Bool) → Counted w fresh 0 0 fresh
counted_none w fresh = record { whole = omega arith; most = omega arith; inside = omega arith }

module _ {w : List ℕ} {fresh : Bool} {i n : ℕ} {f : Bool} (r : Counted w fresh i n f) where
  module _ (h : i < length w) {n' : ℕ} where
    pub counted_line : f ≡ true → n' ≡ n + 1 → Counted w fresh (i + 1) n' (eqb (get_or w i 0) 10)
    unfolding line_count
    counted_line e q =
        let l : line_count f (drop i w) ≡ suc (line_count (eqb (get_or w i 0) 10) (drop (i + 1) w)) = rw (drop_next w i h, e) in
        record { whole = omega (arith, r.whole); most = omega (arith, r.most); inside = omega arith }

    pub counted_other : f ≡ false → n' ≡ n → Counted w fresh (i + 1) n' (eqb (get_or w i 0) 10)
    unfolding line_count
    counted_other e q =
        let l : line_count f (drop i w) ≡ line_count (eqb (get_or w i 0) 10) (drop (i + 1) w) = rw (drop_next w i h, e) in
        record { whole = omega (arith, r.whole); most = omega (arith, r.most); inside = omega arith }

  pub counted_all : length w ≤ i → n ≡ line_count fresh w
  unfolding line_count
  counted_all h =
      let l : line_count f (drop i w) ≡ 0 = rw (drop_of_length-le w h) in
      omega (arith, r.whole)

-- ---- writing

-- a byte that begins a line takes one
pub one_entry : (f : Bool) (b : ℕ) → f ≡ true → line_count f (b ∷ []) ≡ 1
unfolding line_count
one_entry f b e = rw e

moved_most : (t : Bool) (p step : ℕ) → cond t (p + step) p ≤ p + step
moved_most true p step = omega arith
moved_most false p step = omega arith

-- the bytes before i are written, and those from i on have room
pub record Going (w : List ℕ) (place step : ℕ) (text₀ map₀ : List ℕ) (z : Spot) (text map : List ℕ) (i p : ℕ) (y : Spot) : Type 0 where
  pub done : List Written
  pub puts : Puts done text₀ text map₀ map z y
  pub whole : done ++ placed step p (drop i w) ≡ placed step place w
  pub inside : i ≤ length w
  pub in_text : y.written + length (drop i w) ≤ length text
  pub in_map : y.lines + line_count y.fresh (drop i w) ≤ length map
  pub in_place : p + step * length (drop i w) < 4294967296

pub going_none : {w : List ℕ} {place step : ℕ} {text map : List ℕ} {z : Spot} → Writable w place step text map z → z.written + length w ≤ length text → z.lines + line_count z.fresh w ≤ length map
    → Going w place step text map z text map 0 place z
going_none {w} {place} {step} {text} {map} {z} a b c =
    record { done = []; puts = puts_none text map z; whole = refl; inside = omega arith; in_text = b; in_map = c; in_place = a.in_place }

module _ {w : List ℕ} {place step : ℕ} {text₀ map₀ : List ℕ} {z : Spot} {text map : List ℕ} {i p : ℕ} {y : Spot} (r : Going w place step text₀ map₀ z text map i p y) where
  module _ (h : i < length w) where
    left : length (drop i w) ≡ suc (length (drop (i + 1) w))
    left = rw (drop_next w i h)

    entries : line_count y.fresh (drop i w) ≡ line_count y.fresh (get_or w i 0 ∷ []) + line_count (eqb (get_or w i 0) 10) (drop (i + 1) w)
    entries = ap (line_count y.fresh) (drop_next w i h) ∙ count_cons y.fresh (get_or w i 0) (drop (i + 1) w)

    steps : step * length (drop i w) ≡ step * length (drop (i + 1) w) + step
    steps = ap (λ (k : ℕ). step * k) left ∙ mul-suc step (length (drop (i + 1) w))

    pub going_room : (y.written < length text) × (line_count y.fresh (get_or w i 0 ∷ []) + y.lines ≤ length map)
    going_room = (omega (arith, left, r.in_text), omega (arith, entries, r.in_map))

    pub going_place : p + step < 4294967296
    going_place = omega (arith, steps, r.in_place)

    pub going_next : {text' map' : List ℕ} {p' : ℕ} {y' : Spot} → Puts (put (get_or w i 0) p ∷ []) text text' map map' y y' → p' ≡ cond (eqb (get_or w i 0) 10) (p + step) p
        → Going w place step text₀ map₀ z text' map' (i + 1) p' y'
    unfolding placed text_of fresh_after
    going_next {text'} {map'} {p'} {y'} s e =
        let b : ℕ = get_or w i 0 in
        let f : y'.fresh ≡ eqb b 10 = ap (λ (x : Spot). x.fresh) s.spot in
        let n : y'.written ≡ y.written + 1 = ap (λ (x : Spot). x.written) s.spot in
        let l : y'.lines ≡ y.lines + line_count y.fresh (b ∷ []) = ap (λ (x : Spot). x.lines) s.spot ∙ ap (λ (k : ℕ). y.lines + k) (map_length y.fresh (put b p ∷ [])) in
        let g : line_count y'.fresh (drop (i + 1) w) ≡ line_count (eqb b 10) (drop (i + 1) w) = ap (λ (x : Bool). line_count x (drop (i + 1) w)) f in
        record {
          done = r.done ++ (put b p ∷ []);
          puts = puts_append r.puts s;
          whole = rw (append_assoc, e) (rw (drop_next w i h) at r.whole);
          inside = omega arith;
          in_text = omega (arith, n, left, puts_text s, r.in_text);
          in_map = omega (arith, l, g, entries, puts_map s, r.in_map);
          in_place = omega (arith, e, moved_most (eqb b 10) p step, steps, r.in_place);
        }

  pub going_all : length w ≤ i → Puts (placed step place w) text₀ text map₀ map z y
  unfolding placed
  going_all h =
      let q : r.done ≡ placed step place w = rw (drop_of_length-le w h, append-nil) at r.whole in
      subst (λ (ws : List Written). Puts ws text₀ text map₀ map z y) q r.puts

-- ---- the rooms

module _ {w : List ℕ} {place step : ℕ} {text map : List ℕ} {z : Spot} (a : Writable w place step text map z) where
  pub wrote_19 : length text - z.written < length w → WroteBy (Full 19) (placed step place w) text text map map z
  unfolding put_in
  wrote_19 h = (rw (length_placed step place w, lt-ltb _ _ h), refl, refl)

  module _ (h : length w ≤ length text - z.written) {n : ℕ} (e : n ≡ line_count z.fresh w) where
    entries_placed : length (map_of z.fresh (placed step place w)) ≡ n
    entries_placed = map_placed_length z.fresh step place w ∙ sym e

    pub wrote_20 : length map - z.lines < n → WroteBy (Full 20) (placed step place w) text text map map z
    unfolding put_in
    wrote_20 l = (rw (length_placed step place w, le-ltb _ _ h, entries_placed, lt-ltb _ _ l), refl, refl)

    module _ (l : n ≤ length map - z.lines) where
      pub wrote_upto : {text' map' : List ℕ} {z' : Spot} → Puts (placed step place w) text text' map map' z z' → WroteBy (Upto z') (placed step place w) text text' map map' z
      unfolding put_in
      wrote_upto {text'} {map'} {z'} s =
          let q : z'.written ≡ z.written + length w = ap (λ (x : Spot). x.written) s.spot ∙ ap (λ (k : ℕ). z.written + k) (length_placed step place w) in
          let m : z'.lines ≡ z.lines + n = ap (λ (x : Spot). x.lines) s.spot ∙ ap (λ (k : ℕ). z.lines + k) entries_placed in
          let f : z'.fresh ≡ fresh_after z.fresh (placed step place w) = ap (λ (x : Spot). x.fresh) s.spot in (
            s,
            rw (length_placed step place w, le-ltb _ _ h, entries_placed, le-ltb _ _ l, q, m, f, sub-add-eq (length text), sub-add-eq (length map)),
            omega (arith, q, a.in_text),
            omega (arith, m, a.in_map),
          )
