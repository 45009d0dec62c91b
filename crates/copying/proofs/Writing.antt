-- Laws of writing a token: bytes without a newline, and one byte.
-- Assumes nothing.
use Prim.Native.Nat.{ℕ, suc, ◌+◌, ◌-◌, ◌<◌, ◌≤◌}
use mathlib.Core.Bool.{Bool, true, false, cond}
use mathlib.Core.List.{List, [], ◌∷◌}
use mathlib.Core.Path.{◌≡◌, refl, sym, ap, ◌∙◌, subst}
use native.Mathlib.Nat.{add-zero}
use native.Mathlib.Omega.{arith}
use lib.Dec.{eqb}
use lib.ListN.{length, set}
use lib.Seq.{sets}
use Rattle.places.specs.Places.{newlines}
use Rattle.places.proofs.Lines.{newlines_cons}
use Rattle.writing.specs.declared.Spot.{Spot}
use Rattle.writing.specs.declared.Wrote.{Wrote}
use Rattle.writing.specs.declared.Wrote.TheVariants.{Upto, Full}
use Rattle.writing.specs.Written.{Written, placed, map_of, fresh_after}
use Rattle.writing.specs.Buffers.{line_count, Writable, Puts, WroteBy}
use Rattle.writing.proofs.Laws.{text_placed, length_placed, map_placed_length, puts_line, puts_byte}
use Rattle.writing.proofs.Writing.{one_entry, wrote_19, wrote_20, wrote_upto}

-- ---- bytes without a newline

none_of : (t : Bool) (n : ℕ) → cond t (suc n) n ≡ 0 → (t ≡ false) × (n ≡ 0)
none_of true n h = absurd (omega arith)
none_of false n h = (refl, h)

-- neither the first byte nor those behind it
no_newline : (b : ℕ) (bs : List ℕ) → newlines (b ∷ bs) ≡ 0 → (eqb b 10 ≡ false) × (newlines bs ≡ 0)
no_newline b bs e = none_of (eqb b 10) (newlines bs) (sym (newlines_cons b bs) ∙ e)

-- their places are the same whatever the step
plain_step : (step p : ℕ) (w : List ℕ) → newlines w ≡ 0 → placed 0 p w ≡ placed step p w
unfolding placed
plain_step step p [] e = refl
plain_step step p (b ∷ bs) e = rw ((no_newline b bs e).0, plain_step step p bs (no_newline b bs e).1)

-- behind a byte that is no newline they take no entry and begin no line
plain_map : (p : ℕ) (w : List ℕ) → newlines w ≡ 0 → map_of false (placed 0 p w) ≡ []
unfolding placed map_of
plain_map p [] e = refl
plain_map p (b ∷ bs) e = rw (no_newline b bs e).0 (plain_map p bs (no_newline b bs e).1)

plain_after : (p : ℕ) (w : List ℕ) → newlines w ≡ 0 → fresh_after false (placed 0 p w) ≡ false
unfolding placed fresh_after
plain_after p [] e = refl
plain_after p (b ∷ bs) e = ap (λ (t : Bool). fresh_after t (placed 0 (cond t (p + 0) p) bs)) (no_newline b bs e).0 ∙ plain_after p bs (no_newline b bs e).1

-- the first one takes an entry if it begins a line
first_map : (p : ℕ) (w : List ℕ) → 0 < length w → newlines w ≡ 0 → map_of true (placed 0 p w) ≡ p ∷ []
unfolding placed map_of
first_map p [] h e = absurd (omega arith)
first_map p (b ∷ bs) h e = rw ((no_newline b bs e).0, plain_map p bs (no_newline b bs e).1)

first_after : (p : ℕ) (w : List ℕ) → 0 < length w → newlines w ≡ 0 → fresh_after true (placed 0 p w) ≡ false
unfolding placed fresh_after
first_after p [] h e = absurd (omega arith)
first_after p (b ∷ bs) h e = ap (λ (t : Bool). fresh_after t (placed 0 (cond t (p + 0) p) bs)) (no_newline b bs e).0 ∙ plain_after p bs (no_newline b bs e).1

module _ {w : List ℕ} {place : ℕ} {text map : List ℕ} {z : Spot} (a : Writable w place 0 text map z × (0 < length w) × (newlines w ≡ 0)) where
  any_step : (r : Wrote) (text' map' : List ℕ) → WroteBy r (placed 0 place w) text text' map map' z → (step : ℕ) → WroteBy r (placed step place w) text text' map map' z
  any_step r text' map' s step = subst (λ (ws : List Written). WroteBy r ws text text' map map' z) (plain_step step place w a.2) s

  pub plain_19 : length text - z.written < length w → (step : ℕ) → WroteBy (Full 19) (placed step place w) text text map map z
  plain_19 h = any_step (Full 19) text map (wrote_19 a.0 h)

  module _ (h : length w ≤ length text - z.written) where
    module _ (f : z.fresh ≡ true) where
      one_count : 1 ≡ line_count z.fresh w
      one_count = ap length (sym (first_map place w a.1 a.2)) ∙ map_placed_length true 0 place w ∙ ap (λ (t : Bool). line_count t w) (sym f)

      pub plain_20 : length map ≤ z.lines → (step : ℕ) → WroteBy (Full 20) (placed step place w) text text map map z
      plain_20 l = any_step (Full 20) text map (wrote_20 a.0 h one_count (omega arith))

      pub plain_line : z.lines < length map → {text' : List ℕ} → text' ≡ sets text z.written w → (step : ℕ)
          → WroteBy (Upto (record { written = z.written + length w; lines = z.lines + 1; fresh = false })) (placed step place w) text text' map (set map z.lines place) z
      plain_line l {text'} t =
          let s : Puts (placed 0 place w) text text' map (set map z.lines place) z (record { written = z.written + length w; lines = z.lines + 1; fresh = false }) =
          record {
            spot = rw (f, length_placed 0 place w, first_map place w a.1 a.2, first_after place w a.1 a.2);
            bytes = rw (text_placed 0 place w) t;
            lines = rw (f, first_map place w a.1 a.2);
          } in
          any_step (Upto (record { written = z.written + length w; lines = z.lines + 1; fresh = false })) text' (set map z.lines place) (wrote_upto a.0 h one_count (omega arith) s)

    module _ (f : z.fresh ≡ false) where
      no_count : 0 ≡ line_count z.fresh w
      no_count = ap length (sym (plain_map place w a.2)) ∙ map_placed_length false 0 place w ∙ ap (λ (t : Bool). line_count t w) (sym f)

      pub plain_more : {text' : List ℕ} → text' ≡ sets text z.written w → (step : ℕ)
          → WroteBy (Upto (record { written = z.written + length w; lines = z.lines; fresh = false })) (placed step place w) text text' map map z
      plain_more {text'} t =
          let s : Puts (placed 0 place w) text text' map map z (record { written = z.written + length w; lines = z.lines; fresh = false }) =
          record {
            spot = rw (f, length_placed 0 place w, plain_map place w a.2, plain_after place w a.2, add-zero z.lines);
            bytes = rw (text_placed 0 place w) t;
            lines = rw (f, plain_map place w a.2);
          } in
          any_step (Upto (record { written = z.written + length w; lines = z.lines; fresh = false })) text' map (wrote_upto a.0 h no_count (omega arith) s)

-- what may move the place may leave it
pub writable_still : {w : List ℕ} {place : ℕ} {text map : List ℕ} {z : Spot} → Writable w place 1 text map z → Writable w place 0 text map z
writable_still a = record { in_text = a.in_text; in_map = a.in_map; in_place = omega (arith, a.in_place) }

-- ---- one byte

no_entry : (f : Bool) (b : ℕ) → f ≡ false → line_count f (b ∷ []) ≡ 0
unfolding line_count
no_entry f b e = rw e

module _ {b place : ℕ} {text map : List ℕ} {z : Spot} (a : Writable (b ∷ []) place 0 text map z) where
  pub one_19 : length text ≤ z.written → (step : ℕ) → WroteBy (Full 19) (placed step place (b ∷ [])) text text map map z
  unfolding placed
  one_19 h step = wrote_19 a (omega arith)

  module _ (h : z.written < length text) where
    pub one_20 : z.fresh ≡ true → length map ≤ z.lines → (step : ℕ) → WroteBy (Full 20) (placed step place (b ∷ [])) text text map map z
    unfolding placed
    one_20 f l step = wrote_20 a (omega arith) (sym (one_entry z.fresh b f)) (omega arith)

    pub one_line : z.fresh ≡ true → z.lines < length map → (step : ℕ)
        → WroteBy (Upto (record { written = z.written + 1; lines = z.lines + 1; fresh = eqb b 10 })) (placed step place (b ∷ [])) text (set text z.written b) map (set map z.lines place) z
    unfolding placed
    one_line f l step = wrote_upto a (omega arith) (sym (one_entry z.fresh b f)) (omega arith) (puts_line b place text map z f)

    pub one_more : z.fresh ≡ false → (step : ℕ)
        → WroteBy (Upto (record { written = z.written + 1; lines = z.lines; fresh = eqb b 10 })) (placed step place (b ∷ [])) text (set text z.written b) map map z
    unfolding placed
    one_more f step = wrote_upto a (omega arith) (sym (no_entry z.fresh b f)) (omega arith) (puts_byte b place text map z f)
