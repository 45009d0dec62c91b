-- A grave accent and a `\`, with an escaped name or in an escaped quote mark: what is read byte by byte is what judging it has.
-- Assumes nothing.
use Prim.Native.Nat.{ℕ, ◌+◌, ◌-◌, ◌<◌, ◌≤◌}
use mathlib.Core.Bool.{Bool, true, false, not, ◌&&◌, ◌||◌}
use mathlib.Core.List.{List, [], ◌∷◌}
use mathlib.Core.Path.{◌≡◌, refl, ap, sym, ◌∙◌}
use native.Mathlib.Omega.{arith}
use lib.Dec.{eqb, leb, ltb}
use lib.ListN.{length, get_or, drop}
use lib.Seq.{get_or-drop, drop-drop}
use borrow.Author.Tests.{eqb-true, eqb-false}
use Rattle.text.specs.Bytes.{bytes, same, part}
use Rattle.text.proofs.Matching.{part_more}
use Rattle.lex.specs.Scans.{span_from, span_end}
use Rattle.lex.specs.Tokens.{EscapedQuote, Grave, Byte, plain, named, escaped_or, escaped_grave}
use Rattle.lex.specs.declared.Scan.{Scan}
use Rattle.lex.proofs.Tests.{and_left, and_right, true_false}
use Rattle.lex.proofs.Progress.{span_inside}
use Rattle.names.specs.Names.{macro_directives, state_directives, other_directives, number_in, other_of, state_of, directive_of, bars_text}
use Rattle.storing.specs.Stored.{trim_right}
use Rattle.afresh.specs.Unfit.{is_open}
use Rattle.afresh.specs.States.{Solid, Slanted, Twice, in_solid, in_slanted, in_twice, in_marked, in_short, outside, reading, leaves, ended}
use Rattle.afresh.proofs.Sorts.{and_false}
use Rattle.afresh.proofs.Going.{Hold, quoted, standing, bare, start, verdict, goes, passed, spoilt_next, alike}
use Rattle.afresh.proofs.Placing.{byte_at, goes_on, reads_first}
use Rattle.afresh.proofs.Slanting.{span_past, span_empty, slant_to, empty_to, solid_reads}
use Rattle.afresh.proofs.Telling.{mode_of, told, told_bad, rest_one, rest_two}

module _ (w : List ℕ) (i : ℕ) (b : Bool) where
  abbrev h : Hold
  h = quoted b

  -- an escaped name behind a grave accent
  slanted_told : (r : Scan) → eqb (get_or w (i + 1) 0) 92 ≡ true → is_open (part w (i + 2) r.end) ≡ true
      → slant_to w h true (i + 2) (i + 2) r ≡ told w h (named Grave i (i + 2) r.end r.bar)
  slanted_told r n o =
      go (eqb r.bar 0) (ltb 1024 (r.end - (i + 2))) (leb 1024 (r.end - (i + 2)) && eqb (get_or w r.end 0) 92) (bars_text (part w (i + 2) r.end)) refl refl refl refl
    where
      go : (a c k s : Bool) → eqb r.bar 0 ≡ a → ltb 1024 (r.end - (i + 2)) ≡ c → (leb 1024 (r.end - (i + 2)) && eqb (get_or w r.end 0) 92) ≡ k
          → bars_text (part w (i + 2) r.end) ≡ s
          → (not a || (c || (k || (false || ((not (is_open (part w (i + 2) r.end)) || s) || verdict (start h) (drop r.end w)))))) ≡ told w h (named Grave i (i + 2) r.end r.bar)
      go false c k s p q f g = sym (told_bad w h (named Grave i (i + 2) r.end r.bar) (rw (p, p)))
      go true true k s p q f g = sym (told_bad w h (named Grave i (i + 2) r.end r.bar) (rw (p, q)))
      go true false true s p q f g = sym (told_bad w h (named Grave i (i + 2) r.end r.bar) (rw (p, q, n, f)))
      go true false false true p q f g = rw (o, p, q, n, f, g)
      go true false false false p q f g = rw (o, p, q, n, f, g)

-- "`" is no directive's name
no_directive : bars_text (96 ∷ []) ≡ false
unfolding directive_of number_in macro_directives state_of state_directives other_of other_directives same bytes
no_directive = refl

-- past a grave accent, a `\` and a grave accent: an escaped name, unless there is a `"`
twice_solid : (zs : List ℕ) → eqb (get_or zs 0 0) 34 ≡ false → verdict (bare Twice (quoted false)) zs ≡ verdict (standing Solid (quoted false) true (96 ∷ [])) zs
unfolding reading ended leaves outside in_short in_marked in_twice
twice_solid [] e = sym no_directive
twice_solid (z ∷ zs) e = alike (quoted false) Twice Solid false true [] (96 ∷ []) refl refl z zs (rw e)

-- between quote marks it is bad
twice_marked : (zs : List ℕ) → eqb (get_or zs 0 0) 34 ≡ false → verdict (bare Twice (quoted true)) zs ≡ true
unfolding reading ended outside in_short in_marked in_twice
twice_marked [] e = refl
twice_marked (z ∷ zs) e = spoilt_next (quoted true) Twice false [] refl z zs (rw e)

twice_next : (b : Bool) (y : ℕ) (ys : List ℕ) → eqb y 96 ≡ true → verdict (bare Slanted (quoted b)) (y ∷ ys) ≡ verdict (bare Twice (quoted b)) ys
unfolding outside in_short in_marked in_slanted
twice_next b y ys e =
    goes (bare Slanted (quoted b)) (bare Twice (quoted b)) y ys
    (rw (eqb-true y 96 e) (passed (quoted b) Slanted false [] refl 96 refl))

twice_from : (y : ℕ) (ys : List ℕ) → eqb y 96 ≡ true → verdict (standing Solid (quoted false) true []) (y ∷ ys) ≡ verdict (standing Solid (quoted false) true (96 ∷ [])) ys
unfolding outside in_short in_marked in_solid
twice_from y ys e =
    goes (standing Solid (quoted false) true []) (standing Solid (quoted false) true (96 ∷ [])) y ys
    (rw (eqb-true y 96 e) (passed (quoted false) Solid true [] refl 96 refl))

-- the bytes of an escaped quote mark past its grave accent and its `\`
abbrev pub is_quoting : List ℕ → Bool
is_quoting ys = eqb (get_or ys 0 0) 96 && eqb (get_or ys 1 0) 34

slanted_solid : (ys : List ℕ) → is_quoting ys ≡ false → verdict (bare Slanted (quoted false)) ys ≡ verdict (standing Solid (quoted false) true []) ys
unfolding reading ended leaves outside in_short in_marked in_slanted
slanted_solid [] e = refl
slanted_solid (y ∷ ys) e = go (eqb y 96) refl e
  where
    go : (b : Bool) → eqb y 96 ≡ b → (b && eqb (get_or ys 0 0) 34) ≡ false
        → verdict (bare Slanted (quoted false)) (y ∷ ys) ≡ verdict (standing Solid (quoted false) true []) (y ∷ ys)
    go true p e = twice_next false y ys p ∙ (twice_solid ys e ∙ sym (twice_from y ys p))
    go false p e = alike (quoted false) Slanted Solid false true [] [] refl refl y ys (rw p)

slanted_marked : (ys : List ℕ) → is_quoting ys ≡ false → verdict (bare Slanted (quoted true)) ys ≡ true
unfolding reading ended outside in_short in_marked in_slanted
slanted_marked [] e = refl
slanted_marked (y ∷ ys) e = go (eqb y 96) refl e
  where
    go : (b : Bool) → eqb y 96 ≡ b → (b && eqb (get_or ys 0 0) 34) ≡ false → verdict (bare Slanted (quoted true)) (y ∷ ys) ≡ true
    go true p e = twice_next true y ys p ∙ twice_marked ys e
    go false p e = spoilt_next (quoted true) Slanted false [] refl y ys (rw p)

slanted_mark : (b : Bool) (ys : List ℕ) → is_quoting ys ≡ true → verdict (bare Slanted (quoted b)) ys ≡ verdict (start (quoted b)) (drop 2 ys)
unfolding outside in_short in_marked in_twice
slanted_mark b [] e = cc
slanted_mark b (y ∷ []) e = true_false (eqb y 96 && false) e (and_false (eqb y 96))
slanted_mark b (y ∷ z ∷ zs) e =
    let q : z ≡ 34 = eqb-true z 34 (and_right (eqb y 96) (eqb z 34) e) in
    twice_next b y (z ∷ zs) (and_left (eqb y 96) (eqb z 34) e)
    ∙ goes (bare Twice (quoted b)) (start (quoted b)) z zs (rw q (passed (quoted b) Twice false [] refl 34 refl))

module _ (w : List ℕ) (trimmed : trim_right w ≡ w) (i : ℕ) (ys : List ℕ) (d : drop i w ≡ 96 ∷ 92 ∷ ys) where
  r2 : drop (i + 2) w ≡ ys
  r2 = rest_two w i 96 92 ys d

  abbrev r : Scan
  r = span_from true true true (i + 2) ys

  mark_at : (eqb (get_or w (i + 2) 0) 96 && eqb (get_or w (i + 3) 0) 34) ≡ is_quoting ys
  mark_at =
      let q : i + 3 ≡ i + 2 + 1 = omega arith in
      let p : get_or w (i + 3) 0 ≡ get_or ys 1 0 =
      ap (λ (n : ℕ). get_or w n 0) q ∙ (sym (get_or-drop (i + 2) w 1 0) ∙ ap (λ (l : List ℕ). get_or l 1 0) r2) in
      rw (byte_at w (i + 2) ys r2, p)

  within : r.end ≤ length w
  unfolding span_end
  within =
      let l : i + 1 < length w = goes_on w (i + 1) 92 ys (rest_one w i 96 (92 ∷ ys) d) in
      rw (← r2) (span_inside w (i + 2) (omega arith) true true).within

  -- an escaped name, or nothing that a grave accent can begin
  name_told : (b : Bool) → eqb r.end (i + 2) ≡ b
      → slant_to w (quoted false) true (i + 2) (i + 2) r ≡ told w (quoted false) (escaped_or Grave i (i + 2) 4 r)
  name_told true e =
      let q : r.end ≡ i + 2 = eqb-true r.end (i + 2) e in
      let t : escaped_or Grave i (i + 2) 4 r ≡ plain Byte i (i + 1) 4 = rw e in
      empty_to w (quoted false) true (i + 2) r q (span_empty (i + 2) ys q)
      ∙ sym (ap (told w (quoted false)) t ∙ told_bad w (quoted false) (plain Byte i (i + 1) 4) refl)
  name_told false e =
      let n : r.end ≡ i + 2 → ⊥ = eqb-false r.end (i + 2) e in
      let p : i + 2 ≤ r.end = span_past true (i + 2) ys in
      let l : r.end ≤ length w = within in
      let o : is_open (part w (i + 2) r.end) ≡ true = rw (part_more w (i + 2) r.end (omega arith) (omega arith)) in
      let t : escaped_or Grave i (i + 2) 4 r ≡ named Grave i (i + 2) r.end r.bar = rw e in
      let b : eqb (get_or w (i + 1) 0) 92 ≡ true = rw (byte_at w (i + 1) (92 ∷ ys) (rest_one w i 96 (92 ∷ ys) d)) in
      slanted_told w i false r b o ∙ ap (told w (quoted false)) (sym t)

  pub slanted_meets : (b : Bool) → verdict (bare Slanted (quoted b)) ys ≡ told w (quoted b) (escaped_grave (mode_of (quoted b)) w i)
  unfolding escaped_grave span_end
  slanted_meets b = go (is_quoting ys) b refl
    where
      go : (a b : Bool) → is_quoting ys ≡ a → verdict (bare Slanted (quoted b)) ys ≡ told w (quoted b) (escaped_grave (mode_of (quoted b)) w i)
      go true b e =
          let t : escaped_grave (mode_of (quoted b)) w i ≡ plain EscapedQuote i (i + 4) 0 = rw (mark_at, e) in
          let q : i + 4 ≡ i + 2 + 2 = omega arith in
          let z : drop (i + 4) w ≡ drop 2 ys = ap (λ (n : ℕ). drop n w) q ∙ (sym (drop-drop 2 (i + 2) w) ∙ ap (drop 2) r2) in
          slanted_mark b ys e ∙ sym (ap (told w (quoted b)) t ∙ rw z)
      go false true e =
          let t : escaped_grave (mode_of (quoted true)) w i ≡ plain Byte i (i + 1) 4 = rw (mark_at, e) in
          slanted_marked ys e ∙ sym (ap (told w (quoted true)) t ∙ told_bad w (quoted true) (plain Byte i (i + 1) 4) refl)
      go false false e =
          let t : escaped_grave (mode_of (quoted false)) w i ≡ escaped_or Grave i (i + 2) 4 r = rw (mark_at, e, r2) in
          slanted_solid ys e
          ∙ (solid_reads w trimmed (quoted false) refl true (i + 2) (i + 2) [] ys (reads_first r2) (omega arith)
          ∙ (name_told (eqb r.end (i + 2)) refl ∙ ap (told w (quoted false)) (sym t)))
