-- An escaped name, plain or behind a grave accent, read to its end.
-- Assumes nothing.
use Prim.Native.Nat.{ℕ, suc, ◌-◌, ◌<◌, ◌≤◌}
use mathlib.Core.Bool.{Bool, true, false, not, ◌&&◌, ◌||◌}
use mathlib.Core.List.{List, [], ◌∷◌, ◌++◌}
use mathlib.Core.Path.{◌≡◌, refl, ap, sym, ◌∙◌}
use native.Mathlib.Nat.{le_refl}
use native.Mathlib.Omega.{arith}
use lib.Dec.{eqb, leb, ltb}
use lib.ListN.{length, get_or, drop}
use borrow.Author.Tests.{lt-leb, lt-ltb, le-ltb, leb-true, leb-false, eqb-true}
use Rattle.text.specs.Bytes.{holds, part}
use Rattle.text.proofs.Matching.{part_none}
use Rattle.lex.specs.Classes.{is_space, is_white, is_legal, is_span}
use Rattle.lex.specs.Scans.{scan, span_from}
use Rattle.lex.specs.declared.Scan.{Scan}
use Rattle.lex.proofs.Tests.{by_test}
use Rattle.storing.specs.Stored.{trim_right}
use Rattle.afresh.specs.States.{Start, Solid, Doubt, Line, Bad, sign, fresh, closed, in_solid, in_doubt, in_marked, in_short, outside, next, reading, leaves, ended}
use Rattle.afresh.proofs.Sorts.{or_true, and_false, apart}
use Rattle.afresh.proofs.Going.{Hold, is_text, marks_of, standing, bare, start, verdict, spoils, goes, bad_stays, barred, passed, spoilt_next, alike, fresh_alike, clear, closes}
use Rattle.afresh.proofs.Placing.{byte_at, part_from, Reads, reads_name, reads_long, reads_more, longer_by}
use Rattle.afresh.proofs.Wording.{at_end, over}
use Rattle.afresh.proofs.Ending.{trimmed_next, trimmed_drop, space_reads, line_reads}

abbrev span : Bool → ℕ → List ℕ → Scan
span ok i xs = span_from true true ok i xs

pub span_past : (ok : Bool) (i : ℕ) (xs : List ℕ) → i ≤ (span ok i xs).end
unfolding span_from
span_past ok i [] = le_refl i
span_past ok i (x ∷ xs) =
    by_test (λ (r : Scan). i ≤ r.end) (not (is_span true x)) (λ e. le_refl i)
    (λ e. by_test (λ (r : Scan). i ≤ r.end) (eqb x 92 && eqb (get_or xs 0 0) 10) (λ d. le_refl i)
    (λ d. let p = span_past (ok && is_legal x) (suc i) xs in omega arith))

-- past an illegal byte it is barred
span_barred : (i : ℕ) (xs : List ℕ) → (span false i xs).bar ≡ 2
unfolding span_from
span_barred i [] = refl
span_barred i (x ∷ xs) =
    by_test (λ (r : Scan). r.bar ≡ 2) (not (is_span true x)) (λ e. refl)
    (λ e. by_test (λ (r : Scan). r.bar ≡ 2) (eqb x 92 && eqb (get_or xs 0 0) 10) (λ d. refl) (λ d. span_barred (suc i) xs))

-- where no byte is scanned nothing bars
pub span_empty : (i : ℕ) (xs : List ℕ) → (span true i xs).end ≡ i → (span true i xs).bar ≡ 0
unfolding span_from
span_empty i [] = λ e. refl
span_empty i (x ∷ xs) =
    by_test (λ (r : Scan). r.end ≡ i → r.bar ≡ 0) (not (is_span true x)) (λ e q. refl)
    (λ e. by_test (λ (r : Scan). r.end ≡ i → r.bar ≡ 0) (eqb x 92 && eqb (get_or xs 0 0) 10) (λ d q. refl)
    (λ d q. let p = span_past (is_legal x) (suc i) xs in absurd (omega arith)))

span_space : (x : ℕ) → is_span true x ≡ not (is_space x)
span_space x = go (eqb x 10) (is_white x)
  where
    go : (a b : Bool) → (not a && not b) ≡ not (a || b)
    go true b = refl
    go false b = refl

span_stop : (i x : ℕ) (xs : List ℕ) → is_space x ≡ true → span true i (x ∷ xs) ≡ scan i true 0
unfolding span_from
span_stop i x xs p = rw (span_space x, p)

span_on : (i x : ℕ) (xs : List ℕ) → is_space x ≡ false → eqb x 92 ≡ false → span true i (x ∷ xs) ≡ span (is_legal x) (suc i) xs
unfolding span_from
span_on i x xs p q = rw (span_space x, p, q)

-- no grave accent here: the rest says whether there is one
skip : (t a b : Bool) → (t && a) ≡ false → (t && (a || b)) ≡ (t && b)
skip true true b e = cc
skip true false b e = refl
skip false a b e = refl

or_assoc : (a b c : Bool) → (a || (b || c)) ≡ ((a || b) || c)
or_assoc true b c = refl
or_assoc false b c = refl

hit : (t a b : Bool) → (t && a) ≡ true → (t && (a || b)) ≡ true
hit true true b e = refl
hit true false b e = cc
hit false a b e = cc

module _ (w : List ℕ) (h : Hold) (g : Bool) (from : ℕ) where
  -- an escaped name of which the part from i on is scanned: barred, too long, crowded, with a grave accent in a default, a
  -- directive's behind a grave accent, or what follows it is bad
  abbrev pub slant_to : ℕ → Scan → Bool
  slant_to i r =
      not (eqb r.bar 0) ||
      (ltb 1024 (r.end - from) ||
      ((leb 1024 (r.end - from) && eqb (get_or w r.end 0) 92) ||
      ((not (is_text h) && holds 96 (part w i r.end)) ||
      (spoils g (part w from r.end) || verdict (start h) (drop r.end w)))))

  -- the name n ends at i
  end_to : {i : ℕ} {n xs : List ℕ} → Reads w from i n xs
      → slant_to i (scan i true 0) ≡ (ltb 1024 (length n) || ((leb 1024 (length n) && eqb (get_or w i 0) 92) || (spoils g n || verdict (start h) xs)))
  unfolding holds
  end_to {i} r = rw (reads_name r, reads_long r, part_none w i i (le_refl i), and_false (not (is_text h)), r.here)

  -- at no `\`
  stop_to : {i : ℕ} {n xs : List ℕ} → Reads w from i n xs → length n ≤ 1024 → eqb (get_or xs 0 0) 92 ≡ false
      → slant_to i (scan i true 0) ≡ (spoils g n || verdict (start h) xs)
  stop_to {i} {n} {xs} r l e = end_to r ∙ rw (le-ltb 1024 (length n) l, byte_at w i xs r.here, e, and_false (leb 1024 (length n)))

  -- there is no name
  pub empty_to : (r : Scan) → r.end ≡ from → r.bar ≡ 0 → slant_to from r ≡ (spoils g [] || verdict (start h) (drop from w))
  unfolding holds
  empty_to r e b =
      let z : from - from ≡ 0 = omega arith in
      rw (b, e, part_none w from from (le_refl from), z, and_false (not (is_text h)))

  -- a name of 1,024 bytes and one more
  over_to : {i : ℕ} {n xs : List ℕ} → Reads w from i n xs → 1024 ≤ length n → (s : Scan) → suc i ≤ s.end → slant_to i s ≡ true
  over_to r l s p = rw (over r l s.end p) (or_true (not (eqb s.bar 0)))

  module _ (i x : ℕ) (xs : List ℕ) (d : drop i w ≡ x ∷ xs) (r : Scan) (p : i < r.end) where
    accent_to : (not (is_text h) && eqb x 96) ≡ true → slant_to i r ≡ true
    unfolding holds
    accent_to e =
        rw (
          part_from w i x xs d r.end p,
          hit (not (is_text h)) (eqb x 96) (holds 96 (part w (suc i) r.end)) e,
          or_true (leb 1024 (r.end - from) && eqb (get_or w r.end 0) 92),
          or_true (ltb 1024 (r.end - from)),
        ) (or_true (not (eqb r.bar 0)))

    -- one byte further
    on_to : (not (is_text h) && eqb x 96) ≡ false → slant_to i r ≡ slant_to (suc i) r
    unfolding holds
    on_to e = rw (part_from w i x xs d r.end p, skip (not (is_text h)) (eqb x 96) (holds 96 (part w (suc i) r.end)) e)

-- a name goes on alike in either of its states
solid_alike : (h : Hold) (k : ℕ) (g : Bool) (n : List ℕ) (x : ℕ) → in_solid (standing k h g n) x ≡ in_solid (standing Solid h g n) x
unfolding in_solid closed
solid_alike h k g n x = rw (fresh_alike h k g n x, fresh_alike h Solid g n x)

-- `\` and a newline between tokens
back_line : (h : Hold) → marks_of h ≡ false → (xs : List ℕ) → verdict (start h) (92 ∷ 10 ∷ xs) ≡ verdict (start h) xs
unfolding outside in_short in_marked in_solid fresh sign
back_line h m xs =
    goes (start h) (bare Solid h) 92 (10 ∷ xs) (passed h Start false [] refl 92 (clear h 92 refl refl) ∙ rw m)
    ∙ (closes h Solid Solid false [] [] refl 10 xs refl ∙ space_reads h m 10 xs refl)

-- the bytes of a name from here on, with one more read
module _ (w : List ℕ) (trimmed : trim_right w ≡ w) (h : Hold) (m : marks_of h ≡ false) (g : Bool) (from : ℕ) where
  abbrev Onward : ℕ → List ℕ → List ℕ → Type 0
  Onward i n xs = length n ≤ 1024 → verdict (standing Solid h g n) xs ≡ slant_to w h g from i (span true i xs)

  module _ (i : ℕ) (n : List ℕ) (x : ℕ) (xs : List ℕ) (r : Reads w from i n (x ∷ xs)) (l : length n ≤ 1024) where
    bad_here : (k : ℕ) → (q : List ℕ) → next (standing k h g q) x ≡ bare Bad h → (s : Scan) → slant_to w h g from i s ≡ true
        → verdict (standing k h g q) (x ∷ xs) ≡ slant_to w h g from i s
    bad_here k q e s f = goes (standing k h g q) (bare Bad h) x xs e ∙ (bad_stays h xs ∙ sym f)

    -- a byte of the name that is no `\`
    plain_to : is_space x ≡ false → eqb x 92 ≡ false → (a b c : Bool) → is_legal x ≡ a → (not (is_text h) && eqb x 96) ≡ b → leb 1024 (length n) ≡ c
        → Onward (suc i) (n ++ (x ∷ [])) xs → verdict (standing Solid h g n) (x ∷ xs) ≡ slant_to w h g from i (span a (suc i) xs)
    unfolding outside in_short in_marked in_solid
    plain_to u v false b c p q t f =
        bad_here Solid n (barred h Solid g n refl x (rw p)) (span false (suc i) xs) (rw (span_barred (suc i) xs))
    plain_to u v true true c p q t f =
        let z = span_past true (suc i) xs in
        bad_here Solid n (barred h Solid g n refl x (rw (p, q))) (span true (suc i) xs)
        (accent_to w h g from i x xs r.here (span true (suc i) xs) (omega arith) q)
    plain_to u v true false true p q t f =
        bad_here Solid n (passed h Solid g n refl x (rw (p, q)) ∙ rw (u, v, t)) (span true (suc i) xs)
        (over_to w h g from r (leb-true 1024 (length n) t) (span true (suc i) xs) (span_past true (suc i) xs))
    plain_to u v true false false p q t f =
        let z = span_past true (suc i) xs in
        let y = leb-false 1024 (length n) t in
        goes (standing Solid h g n) (standing Solid h g (n ++ (x ∷ []))) x xs (passed h Solid g n refl x (rw (p, q)) ∙ rw (u, v, t))
        ∙ (f (omega (arith, longer_by n x)) ∙ sym (on_to w h g from i x xs r.here (span true (suc i) xs) (omega arith) q))

  -- a `\` of the name, or before a newline
  module _ (i : ℕ) (n : List ℕ) where
    abbrev with_back : List ℕ
    with_back = n ++ (92 ∷ [])

    doubts : (xs : List ℕ) → length n ≤ 1024 → verdict (standing Solid h g n) (92 ∷ xs) ≡ verdict (standing Doubt h g with_back) xs
    unfolding outside in_short in_marked in_solid
    doubts xs l =
        goes (standing Solid h g n) (standing Doubt h g with_back) 92 xs
        (passed h Solid g n refl 92 (clear h 92 refl refl) ∙ rw (lt-leb 1025 (length n) (omega arith)))

    back_end : Reads w from i n (92 ∷ []) → length n ≤ 1024 → verdict (standing Solid h g n) (92 ∷ []) ≡ slant_to w h g from i (scan (suc i) true 0)
    unfolding reading ended leaves
    back_end r l =
        doubts [] l ∙ (at_end h (ltb 1024 (length with_back) || spoils g with_back)
        ∙ sym (on_to w h g from i 92 [] r.here (scan (suc i) true 0) (omega arith) (and_false (not (is_text h)))
        ∙ (end_to w h g from (reads_more r) ∙ rw (byte_at w (suc i) [] (reads_more r).here, and_false (leb 1024 (length with_back)))
        (or_assoc (ltb 1024 (length with_back)) (spoils g with_back) (verdict (start h) [])))))

    module _ (x : ℕ) (xs : List ℕ) (r : Reads w from i n (92 ∷ x ∷ xs)) (l : length n ≤ 1024) where
      -- a name of 1,024 bytes has no room for it
      full : 1024 ≤ length n → verdict (standing Doubt h g with_back) (x ∷ xs) ≡ true
      unfolding outside in_short in_marked in_doubt
      full t = spoilt_next h Doubt g with_back refl x xs (rw (lt-ltb 1024 (length with_back) (omega (arith, longer_by n 92))))

      back_newline : (b : Bool) → leb 1024 (length n) ≡ b → x ≡ 10 → verdict (standing Solid h g n) (92 ∷ x ∷ xs) ≡ slant_to w h g from i (scan i true 0)
      unfolding outside in_short in_marked in_doubt
      back_newline true t e =
          doubts (x ∷ xs) l ∙ (full (leb-true 1024 (length n) t)
          ∙ sym (end_to w h g from r ∙ rw (le-ltb 1024 (length n) l, byte_at w i (92 ∷ x ∷ xs) r.here, t)))
      back_newline false t e =
          let z = leb-false 1024 (length n) t in
          let d : drop i w ≡ 92 ∷ 10 ∷ xs = rw (← e) r.here in
          doubts (x ∷ xs) l ∙ (goes (standing Doubt h g with_back) (standing Line h g with_back) x xs (rw e (newline_next (omega (arith, longer_by n 92))))
          ∙ (line_reads h m g n 10 xs refl (trimmed_next 92 (10 ∷ xs) (rw d at (trimmed_drop i w trimmed)))
          ∙ sym (end_to w h g from r ∙ rw (le-ltb 1024 (length n) l, t, e, back_line h m xs))))
        where
          newline_next : length with_back ≤ 1024 → next (standing Doubt h g with_back) 10 ≡ standing Line h g with_back
          newline_next k = passed h Doubt g with_back refl 10 (clear h 10 refl refl) ∙ rw (le-ltb 1024 (length with_back) k)

      back_on : (b : Bool) → leb 1024 (length n) ≡ b → eqb x 10 ≡ false → Onward (suc i) with_back (x ∷ xs)
          → verdict (standing Solid h g n) (92 ∷ x ∷ xs) ≡ slant_to w h g from i (span true (suc i) (x ∷ xs))
      unfolding outside in_short in_marked in_doubt
      back_on true t e f =
          doubts (x ∷ xs) l ∙ (full (leb-true 1024 (length n) t)
          ∙ sym (over_to w h g from r (leb-true 1024 (length n) t) (span true (suc i) (x ∷ xs)) (span_past true (suc i) (x ∷ xs))))
      back_on false t e f =
          let z = leb-false 1024 (length n) t in
          let y = span_past true (suc i) (x ∷ xs) in
          let k : length with_back ≤ 1024 = omega (arith, longer_by n 92) in
          doubts (x ∷ xs) l ∙ (alike h Doubt Solid g g with_back with_back refl refl x xs (rw (le-ltb 1024 (length with_back) k, e) (solid_alike h Doubt g with_back x))
          ∙ (f k ∙ sym (on_to w h g from i 92 (x ∷ xs) r.here (span true (suc i) (x ∷ xs)) (omega arith) (and_false (not (is_text h))))))

    back_to : (xs : List ℕ) → Reads w from i n (92 ∷ xs) → length n ≤ 1024 → Onward (suc i) with_back xs
        → verdict (standing Solid h g n) (92 ∷ xs) ≡ slant_to w h g from i (span true i (92 ∷ xs))
    unfolding span_from
    back_to [] r l f = back_end r l
    back_to (x ∷ xs) r l f =
        by_test (λ (s : Scan). verdict (standing Solid h g n) (92 ∷ x ∷ xs) ≡ slant_to w h g from i s) (eqb x 10)
        (λ e. back_newline x xs r l (leb 1024 (length n)) refl (eqb-true x 10 e))
        (λ e. back_on x xs r l (leb 1024 (length n)) refl e f)

  pub solid_reads : (i : ℕ) (n xs : List ℕ) → Reads w from i n xs → length n ≤ 1024 → verdict (standing Solid h g n) xs ≡ slant_to w h g from i (span true i xs)
  unfolding reading ended leaves outside in_short in_marked in_solid span_from
  solid_reads i n [] r l = at_end h (spoils g n) ∙ sym (stop_to w h g from r l refl)
  solid_reads i n (x ∷ xs) r l = go (is_space x) (eqb x 92) refl refl (solid_reads (suc i) (n ++ (x ∷ [])) xs (reads_more r))
    where
      go : (a b : Bool) → is_space x ≡ a → eqb x 92 ≡ b → Onward (suc i) (n ++ (x ∷ [])) xs
          → verdict (standing Solid h g n) (x ∷ xs) ≡ slant_to w h g from i (span true i (x ∷ xs))
      go true b p q f =
          closes h Solid Solid g n n refl x xs (rw p)
          ∙ sym (ap (slant_to w h g from i) (span_stop i x xs p) ∙ stop_to w h g from r l (apart is_space x 92 p refl))
      go false true p q f =
          let e : x ≡ 92 = eqb-true x 92 q in
          rw e (back_to i n xs (rw e at r) l (rw e at f))
      go false false p q f =
          plain_to i n x xs r l p q (is_legal x) (not (is_text h) && eqb x 96) (leb 1024 (length n)) refl refl refl f
          ∙ ap (slant_to w h g from i) (sym (span_on i x xs p q))
