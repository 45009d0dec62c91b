-- Stored text read afresh, one token at a time: none is stray, unless it is barred, and what follows it is such text again.
-- Assumes nothing.
use Prim.Native.Nat.{ℕ, suc, ◌+◌, ◌-◌, ◌<◌, ◌≤◌}
use mathlib.Core.Bool.{Bool, true, false, not, ◌&&◌, ◌||◌}
use mathlib.Core.List.{List, [], ◌∷◌, ◌++◌}
use mathlib.Core.Path.{◌≡◌, refl, ap, sym, ◌∙◌}
use native.Mathlib.Numerals.{add-one}
use native.Mathlib.Omega.{arith}
use lib.Dec.{eqb, leb}
use lib.ListN.{length, get_or, drop, length-drop}
use lib.Seq.{drop-cons, drop-drop, drop_at, take_at, get_or-drop}
use borrow.Author.Tests.{eqb-true, lt-leb}
use Rattle.text.specs.Bytes.{holds, part}
use Rattle.lex.specs.Classes.{is_white, is_space, is_digit, is_start, is_run, is_sign, is_base, is_legal, is_span}
use Rattle.lex.specs.Scans.{run_from, run_end, span_from, span_end, string_from, string_end}
use Rattle.lex.specs.Tokens.{in_text, between, marks_after, string_token, slash_token, backslash_token, digits_token, based_token, escaped_grave, grave_token, sign_token, token_at}
use Rattle.lex.specs.declared.Scan.{Scan}
use Rattle.lex.specs.declared.Token.{Token}
use Rattle.lex.proofs.Tests.{by_test, true_false, and_left, and_right, read_within}
use Rattle.afresh.specs.Judging.{is_barred}
use Rattle.afresh.specs.Unfit.{is_stray}
use Rattle.afresh.proofs.Sorts.{and_false, apart}
use Rattle.afresh.proofs.Placing.{byte_at, goes_on, rest_at, part_from}
use Rattle.afresh.proofs.Marking.{is_quoting}
use Rattle.judging.proofs.Shapes.{is_sharp, Closed, close, pair, byte, Solid, Spaced, is_slashed, Made, none, some, mild, line, string, quote, joiner, mark, word, slash, solid, slanted, mild_by}

-- what a token is, and what follows it
pub data Stepped (w : List ℕ) (b : Bool) (t : Token) : Type 0 where
  barred : is_barred t ≡ true → Stepped w b t
  passed : is_stray w b t ≡ false → Made (marks_after b t) (drop t.end w) → Stepped w b t

or_left : (a b : Bool) → (a || b) ≡ false → a ≡ false
or_left true b e = e
or_left false b e = refl

or_right : (a b : Bool) → (a || b) ≡ false → b ≡ false
or_right true b e = cc
or_right false b e = e

-- past a mild byte
mild_rest : {b : Bool} {p : List ℕ} → Made b p → (x : ℕ) (xs : List ℕ) → p ≡ x ∷ xs → is_sharp b x ≡ false → Made b xs
mild_rest none x xs e n = let z : ◌≡◌ {A = ℕ} 0 1 = cc in absurd (omega arith)
mild_rest {b} (mild {p = p} h m) x xs e n = let z : p ≡ xs = cc in rw (← z) m
mild_rest (line m) x xs e n = let z : x ≡ 10 = cc in true_false (is_sharp false 10) refl (rw z at n)
mild_rest {b} (string c m) x xs e n = let z : x ≡ 34 = cc in true_false (is_sharp b 34) refl (rw z at n)
mild_rest {b} (quote m) x xs e n = let z : x ≡ 96 = cc in true_false (is_sharp b 96) refl (rw z at n)
mild_rest {b} (joiner m) x xs e n = let z : x ≡ 96 = cc in true_false (is_sharp b 96) refl (rw z at n)
mild_rest {b} (mark m) x xs e n = let z : x ≡ 96 = cc in true_false (is_sharp b 96) refl (rw z at n)
mild_rest {b} (word h m) x xs e n = let z : x ≡ 96 = cc in true_false (is_sharp b 96) refl (rw z at n)
mild_rest (slash h m) x xs e n = let z : x ≡ 47 = cc in true_false (is_sharp false 47) refl (rw z at n)
mild_rest (solid s l k m) x xs e n = let z : x ≡ 92 = cc in true_false (is_sharp false 92) refl (rw z at n)
mild_rest (slanted h s l k m) x xs e n = let z : x ≡ 96 = cc in true_false (is_sharp false 96) refl (rw z at n)

-- a string's end
closed_end : (ok : Bool) (i : ℕ) (u p : List ℕ) → Closed u → (string_from false ok i (u ++ p)).end ≡ i + length u
unfolding string_from
closed_end ok i u p close = omega arith
closed_end ok i u p (pair {x = x} {u = v} e c) = closed_end (ok && true && is_legal x) (suc (suc i)) v p c ∙ omega arith
closed_end ok i u p (byte {x = x} {u = v} e f g c) =
    let on : (o : Bool) → (string_from false o (suc i) (v ++ p)).end ≡ i + length (x ∷ v) = λ o. closed_end o (suc i) v p c ∙ omega arith in
    rw (e, f, g) (on _)

closed_clean : (u : List ℕ) → Closed u → holds 10 u ≡ false
unfolding holds
closed_clean u close = refl
closed_clean u (pair {u = v} e c) = rw e (closed_clean v c)
closed_clean u (byte {u = v} e f g c) = rw f (closed_clean v c)

-- an escaped name's end, or the place of its last byte, a `\` before a newline
data Spanned (i : ℕ) (n p : List ℕ) (r : Scan) : Type 0 where
  level : r.end ≡ i + length n → Spanned i n p r
  over : {k : ℕ} → suc k ≡ length n → r.end ≡ i + k → drop k (n ++ p) ≡ 92 ∷ p → Spanned i n p r

spanned_more : (i x : ℕ) (n p : List ℕ) (r : Scan) → Spanned (suc i) n p r → Spanned i (x ∷ n) p r
spanned_more i x n p r (level e) = level (e ∙ omega arith)
spanned_more i x n p r (over {k = k} e f g) = over {k = suc k} (ap suc e) (f ∙ omega arith) g

no_newline : (n p : List ℕ) → Solid n → eqb (get_or (n ++ p) 0 0) 10 ≡ true → n ≡ []
no_newline n p none e = refl
no_newline n p (some {x = x} h s) e = true_false (is_span true x) h (rw (eqb-true x 10 e))

span_of : (ok : Bool) (i : ℕ) (n p : List ℕ) → Solid n → Spaced p → Spanned i n p (span_from true true ok i (n ++ p))
unfolding span_from
span_of ok i n p none none = level (omega arith)
span_of ok i n p none (some {x = x} e) =
    let z : is_span true x ≡ false = go (eqb x 10) (is_white x) e in
    rw z (level (omega arith))
  where
    go : (a c : Bool) → (a || c) ≡ true → (not a && not (true && c)) ≡ false
    go true c e = refl
    go false true e = refl
    go false false e = sym e
span_of ok i n p (some {x = x} {n = m} e s) k =
    rw e
    (by_test (Spanned i (x ∷ m) p) (eqb x 92 && eqb (get_or (m ++ p) 0 0) 10)
    (λ h. let q : x ≡ 92 = eqb-true x 92 (and_left (eqb x 92) (eqb (get_or (m ++ p) 0 0) 10) h) in
    let z : m ≡ [] = no_newline m p s (and_right (eqb x 92) (eqb (get_or (m ++ p) 0 0) 10) h) in
    over {k = 0} (rw z) (omega arith) (rw (z, q)))
    (λ h. spanned_more i x m p (span_from true true (ok && is_legal x) (suc i) (m ++ p)) (span_of (ok && is_legal x) (suc i) m p s k)))

-- past an escaped name that starts at `from`
record Past (w : List ℕ) (from : ℕ) (r : Scan) : Type 0 where
  fits : (leb 1024 (r.end - from) && eqb (get_or w r.end 0) 92) ≡ false
  made : Made false (drop r.end w)

drop_past : (w : List ℕ) (i k : ℕ) (xs : List ℕ) → drop i w ≡ xs → drop (i + k) w ≡ drop k xs
drop_past w i k xs d = sym (drop-drop k i w) ∙ ap (drop k) d

spaced_first : (p : List ℕ) → Spaced p → eqb (get_or p 0 0) 92 ≡ false
spaced_first p none = refl
spaced_first p (some {x = x} e) = apart is_space x 92 e refl

module _ (w : List ℕ) (from : ℕ) (n p : List ℕ) (d : drop from w ≡ n ++ p) (l : length n ≤ 1024) (k : Spaced p) (m : Made false p) where
  past_of : (r : Scan) → Spanned from n p r → Past w from r
  past_of r (level e) =
      let z : drop r.end w ≡ p = ap (λ j. drop j w) e ∙ (drop_past w from (length n) (n ++ p) d ∙ drop_at n p (length n) refl) in
      record {
        fits = rw (byte_at w r.end p z, spaced_first p k) (and_false (leb 1024 (r.end - from)));
        made = rw z m;
      }
  past_of r (over {k = j} e f g) =
      let z : drop r.end w ≡ 92 ∷ p = ap (λ j. drop j w) f ∙ (drop_past w from j (n ++ p) d ∙ g) in
      let q : r.end - from < 1024 = omega arith in
      record {
        fits = rw (lt-leb 1024 (r.end - from) q);
        made = rw z (solid none (omega arith) k m);
      }

  span_past : Solid n → Past w from (span_end true true w from)
  unfolding span_end
  span_past s = past_of (span_from true true true from (drop from w)) (rw d (span_of true from n p s k))

-- an escaped name with a grave accent before it is no escaped quote mark
unmarked : (n p : List ℕ) → Spaced p → is_quoting n ≡ false → is_quoting (n ++ p) ≡ false
unmarked [] p none e = refl
unmarked [] p (some {x = x} k) e = rw (apart is_space x 96 k refl)
unmarked (x ∷ []) p none e = e
unmarked (x ∷ []) p (some {x = y} k) e = rw (apart is_space y 34 k refl) (and_false (eqb x 96))
unmarked (x ∷ y ∷ n) p k e = e

-- between quote marks a `/` or a `\` is a byte like others
plain_slash : (w : List ℕ) (b : Bool) (i : ℕ) → Made b (drop (i + 1) w) → is_sharp b 47 ≡ false → Stepped w b (slash_token (between in_text b) w i)
unfolding slash_token
plain_slash w true i m n = passed refl m
plain_slash w false i m n = true_false (is_sharp false 47) refl n

plain_backslash : (w : List ℕ) (b : Bool) (i : ℕ) → Made b (drop (i + 1) w) → is_sharp b 92 ≡ false → Stepped w b (backslash_token (between in_text b) w i)
unfolding backslash_token
plain_backslash w true i m n = passed refl m
plain_backslash w false i m n = true_false (is_sharp false 92) refl n

module _ (w : List ℕ) (b : Bool) where
  abbrev Met : Token → Type 0
  Met = Stepped w b

  -- past a mild byte of w
  made_next : (p : ℕ → Bool) → p 0 ≡ false → ((x : ℕ) → p x ≡ true → is_sharp b x ≡ false) → (k : ℕ) → Made b (drop k w) → p (get_or w k 0) ≡ true → Made b (drop (k + 1) w)
  made_next p z h k m e =
      let l : k < length w = read_within p z w k e in
      rw (add-one k) (mild_rest m (get_or w k 0) (drop (suc k) w) (drop-cons w k 0 l) (h (get_or w k 0) e))

  -- past a run
  run_made : (more : ℕ) → ((x : ℕ) → is_run more x ≡ true → is_sharp b x ≡ false) → (i : ℕ) (xs : List ℕ) → drop i w ≡ xs → Made b xs → Made b (drop (run_from more i xs) w)
  unfolding run_from
  run_made more h i [] d m = rw d m
  run_made more h i (x ∷ xs) d m =
      by_test (λ (e : ℕ). Made b (drop e w)) (is_run more x)
      (λ e. run_made more h (suc i) xs (rest_at w i x xs d) (mild_rest m x xs refl (h x e))) (λ e. rw d m)

  name_mild : (x : ℕ) → is_run 36 x ≡ true → is_sharp b x ≡ false
  name_mild = mild_by (is_run 36) refl refl refl refl refl b

  digits_mild : (x : ℕ) → is_run 63 x ≡ true → is_sharp b x ≡ false
  digits_mild = mild_by (is_run 63) refl refl refl refl refl b

  name_made : (i : ℕ) → Made b (drop i w) → Made b (drop (run_end 36 w i) w)
  unfolding run_end
  name_made i m = run_made 36 name_mild i (drop i w) refl m

  digits_made : (i : ℕ) → Made b (drop i w) → Made b (drop (run_end 63 w i) w)
  unfolding run_end
  digits_made i m = run_made 63 digits_mild i (drop i w) refl m

  module _ (i x : ℕ) (xs : List ℕ) (d : drop i w ≡ x ∷ xs) where
    rest_one : drop (i + 1) w ≡ xs
    rest_one = rw (add-one i) (rest_at w i x xs d)

    module _ (m : Made b xs) where
      next_made : Made b (drop (i + 1) w)
      next_made = rw rest_one m

      digits_meets : (k : ℕ) → Made b (drop k w) → Met (digits_token w i k)
      unfolding digits_token
      digits_meets k n =
          by_test Met (is_base (get_or w k 0))
          (λ e. passed refl (digits_made (k + 1) (made_next is_base refl (mild_by is_base refl refl refl refl refl b) k n e))) (λ e. passed refl next_made)

      based_meets : Met (based_token w i)
      unfolding based_token
      based_meets =
          let q : i + 2 ≡ i + 1 + 1 = omega arith in
          by_test Met (is_sign (get_or w (i + 1) 0))
          (λ e. digits_meets (i + 2) (rw q (made_next is_sign refl (mild_by is_sign refl refl refl refl refl b) (i + 1) next_made e)))
          (λ e. digits_meets (i + 1) next_made)

      mild_meets : is_sharp b x ≡ false → Met (token_at (between in_text b) w i)
      unfolding token_at sign_token
      mild_meets n =
          rw (lt-leb (length w) i (goes_on w i x xs d), byte_at w i (x ∷ xs) d)
          (by_test Met (is_white x) (λ e. passed refl next_made)
          (λ e. by_test Met (is_start x) (λ e. passed refl (name_made (i + 1) next_made))
          (λ e. by_test Met (is_digit x) (λ e. passed refl (name_made (i + 1) next_made))
          (λ e. by_test Met (eqb x 10) (λ e. true_false (is_sharp b 10) refl (rw (eqb-true x 10 e) at n))
          (λ e. by_test Met (eqb x 36) (λ e. passed refl (name_made (i + 1) next_made))
          (λ e. by_test Met (eqb x 34) (λ e. true_false (is_sharp b 34) refl (rw (eqb-true x 34 e) at n))
          (λ e. by_test Met (eqb x 47) (λ e. plain_slash w b i next_made (rw (eqb-true x 47 e) at n))
          (λ e. by_test Met (eqb x 92) (λ e. plain_backslash w b i next_made (rw (eqb-true x 92 e) at n))
          (λ e. by_test Met (eqb x 39) (λ e. based_meets)
          (λ e. by_test Met (eqb x 96) (λ e. true_false (is_sharp b 96) refl (rw (eqb-true x 96 e) at n)) (λ e. passed refl next_made)))))))))))

  -- a string
  string_meets : (i : ℕ) (u p : List ℕ) → drop i w ≡ 34 ∷ (u ++ p) → Closed u → Made b p → Met (string_token w i)
  unfolding string_token string_end holds
  string_meets i u p d c m =
      let r = string_from false true (i + 1) (drop (i + 1) w) in
      let z : drop (i + 1) w ≡ u ++ p = rest_one i 34 (u ++ p) d in
      let q : r.end ≡ i + 1 + length u = rw z (closed_end true (i + 1) u p c) in
      let k : r.end - suc i ≡ length u = omega arith in
      let h : part w i r.end ≡ 34 ∷ u =
      part_from w i 34 (u ++ p) d r.end (omega arith)
      ∙ ap (λ ys. 34 ∷ ys) (rw (rest_at w i 34 (u ++ p) d, k) (take_at u p (length u) refl)) in
      let g : drop r.end w ≡ p = ap (λ j. drop j w) q ∙ (drop_past w (i + 1) (length u) (u ++ p) z ∙ drop_at u p (length u) refl) in
      by_test Met (eqb (get_or w (i + 1) 0) 34 && eqb (get_or w (i + 2) 0) 34) (λ e. barred refl)
      (λ e. passed (ap (λ l. holds 10 l || false) h ∙ rw (closed_clean u c)) (rw g m))

  -- the bytes behind a grave accent
  module _ (i x y : ℕ) (xs : List ℕ) (d : drop i w ≡ x ∷ y ∷ xs) where
    rest_two : drop (i + 2) w ≡ xs
    rest_two =
        let q : i + 2 ≡ i + 1 + 1 = omega arith in
        ap (λ j. drop j w) q ∙ rest_one (i + 1) y xs (rest_one i x (y ∷ xs) d)

    byte_two : get_or w (i + 1) 0 ≡ y
    byte_two = byte_at w (i + 1) (y ∷ xs) (rest_one i x (y ∷ xs) d)

  module _ (i : ℕ) (y : ℕ) (xs : List ℕ) (d : drop i w ≡ 96 ∷ y ∷ xs) where
    quote_meets : y ≡ 34 → Made (not b) xs → Met (grave_token (between in_text b) w i)
    unfolding grave_token
    quote_meets e m = rw (byte_two i 96 y xs d, e) (passed refl (rw (rest_two i 96 y xs d) m))

    joiner_meets : y ≡ 96 → Made b xs → Met (grave_token (between in_text b) w i)
    unfolding grave_token
    joiner_meets e m = rw (byte_two i 96 y xs d, e) (passed refl (rw (rest_two i 96 y xs d) m))

    word_meets : is_start y ≡ true → Made b xs → Met (grave_token (between in_text b) w i)
    unfolding grave_token
    word_meets e m =
        rw (byte_two i 96 y xs d, e)
        (passed (rw (byte_two i 96 y xs d, apart is_start y 92 e refl)) (name_made (i + 2) (rw (rest_two i 96 y xs d) m)))

  mark_meets : (i : ℕ) (xs : List ℕ) → drop i w ≡ 96 ∷ 92 ∷ 96 ∷ 34 ∷ xs → Made b xs → Met (grave_token (between in_text b) w i)
  unfolding grave_token escaped_grave
  mark_meets i xs d m =
      let f : drop (i + 2) w ≡ 96 ∷ 34 ∷ xs = rest_two i 96 92 (96 ∷ 34 ∷ xs) d in
      let q : i + 3 ≡ i + 2 + 1 = omega arith in
      let r : i + 4 ≡ i + 2 + 2 = omega arith in
      rw (byte_two i 96 92 (96 ∷ 34 ∷ xs) d, byte_at w (i + 2) (96 ∷ 34 ∷ xs) f, q, byte_two (i + 2) 96 34 xs f)
      (passed refl (rw (r, rest_two (i + 2) 96 34 xs f) m))

-- outside quote marks
module _ (w : List ℕ) (i : ℕ) where
  slash_meets : (p : List ℕ) → drop i w ≡ 47 ∷ p → is_slashed (get_or p 0 0) ≡ false → Made false p → Stepped w false (slash_token (between in_text false) w i)
  unfolding slash_token
  slash_meets p d e m =
      let z : get_or w (i + 1) 0 ≡ get_or p 0 0 = byte_at w (i + 1) p (rest_one w false i 47 p d) in
      rw (z, or_left (eqb (get_or p 0 0) 47) (eqb (get_or p 0 0) 42) e, or_right (eqb (get_or p 0 0) 47) (eqb (get_or p 0 0) 42) e)
      (passed refl (rw (rest_one w false i 47 p d) m))

  solid_meets : (n p : List ℕ) → drop i w ≡ 92 ∷ (n ++ p) → Solid n → length n ≤ 1024 → Spaced p → Made false p → Stepped w false (backslash_token (between in_text false) w i)
  unfolding backslash_token
  solid_meets n p d s l k m =
      let h : Past w (i + 1) (span_end true true w (i + 1)) = span_past w (i + 1) n p (rest_one w false i 92 (n ++ p) d) l k m s in
      by_test (Stepped w false) (eqb (span_end true true w (i + 1)).end (i + 1))
      (λ e. passed refl (rw (← eqb-true (span_end true true w (i + 1)).end (i + 1) e) h.made))
      (λ e. passed h.fits h.made)

  slanted_meets : (n p : List ℕ) → drop i w ≡ 96 ∷ 92 ∷ (n ++ p) → is_quoting n ≡ false → Solid n → length n ≤ 1024 → Spaced p → Made false p
      → Stepped w false (grave_token (between in_text false) w i)
  unfolding grave_token escaped_grave
  slanted_meets n p d e s l k m =
      let f : drop (i + 2) w ≡ n ++ p = rest_two w false i 96 92 (n ++ p) d in
      let h : Past w (i + 2) (span_end true true w (i + 2)) = span_past w (i + 2) n p f l k m s in
      let q : i + 3 ≡ i + 2 + 1 = omega arith in
      let j : get_or w (i + 3) 0 ≡ get_or (n ++ p) 1 0 =
      ap (λ k. get_or w k 0) q ∙ (sym (get_or-drop (i + 2) w 1 0) ∙ ap (λ ys. get_or ys 1 0) f) in
      let g : (eqb (get_or w (i + 2) 0) 96 && eqb (get_or w (i + 3) 0) 34) ≡ false = rw (byte_at w (i + 2) (n ++ p) f, j) (unmarked n p k e) in
      rw (byte_two w false i 96 92 (n ++ p) d, g)
      (by_test (Stepped w false) (eqb (span_end true true w (i + 2)).end (i + 2))
      (λ e. barred refl)
      (λ e. passed (rw h.fits (and_false (eqb (get_or w (i + 1) 0) 92))) h.made))

-- one token
pub steps : (w : List ℕ) (b : Bool) (i : ℕ) (p : List ℕ) → drop i w ≡ p → i < length w → Made b p → Stepped w b (token_at (between in_text b) w i)
unfolding token_at sign_token
steps w b i p d l none = absurd (omega (arith, ap length d, length-drop i w))
steps w b i p d l (mild {x = x} {p = q} n m) = mild_meets w b i x q d m n
steps w b i p d l (line {p = q} m) = rw (lt-leb (length w) i l, byte_at w i (10 ∷ q) d) (passed refl (rw (rest_one w false i 10 q d) m))
steps w b i p d l (string {u = u} {p = q} c m) = rw (lt-leb (length w) i l, byte_at w i (34 ∷ (u ++ q)) d) (string_meets w b i u q d c m)
steps w b i p d l (quote {p = q} m) = rw (lt-leb (length w) i l, byte_at w i (96 ∷ 34 ∷ q) d) (quote_meets w b i 34 q d refl m)
steps w b i p d l (joiner {p = q} m) = rw (lt-leb (length w) i l, byte_at w i (96 ∷ 96 ∷ q) d) (joiner_meets w b i 96 q d refl m)
steps w b i p d l (mark {p = q} m) = rw (lt-leb (length w) i l, byte_at w i (96 ∷ 92 ∷ 96 ∷ 34 ∷ q) d) (mark_meets w b i q d m)
steps w b i p d l (word {x = x} {p = q} e m) = rw (lt-leb (length w) i l, byte_at w i (96 ∷ x ∷ q) d) (word_meets w b i x q d e m)
steps w b i p d l (slash {p = q} e m) = rw (lt-leb (length w) i l, byte_at w i (47 ∷ q) d) (slash_meets w i q d e m)
steps w b i p d l (solid {n = n} {p = q} s h k m) = rw (lt-leb (length w) i l, byte_at w i (92 ∷ (n ++ q)) d) (solid_meets w i n q d s h k m)
steps w b i p d l (slanted {n = n} {p = q} e s h k m) =
    rw (lt-leb (length w) i l, byte_at w i (96 ∷ 92 ∷ (n ++ q)) d) (slanted_meets w i n q d e s h k m)
