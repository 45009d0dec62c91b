-- What is stored of a definition's tokens that nothing bars, one token at a time: text such as a definition can store.
-- Assumes nothing.
use Prim.Native.Nat.{ℕ, ◌+◌, ◌-◌, ◌<◌, ◌≤◌}
use mathlib.Core.Bool.{Bool, true, false, cond, not, ◌&&◌, ◌||◌}
use mathlib.Core.List.{List, [], ◌∷◌, ◌++◌}
use mathlib.Core.Path.{◌≡◌, refl, sym}
use native.Mathlib.Nat.{le_refl}
use native.Mathlib.Omega.{arith}
use lib.Dec.{eqb, leb, ltb}
use lib.ListN.{length, get_or, drop}
use lib.Seq.{get_or-drop}
use borrow.Author.Tests.{eqb-true, ne_eqb, leb-true, leb-false, lt-leb, ltb-true, ltb-false}
use Rattle.text.specs.Bytes.{part}
use Rattle.text.proofs.Matching.{part_more, part_none}
use Rattle.lex.specs.Classes.{is_white, is_space, is_digit, is_start, is_run, is_sign, is_base}
use Rattle.lex.specs.Scans.{run_end, span_end, string_from, string_end}
use Rattle.lex.specs.Tokens.{in_definition, between, White, Newline, Escaped, Grave, Byte, Continuation, is, marks_after, plain, escaped_or, string_token, slash_token, backslash_token, digits_token, based_token, escaped_grave, grave_token, sign_token, token_at, tokens}
use Rattle.lex.specs.declared.Token.{Token}
use Rattle.lex.proofs.Tests.{by_test, true_false, and_left, and_right, read_within}
use Rattle.storing.specs.Stored.{joined_from, piece, pieces}
use Rattle.storing.proofs.Joining.{pieces_out, pieces_past, pieces_stop, pieces_next}
use Rattle.afresh.proofs.Sorts.{or_true}
use Rattle.afresh.proofs.Quoting.{string_past}
use Rattle.afresh.proofs.Marking.{is_quoting}
use Rattle.judging.proofs.Shapes.{is_sharp, Spaced, is_slashed, Made, none, some, mild, line, string, quote, joiner, mark, word, slash, solid, slanted, mild_by}
use Rattle.judging.proofs.Scanning.{run_made, run_after, string_closed, Stop, out, space, turn, Spans, spans, named_fits, part_length, taken_unmarked}

-- such text, which also has no `/` or `*` first unless the byte y has one
pub record Formed (b : Bool) (y : ℕ) (p : List ℕ) : Type 0 where
  pub made : Made b p
  pub head : b ≡ false → is_slashed y ≡ false → is_slashed (get_or p 0 0) ≡ false

module _ (s : List ℕ) (x : ℕ) where
  -- what is stored from e on
  abbrev pub rest : Bool → ℕ → List ℕ
  rest b e = pieces s x b (tokens (between in_definition b) s e)

  -- where an escaped name stops, white space is stored or nothing
  module _ (e : ℕ) (l : e < length s) where
    white_token : is_white (get_or s e 0) ≡ true → token_at (between in_definition false) s e ≡ plain White e (e + 1) 0
    unfolding token_at
    white_token h = rw (lt-leb (length s) e l, h)

    newline_token : get_or s e 0 ≡ 10 → token_at (between in_definition false) s e ≡ plain Newline e (e + 1) 0
    unfolding token_at
    newline_token h = rw (lt-leb (length s) e l, h)

    turn_token : get_or s e 0 ≡ 92 → get_or s (e + 1) 0 ≡ 10 → token_at (between in_definition false) s e ≡ plain Continuation e (e + 2) 0
    unfolding token_at sign_token backslash_token
    turn_token h k = rw (lt-leb (length s) e l, h, k)

    module _ (g : e < x) where
      white_rest : is_white (get_or s e 0) ≡ true → Spaced (rest false e)
      unfolding piece
      white_rest h =
          let z : rest false e ≡ part s e (e + 1) ++ rest false (e + 1) =
          pieces_next s x e false (between in_definition false) (plain White e (e + 1) 0) refl (sym (white_token h)) l (λ q. absurd (omega arith)) g false refl in
          rw (z, part_more s e (e + 1) (omega arith) l) (some {x = get_or s e 0} (rw h (or_true (eqb (get_or s e 0) 10))))

      turn_rest : get_or s e 0 ≡ 92 → get_or s (e + 1) 0 ≡ 10 → Spaced (rest false e)
      unfolding piece
      turn_rest h k =
          let z : rest false e ≡ 10 ∷ rest false (e + 2) =
          pieces_next s x e false (between in_definition false) (plain Continuation e (e + 2) 0) refl (sym (turn_token h k)) l (λ q. absurd (omega arith)) g false refl in
          rw z (some refl)

      space_rest : is_space (get_or s e 0) ≡ true → Spaced (rest false e)
      space_rest h = go (eqb (get_or s e 0) 10) refl h
        where
          go : (a : Bool) → eqb (get_or s e 0) 10 ≡ a → (a || is_white (get_or s e 0)) ≡ true → Spaced (rest false e)
          go true q h =
              rw (pieces_stop s x e false (between in_definition false) (plain Newline e (e + 1) 0) refl (sym (newline_token (eqb-true (get_or s e 0) 10 q))) l refl) none
          go false q h = white_rest h

      stop_rest : Stop s e → Spaced (rest false e)
      stop_rest (out h) = absurd (omega arith)
      stop_rest (space h) = space_rest h
      stop_rest (turn h k) = turn_rest h k

  pub spaced_at : (e : ℕ) → Stop s e → Spaced (rest false e)
  spaced_at e k = go (leb (length s) e) (ltb e x) refl refl
    where
      go : (a c : Bool) → leb (length s) e ≡ a → ltb e x ≡ c → Spaced (rest false e)
      go true c p q = rw (pieces_out s x e false (leb-true (length s) e p)) none
      go false true p q = stop_rest e (leb-false (length s) e p) (ltb-true e x q) k
      go false false p q = rw (pieces_past s x e false (ltb-false e x q)) none

  -- the token at i, before such text
  module _ (i : ℕ) (l : i < length s) where
    data Fits (b : Bool) (t : Token) : Type 0 where
      fit : (t.bar ≡ 0 → is Newline t ≡ false → Formed (marks_after b t) (get_or s t.end 0) (rest (marks_after b t) t.end)
          → Formed b (get_or s i 0) (piece s b t ++ rest (marks_after b t) t.end)) → Fits b t

    -- bytes one after the other
    first : (b : Bool) (r : List ℕ) (e : ℕ) → i < e → (Made b (get_or s i 0 ∷ (part s (i + 1) e ++ r))) → Formed b (get_or s i 0) (part s i e ++ r)
    first b r e h m = rw (part_more s i e h l) (record { made = m; head = λ c g. g })

    first_one : (b : Bool) (r : List ℕ) → Made b (get_or s i 0 ∷ r) → Formed b (get_or s i 0) (part s i (i + 1) ++ r)
    first_one b r m = first b r (i + 1) (omega arith) (rw (part_none s (i + 1) (i + 1) (le_refl (i + 1))) m)

    -- a mild byte
    byte_formed : (b : Bool) (r : List ℕ) → is_sharp b (get_or s i 0) ≡ false → Made b r → Formed b (get_or s i 0) (part s i (i + 1) ++ r)
    byte_formed b r n m = first_one b r (mild n m)

    name_formed : (b : Bool) (r : List ℕ) → is_sharp b (get_or s i 0) ≡ false → Made b r → Formed b (get_or s i 0) (part s i (run_end 36 s (i + 1)) ++ r)
    name_formed b r n m =
        first b r (run_end 36 s (i + 1)) (omega (arith, run_after 36 s (i + 1))) (mild n (run_made b 36 (mild_by (is_run 36) refl refl refl refl refl b) r m s (i + 1)))

    -- bytes that pass a test
    part_made : (b : Bool) (p : ℕ → Bool) → p 0 ≡ false → ((x : ℕ) → p x ≡ true → is_sharp b x ≡ false) → (k e : ℕ) (r : List ℕ) → k < e → p (get_or s k 0) ≡ true → Made b (part s (k + 1) e ++ r) → Made b (part s k e ++ r)
    part_made b p z h k e r g t m = rw (part_more s k e g (read_within p z s k t)) (mild (h (get_or s k 0) t) m)

    base_made : (b : Bool) (r : List ℕ) (k : ℕ) → is_base (get_or s k 0) ≡ true → Made b r → Made b (part s k (run_end 63 s (k + 1)) ++ r)
    base_made b r k e m =
        part_made b is_base refl (mild_by is_base refl refl refl refl refl b) k (run_end 63 s (k + 1)) r (omega (arith, run_after 63 s (k + 1))) e
        (run_made b 63 (mild_by (is_run 63) refl refl refl refl refl b) r m s (k + 1))

    based_fits : (b : Bool) → get_or s i 0 ≡ 39 → Fits b (based_token s i)
    unfolding based_token digits_token piece
    based_fits b q =
        let n : is_sharp b (get_or s i 0) ≡ false = mild_by (λ x. eqb x 39) refl refl refl refl refl b (get_or s i 0) (rw q) in
        let g : i + 2 ≡ i + 1 + 1 = omega arith in
        by_test (Fits b) (is_sign (get_or s (i + 1) 0))
        (λ e. by_test (Fits b) (is_base (get_or s (i + 2) 0))
        (λ d. fit (λ z y f. let r = rest b (run_end 63 s (i + 2 + 1)) in
        first b r (run_end 63 s (i + 2 + 1)) (omega (arith, run_after 63 s (i + 2 + 1)))
        (mild n (part_made b is_sign refl (mild_by is_sign refl refl refl refl refl b) (i + 1) (run_end 63 s (i + 2 + 1)) r (omega (arith, run_after 63 s (i + 2 + 1))) e
        (rw (← g) (base_made b r (i + 2) d f.made))))))
        (λ d. fit (λ z y f. byte_formed b (rest b (i + 1)) n f.made)))
        (λ e. by_test (Fits b) (is_base (get_or s (i + 1) 0))
        (λ d. fit (λ z y f. let r = rest b (run_end 63 s (i + 1 + 1)) in
        first b r (run_end 63 s (i + 1 + 1)) (omega (arith, run_after 63 s (i + 1 + 1)))
        (mild n (base_made b r (i + 1) d f.made))))
        (λ d. fit (λ z y f. byte_formed b (rest b (i + 1)) n f.made)))

    string_fits : (b : Bool) → get_or s i 0 ≡ 34 → Fits b (string_token s i)
    unfolding string_token string_end piece joined_from
    string_fits b q =
        by_test (Fits b) (eqb (get_or s (i + 1) 0) 34 && eqb (get_or s (i + 2) 0) 34) (λ e. fit (λ z y f. absurd (omega arith)))
        (λ e. fit (λ z y f. let r = string_from false true (i + 1) (drop (i + 1) s) in
        let p : i + 1 ≤ r.end = string_past false true (i + 1) (drop (i + 1) s) in
        rw (part_more s i r.end (omega arith) l, q)
        (record { made = string (string_closed false true (i + 1) (drop (i + 1) s) z) f.made; head = λ c g. refl })))

    -- a `/`
    slash_alone : get_or s i 0 ≡ 47 → eqb (get_or s (i + 1) 0) 47 ≡ false → eqb (get_or s (i + 1) 0) 42 ≡ false → Fits false (plain Byte i (i + 1) 0)
    unfolding piece
    slash_alone q e d = fit (λ z y f. first_one false (rest false (i + 1)) (rw q (slash (f.head refl (rw (e, d))) f.made)))

    slash_fits : (b : Bool) → get_or s i 0 ≡ 47 → Fits b (slash_token (between in_definition b) s i)
    unfolding slash_token piece
    slash_fits true q = fit (λ z y f. byte_formed true (rest true (i + 1)) (rw q) f.made)
    slash_fits false q =
        by_test (Fits false) (eqb (get_or s (i + 1) 0) 47) (λ e. fit (λ z y f. record { made = mild refl f.made; head = λ c g. refl }))
        (λ e. by_test (Fits false) (eqb (get_or s (i + 1) 0) 42) (λ d. fit (λ z y f. record { made = mild refl f.made; head = λ c g. refl }))
        (λ d. slash_alone q e d))

    -- a `\`
    escaped_fits : get_or s i 0 ≡ 92 → Fits false (escaped_or Escaped i (i + 1) 0 (span_end true true s (i + 1)))
    unfolding piece
    escaped_fits q =
        let k : Spans s (i + 1) (span_end true true s (i + 1)) = spans s (i + 1) in
        let e = (span_end true true s (i + 1)).end in
        let o : 0 ≤ 1024 = omega arith in
        by_test (Fits false) (eqb e (i + 1))
        (λ d. fit (λ z y f. first_one false (rest false (i + 1)) (rw q (solid none o (spaced_at (i + 1) (rw (← eqb-true e (i + 1) d) k.stop)) f.made))))
        (λ d. fit (λ z y f. first false (rest false e) e (omega (arith, k.past))
        (rw q (solid k.solid (part_length s (i + 1) e (named_fits (span_end true true s (i + 1)).bar (e - (i + 1)) z)) (spaced_at e k.stop) f.made))))

    backslash_fits : (b : Bool) → get_or s i 0 ≡ 92 → Fits b (backslash_token (between in_definition b) s i)
    unfolding backslash_token piece
    backslash_fits true q =
        by_test (Fits true) (eqb (get_or s (i + 1) 0) 10) (λ e. fit (λ z y f. record { made = f.made; head = λ c g. true_false true refl c }))
        (λ e. fit (λ z y f. byte_formed true (rest true (i + 1)) (rw q) f.made))
    backslash_fits false q =
        by_test (Fits false) (eqb (get_or s (i + 1) 0) 10) (λ e. fit (λ z y f. record { made = line f.made; head = λ c g. refl }))
        (λ e. escaped_fits q)

    -- two bytes, the first a grave accent
    pair_formed : (b : Bool) (r : List ℕ) (e : ℕ) → get_or s i 0 ≡ 96 → i + 1 < length s → i + 1 < e → Made b (96 ∷ get_or s (i + 1) 0 ∷ (part s (i + 2) e ++ r)) → Formed b (get_or s i 0) (part s i e ++ r)
    pair_formed b r e q h g m =
        let k : i + 2 ≡ i + 1 + 1 = omega arith in
        first b r e (omega arith) (rw (part_more s (i + 1) e g h, q, ← k) m)

    pair_one : (b : Bool) (r : List ℕ) → get_or s i 0 ≡ 96 → i + 1 < length s → Made b (96 ∷ get_or s (i + 1) 0 ∷ r) → Formed b (get_or s i 0) (part s i (i + 2) ++ r)
    pair_one b r q h m = pair_formed b r (i + 2) q h (omega arith) (rw (part_none s (i + 2) (i + 2) (le_refl (i + 2))) m)

    -- a grave accent and a `\`
    mark_formed : (b : Bool) (r : List ℕ) → get_or s i 0 ≡ 96 → get_or s (i + 1) 0 ≡ 92 → eqb (get_or s (i + 2) 0) 96 ≡ true → eqb (get_or s (i + 3) 0) 34 ≡ true → Made b r
        → Formed b (get_or s i 0) (part s i (i + 4) ++ r)
    mark_formed b r q d e f m =
        let j : i + 2 < length s = read_within (λ x. eqb x 96) refl s (i + 2) e in
        let k : i + 3 < length s = read_within (λ x. eqb x 34) refl s (i + 3) f in
        let u : i + 2 + 1 ≡ i + 3 = omega arith in
        let v : i + 3 + 1 ≡ i + 4 = omega arith in
        pair_formed b r (i + 4) q (omega arith) (omega arith)
        (rw (d, part_more s (i + 2) (i + 4) (omega arith) j, u, part_more s (i + 3) (i + 4) (omega arith) k, v, part_none s (i + 4) (i + 4) (le_refl (i + 4)), eqb-true (get_or s (i + 2) 0) 96 e, eqb-true (get_or s (i + 3) 0) 34 f)
        (mark m))

    slanted_fits : get_or s i 0 ≡ 96 → get_or s (i + 1) 0 ≡ 92 → (eqb (get_or s (i + 2) 0) 96 && eqb (get_or s (i + 3) 0) 34) ≡ false
        → Fits false (escaped_or Grave i (i + 2) 4 (span_end true true s (i + 2)))
    unfolding piece
    slanted_fits q d n =
        let k : Spans s (i + 2) (span_end true true s (i + 2)) = spans s (i + 2) in
        let e = (span_end true true s (i + 2)).end in
        let h : i + 1 < length s = read_within (λ x. eqb x 92) refl s (i + 1) (rw d) in
        let v : i + 2 + 0 ≡ i + 2 = omega arith in
        let w : i + 2 + 1 ≡ i + 3 = omega arith in
        let u : is_quoting (drop (i + 2) s) ≡ false = rw (get_or-drop (i + 2) s 0 0, get_or-drop (i + 2) s 1 0, v, w) n in
        by_test (Fits false) (eqb e (i + 2)) (λ c. fit (λ z y f. absurd (omega arith)))
        (λ c. fit (λ z y f. pair_formed false (rest false e) e q h (omega (arith, k.past))
        (rw d (slanted (taken_unmarked (e - (i + 2)) (drop (i + 2) s) u) k.solid (part_length s (i + 2) e (named_fits (span_end true true s (i + 2)).bar (e - (i + 2)) z)) (spaced_at e k.stop) f.made))))

    escaped_grave_fits : (b : Bool) → get_or s i 0 ≡ 96 → get_or s (i + 1) 0 ≡ 92 → Fits b (escaped_grave (between in_definition b) s i)
    unfolding escaped_grave piece
    escaped_grave_fits b q d =
        by_test (Fits b) (eqb (get_or s (i + 2) 0) 96 && eqb (get_or s (i + 3) 0) 34)
        (λ e. fit (λ z y f. mark_formed b (rest b (i + 4)) q d (and_left (eqb (get_or s (i + 2) 0) 96) (eqb (get_or s (i + 3) 0) 34) e) (and_right (eqb (get_or s (i + 2) 0) 96) (eqb (get_or s (i + 3) 0) 34) e) f.made))
        (λ e. go b e)
      where
        go : (b : Bool) → (eqb (get_or s (i + 2) 0) 96 && eqb (get_or s (i + 3) 0) 34) ≡ false → Fits b (cond b (plain Byte i (i + 1) 4) (escaped_or Grave i (i + 2) 4 (span_end true true s (i + 2))))
        go true e = fit (λ z y f. absurd (omega arith))
        go false e = slanted_fits q d e

    grave_fits : (b : Bool) → get_or s i 0 ≡ 96 → Fits b (grave_token (between in_definition b) s i)
    unfolding grave_token piece
    grave_fits b q =
        by_test (Fits b) (is_start (get_or s (i + 1) 0))
        (λ e. fit (λ z y f. let r = rest b (run_end 36 s (i + 2)) in
        pair_formed b r (run_end 36 s (i + 2)) q (read_within is_start refl s (i + 1) e) (omega (arith, run_after 36 s (i + 2)))
        (word e (run_made b 36 (mild_by (is_run 36) refl refl refl refl refl b) r f.made s (i + 2)))))
        (λ e. by_test (Fits b) (eqb (get_or s (i + 1) 0) 34)
        (λ d. fit (λ z y f. pair_one b (rest (not b) (i + 2)) q (read_within (λ x. eqb x 34) refl s (i + 1) d) (rw (eqb-true (get_or s (i + 1) 0) 34 d) (quote f.made))))
        (λ d. by_test (Fits b) (eqb (get_or s (i + 1) 0) 96)
        (λ c. fit (λ z y f. pair_one b (rest b (i + 2)) q (read_within (λ x. eqb x 96) refl s (i + 1) c) (rw (eqb-true (get_or s (i + 1) 0) 96 c) (joiner f.made))))
        (λ c. by_test (Fits b) (eqb (get_or s (i + 1) 0) 92)
        (λ h. escaped_grave_fits b q (eqb-true (get_or s (i + 1) 0) 92 h)) (λ h. fit (λ z y f. absurd (omega arith))))))

    other_mild : (b : Bool) (y : ℕ) → eqb y 10 ≡ false → eqb y 34 ≡ false → eqb y 47 ≡ false → eqb y 92 ≡ false → eqb y 96 ≡ false → is_sharp b y ≡ false
    other_mild true y e f g h k = rw (e, f, k)
    other_mild false y e f g h k = rw (e, f, k, g, h)

    fits : (b : Bool) → Fits b (token_at (between in_definition b) s i)
    unfolding token_at sign_token piece
    fits b =
        rw (lt-leb (length s) i l)
        (by_test (Fits b) (is_white (get_or s i 0)) (λ e. fit (λ z y f. byte_formed b (rest b (i + 1)) (mild_by is_white refl refl refl refl refl b (get_or s i 0) e) f.made))
        (λ e. by_test (Fits b) (is_start (get_or s i 0)) (λ e. fit (λ z y f. name_formed b (rest b (run_end 36 s (i + 1))) (mild_by is_start refl refl refl refl refl b (get_or s i 0) e) f.made))
        (λ e. by_test (Fits b) (is_digit (get_or s i 0)) (λ e. fit (λ z y f. name_formed b (rest b (run_end 36 s (i + 1))) (mild_by is_digit refl refl refl refl refl b (get_or s i 0) e) f.made))
        (λ e. by_test (Fits b) (eqb (get_or s i 0) 10) (λ e. fit (λ z y f. true_false true refl y))
        (λ a. by_test (Fits b) (eqb (get_or s i 0) 36) (λ e. fit (λ z y f. name_formed b (rest b (run_end 36 s (i + 1))) (mild_by (λ x. eqb x 36) refl refl refl refl refl b (get_or s i 0) e) f.made))
        (λ e. by_test (Fits b) (eqb (get_or s i 0) 34) (λ e. string_fits b (eqb-true (get_or s i 0) 34 e))
        (λ c. by_test (Fits b) (eqb (get_or s i 0) 47) (λ e. slash_fits b (eqb-true (get_or s i 0) 47 e))
        (λ d. by_test (Fits b) (eqb (get_or s i 0) 92) (λ e. backslash_fits b (eqb-true (get_or s i 0) 92 e))
        (λ g. by_test (Fits b) (eqb (get_or s i 0) 39) (λ e. based_fits b (eqb-true (get_or s i 0) 39 e))
        (λ e. by_test (Fits b) (eqb (get_or s i 0) 96) (λ e. grave_fits b (eqb-true (get_or s i 0) 96 e))
        (λ h. fit (λ z y f. byte_formed b (rest b (i + 1)) (other_mild b (get_or s i 0) a c d g h) f.made))))))))))))

  empty_formed : (b : Bool) (y : ℕ) (p : List ℕ) → p ≡ [] → Formed b y p
  empty_formed b y p e = rw e (record { made = none; head = λ c g. refl })

  -- the tokens from i on: none, or the first of them and the others
  module _ (b : Bool) (i : ℕ) where
    pub formed_out : length s ≤ i → Formed b (get_or s i 0) (rest b i)
    formed_out h = empty_formed b (get_or s i 0) (rest b i) (pieces_out s x i b h)

    pub formed_past : x ≤ i → Formed b (get_or s i 0) (rest b i)
    formed_past h = empty_formed b (get_or s i 0) (rest b i) (pieces_past s x i b h)

    module _ (l : i < length s) (t : Token) (q : t ≡ token_at (between in_definition b) s i) where
      pub formed_stop : t.kind ≡ Newline → Formed b (get_or s i 0) (rest b i)
      formed_stop e = empty_formed b (get_or s i 0) (rest b i) (pieces_stop s x i b (between in_definition b) t refl q l e)

      applied : Fits i l b t → t.bar ≡ 0 → is Newline t ≡ false → Formed (marks_after b t) (get_or s t.end 0) (rest (marks_after b t) t.end)
          → Formed b (get_or s i 0) (piece s b t ++ rest (marks_after b t) t.end)
      applied (fit g) = g

      pub formed_next : (t.kind ≡ Newline → ⊥) → i < x → t.bar ≡ 0 → Formed (marks_after b t) (get_or s t.end 0) (rest (marks_after b t) t.end)
          → Formed b (get_or s i 0) (rest b i)
      formed_next n g z f =
          rw (pieces_next s x i b (between in_definition b) t refl q l n g (marks_after b t) refl)
          (applied (rw q (fits i l b)) z (ne_eqb t.kind Newline n) f)
