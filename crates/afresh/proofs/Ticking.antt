-- A `/` or a comment, and a based number or an apostrophe: what is read of one byte by byte is what judging it has.
-- Assumes nothing.
use Prim.Native.Nat.{ℕ, ◌+◌, ◌≤◌}
use mathlib.Core.Bool.{Bool, true, false, not, ◌||◌}
use mathlib.Core.List.{List, [], ◌∷◌}
use mathlib.Core.Path.{◌≡◌, refl, ap, sym, ◌∙◌}
use native.Mathlib.Omega.{arith}
use lib.Dec.{eqb}
use lib.ListN.{get_or, drop}
use Rattle.text.specs.Bytes.{holds, part}
use Rattle.lex.specs.Classes.{is_start, is_sign, is_base}
use Rattle.lex.specs.Scans.{run_from, run_end, span_end, block_end}
use Rattle.lex.specs.Tokens.{LineComment, BlockComment, Based, Byte, plain, scanned, slash_token, digits_token, based_token}
use Rattle.lex.specs.declared.Scan.{Scan}
use Rattle.brackets.specs.Steps.{step_of}
use Rattle.afresh.specs.States.{Based as Digits, Start, Word, Tick, Sign, Slash, State, sign, fresh, closed, in_word, in_tick, in_short, outside, reading, leaves, ended}
use Rattle.afresh.proofs.Sorts.{or_true, apart, sign_start, sign_base, base_start}
use Rattle.afresh.proofs.Going.{Hold, is_text, marks_of, standing, bare, start, verdict, fresh_alike, goes, passed, spoilt_next, alike, clear}
use Rattle.afresh.proofs.Placing.{byte_at}
use Rattle.afresh.proofs.Wording.{run_past, run_clean, letter_next, start_next, based_reads}
use Rattle.afresh.proofs.Telling.{either, single_on, mode_of, told, told_bad, told_fit, rest_one, rest_two, clean_first, told_byte}

module _ (h : Hold) where
  -- past a `/`
  slash_reads : (xs : List ℕ) → verdict (bare Slash h) xs ≡ ((eqb (get_or xs 0 0) 47 || eqb (get_or xs 0 0) 42) || verdict (start h) xs)
  unfolding reading ended leaves outside in_short
  slash_reads [] = refl
  slash_reads (x ∷ xs) = go (eqb x 47 || eqb x 42) refl
    where
      go : (b : Bool) → (eqb x 47 || eqb x 42) ≡ b → verdict (bare Slash h) (x ∷ xs) ≡ (b || verdict (start h) (x ∷ xs))
      go true e = spoilt_next h Slash false [] refl x xs (rw e)
      go false e = alike h Slash Start false false [] [] refl refl x xs (rw e (fresh_alike h Slash false [] x))

-- a name goes on alike past an apostrophe
word_alike : (h : Hold) (g : Bool) (n : List ℕ) (x : ℕ) → in_word (standing Sign h g n) x ≡ in_word (standing Word h g n) x
unfolding in_word closed
word_alike h g n x = rw (fresh_alike h Sign g n x, fresh_alike h Word g n x)

module _ (w : List ℕ) (h : Hold) (i : ℕ) where
  -- a `/` that begins no comment
  pub slash_meets : (xs : List ℕ) → drop i w ≡ 47 ∷ xs → verdict (start h) (47 ∷ xs) ≡ told w h (slash_token (mode_of h) w i)
  unfolding slash_token outside fresh sign step_of
  slash_meets xs d = go (marks_of h) refl
    where
      byte : told w h (plain Byte i (i + 1) 0) ≡ verdict (start h) xs
      byte = told_byte w i 47 xs d refl h ∙ ap (λ (q : State). verdict q xs) (single_on h 47 (λ ks. refl))

      go : (b : Bool) → marks_of h ≡ b → verdict (start h) (47 ∷ xs) ≡ told w h (slash_token (mode_of h) w i)
      go true m =
          let t : slash_token (mode_of h) w i ≡ plain Byte i (i + 1) 0 = rw m in
          goes (start h) (start h) 47 xs (passed h Start false [] refl 47 (clear h 47 refl refl) ∙ rw m (either (is_text h) _))
          ∙ sym (ap (told w h) t ∙ byte)
      go false m =
          goes (start h) (bare Slash h) 47 xs (passed h Start false [] refl 47 (clear h 47 refl refl) ∙ rw m)
          ∙ (slash_reads h xs ∙ by (eqb (get_or xs 0 0) 47) (eqb (get_or xs 0 0) 42) refl refl)
        where
          b1 : get_or w (i + 1) 0 ≡ get_or xs 0 0
          b1 = byte_at w (i + 1) xs (rest_one w i 47 xs d)

          by : (a b : Bool) → eqb (get_or xs 0 0) 47 ≡ a → eqb (get_or xs 0 0) 42 ≡ b → ((a || b) || verdict (start h) xs) ≡ told w h (slash_token (mode_of h) w i)
          by true b p q =
              let r : Scan = span_end false false w (i + 2) in
              let t : slash_token (mode_of h) w i ≡ scanned LineComment i r = rw (m, b1, p) in
              sym (ap (told w h) t ∙ told_bad w h (scanned LineComment i r) (or_true (not (eqb r.bar 0))))
          by false true p q =
              let r : Scan = block_end w (i + 2) in
              let t : slash_token (mode_of h) w i ≡ scanned BlockComment i r = rw (m, b1, p, q) in
              sym (ap (told w h) t ∙ told_bad w h (scanned BlockComment i r) (or_true (not (eqb r.bar 0))))
          by false false p q =
              let t : slash_token (mode_of h) w i ≡ plain Byte i (i + 1) 0 = rw (m, b1, p, q) in
              sym (ap (told w h) t ∙ byte)

  -- past an apostrophe
  module _ (xs : List ℕ) (d : drop i w ≡ 39 ∷ xs) where
    apostrophe : told w h (plain Byte i (i + 1) 0) ≡ verdict (start h) xs
    unfolding step_of
    apostrophe = told_byte w i 39 xs d refl h ∙ ap (λ (q : State). verdict q xs) (single_on h 39 (λ ks. refl))

  -- a based number whose digits start at j
  digits_told : (j : ℕ) (xs : List ℕ) → drop j w ≡ xs → ((e : ℕ) → j ≤ e → holds 96 (part w j e) ≡ false → holds 96 (part w i e) ≡ false)
      → verdict (bare Digits h) xs ≡ told w h (plain Based i (run_end 63 w j) 0)
  unfolding run_end
  digits_told j xs d c =
      based_reads w h j xs d
      ∙ rw d (sym (told_fit w h (plain Based i (run_from 63 j xs) 0) refl refl refl refl
      (λ t. c (run_from 63 j xs) (run_past 63 j xs) (run_clean w 63 refl j xs d))))

  module _ (y : ℕ) (ys : List ℕ) (d : drop i w ≡ 39 ∷ y ∷ ys) where
    r1 : drop (i + 1) w ≡ y ∷ ys
    r1 = rest_one w i 39 (y ∷ ys) d

    -- no sign past it
    unsigned : (b : Bool) → is_base y ≡ b → is_sign y ≡ false → verdict (bare Tick h) (y ∷ ys) ≡ told w h (based_token w i)
    unfolding based_token digits_token outside in_short in_tick
    unsigned true e s =
        let t : based_token w i ≡ plain Based i (run_end 63 w (i + 1 + 1)) 0 = rw (byte_at w (i + 1) (y ∷ ys) r1, s, e) in
        let a : is_start y ≡ true = base_start y e in
        goes (bare Tick h) (bare Digits h) y ys (letter_next h Tick false [] refl y a ∙ rw e)
        ∙ (digits_told (i + 1 + 1) ys (rest_one w (i + 1) y ys r1)
        (λ n l c. clean_first w i 39 (y ∷ ys) d refl n (omega arith) (clean_first w (i + 1) y ys r1 (apart is_start y 96 a refl) n (omega arith) c))
        ∙ ap (told w h) (sym t))
    unsigned false e s =
        let t : based_token w i ≡ plain Byte i (i + 1) 0 = rw (byte_at w (i + 1) (y ∷ ys) r1, s, e) in
        alike h Tick Start false false [] [] refl refl y ys (rw (e, s) (fresh_alike h Tick false [] y))
        ∙ sym (ap (told w h) t ∙ apostrophe (y ∷ ys) d)

    module _ (s : is_sign y ≡ true) where
      -- a sign, and no base past it: a name
      word_from_sign : verdict (start h) (y ∷ ys) ≡ verdict (standing Word h false (y ∷ [])) ys
      word_from_sign =
          let a : is_start y ≡ true = sign_start y s in
          goes (start h) (standing Word h false (y ∷ [])) y ys (start_next h y a)

      sign_next : verdict (bare Tick h) (y ∷ ys) ≡ verdict (standing Sign h false (y ∷ [])) ys
      unfolding outside in_short in_tick
      sign_next = goes (bare Tick h) (standing Sign h false (y ∷ [])) y ys (letter_next h Tick false [] refl y (sign_start y s) ∙ rw (sign_base y s, s))

      -- the token is the apostrophe
      lone : verdict (standing Sign h false (y ∷ [])) ys ≡ verdict (standing Word h false (y ∷ [])) ys → is_base (get_or ys 0 0) ≡ false
          → verdict (bare Tick h) (y ∷ ys) ≡ told w h (based_token w i)
      unfolding based_token digits_token
      lone a e =
          let t : based_token w i ≡ plain Byte i (i + 1) 0 = rw (byte_at w (i + 1) (y ∷ ys) r1, s, byte_at w (i + 2) ys (rest_two w i 39 y ys d), e) in
          sign_next ∙ (a ∙ (sym word_from_sign ∙ sym (ap (told w h) t ∙ apostrophe (y ∷ ys) d)))

  module _ (y z : ℕ) (zs : List ℕ) (d : drop i w ≡ 39 ∷ y ∷ z ∷ zs) (s : is_sign y ≡ true) where
    signed_base : is_base z ≡ true → verdict (bare Tick h) (y ∷ z ∷ zs) ≡ told w h (based_token w i)
    unfolding based_token digits_token outside in_short
    signed_base e =
        let q1 : drop (i + 1) w ≡ y ∷ z ∷ zs = r1 y (z ∷ zs) d in
        let q2 : drop (i + 2) w ≡ z ∷ zs = rest_two w i 39 y (z ∷ zs) d in
        let q3 : drop (i + 1 + 1) w ≡ z ∷ zs = rest_one w (i + 1) y (z ∷ zs) q1 in
        let t : based_token w i ≡ plain Based i (run_end 63 w (i + 2 + 1)) 0 = rw (byte_at w (i + 1) (y ∷ z ∷ zs) q1, s, byte_at w (i + 2) (z ∷ zs) q2, e) in
        let a : is_start y ≡ true = sign_start y s in
        let b : is_start z ≡ true = base_start z e in
        let k : i + 2 + 1 ≡ i + 1 + 1 + 1 = omega arith in
        sign_next y (z ∷ zs) d s
        ∙ (goes (standing Sign h false (y ∷ [])) (bare Digits h) z zs (letter_next h Sign false (y ∷ []) refl z b ∙ rw e)
        ∙ (digits_told (i + 2 + 1) zs (rest_one w (i + 2) z zs q2)
        (λ n l c. clean_first w i 39 (y ∷ z ∷ zs) d refl n (omega arith)
        (clean_first w (i + 1) y (z ∷ zs) q1 (apart is_start y 96 a refl) n (omega arith)
        (clean_first w (i + 1 + 1) z zs q3 (apart is_start z 96 b refl) n (omega arith) (rw k at c))))
        ∙ ap (told w h) (sym t)))

    signed_lone : is_base z ≡ false → verdict (bare Tick h) (y ∷ z ∷ zs) ≡ told w h (based_token w i)
    unfolding outside in_short
    signed_lone e =
        lone y (z ∷ zs) d s (alike h Sign Word false false (y ∷ []) (y ∷ []) refl refl z zs (rw e (word_alike h false (y ∷ []) z))) e

  tick_meets : (xs : List ℕ) → drop i w ≡ 39 ∷ xs → verdict (bare Tick h) xs ≡ told w h (based_token w i)
  unfolding based_token digits_token reading ended leaves
  tick_meets [] d =
      let t : based_token w i ≡ plain Byte i (i + 1) 0 = rw (byte_at w (i + 1) [] (rest_one w i 39 [] d)) in
      sym (ap (told w h) t ∙ apostrophe [] d)
  tick_meets (y ∷ ys) d = go (is_sign y) refl ys d
    where
      go : (b : Bool) → is_sign y ≡ b → (ys : List ℕ) → drop i w ≡ 39 ∷ y ∷ ys → verdict (bare Tick h) (y ∷ ys) ≡ told w h (based_token w i)
      go false s ys d = unsigned y ys d (is_base y) refl s
      go true s [] d = lone y [] d s refl refl
      go true s (z ∷ zs) d = by (is_base z) refl
        where
          by : (b : Bool) → is_base z ≡ b → verdict (bare Tick h) (y ∷ z ∷ zs) ≡ told w h (based_token w i)
          by true e = signed_base y z zs d s e
          by false e = signed_lone y z zs d s e

  pub based_meets : (xs : List ℕ) → drop i w ≡ 39 ∷ xs → verdict (start h) (39 ∷ xs) ≡ told w h (based_token w i)
  unfolding outside fresh
  based_meets xs d = goes (start h) (bare Tick h) 39 xs (passed h Start false [] refl 39 (clear h 39 refl refl)) ∙ tick_meets xs d
