-- The tokens of a grave accent: what is read of one byte by byte is what judging it has.
-- Assumes nothing.
use Prim.Native.Nat.{ℕ, ◌+◌, ◌-◌, ◌<◌, ◌≤◌}
use mathlib.Core.Bool.{Bool, true, false, not, ◌&&◌, ◌||◌}
use mathlib.Core.List.{List, [], ◌∷◌}
use mathlib.Core.Path.{◌≡◌, refl, ap, sym, ◌∙◌}
use native.Mathlib.Omega.{arith}
use lib.Dec.{eqb, ltb}
use lib.ListN.{length, get_or, drop}
use borrow.Author.Tests.{lt-leb, eqb-true}
use Rattle.text.specs.Bytes.{holds, part}
use Rattle.lex.specs.Classes.{is_start}
use Rattle.lex.specs.Scans.{run_from, run_end, span_end}
use Rattle.lex.specs.Tokens.{String, Quote, Joiner, Grave, Byte, is, plain, named, escaped_grave, grave_token, sign_token, token_at}
use Rattle.lex.specs.declared.Mode.{Mode}
use Rattle.lex.specs.declared.Token.{Token}
use Rattle.lex.proofs.Tests.{by_test}
use Rattle.lex.proofs.Progress.{token-at, token_ends}
use Rattle.names.specs.Names.{bars_text}
use Rattle.storing.specs.Stored.{trim_right}
use Rattle.afresh.specs.Unfit.{is_open, is_accented, is_unfit}
use Rattle.afresh.specs.States.{Start, Word, Accent, Slanted, Bad, fresh, in_accent, in_marked, in_short, outside, reading, leaves, ended}
use Rattle.afresh.proofs.Sorts.{or_true, apart}
use Rattle.afresh.proofs.Going.{Hold, quoted, under, standing, bare, start, verdict, spoils, goes, bad_stays, barred, passed, spoilt_next}
use Rattle.afresh.proofs.Placing.{byte_at, goes_on, part_from, Reads}
use Rattle.afresh.proofs.Wording.{run_past, letter_next, word_reads}
use Rattle.afresh.proofs.Marking.{slanted_meets}
use Rattle.afresh.proofs.Telling.{mode_of, told, told_bad, rest_one, rest_two, part_first}

abbrev NoString : Token → Type 0
NoString t = is String t ≡ false

-- no such token is a string
grave_kind : (m : Mode) (w : List ℕ) (i : ℕ) → is String (grave_token m w i) ≡ false
unfolding grave_token escaped_grave
grave_kind m w i =
    by_test NoString (is_start (get_or w (i + 1) 0)) (λ e. refl)
    (λ e. by_test NoString (eqb (get_or w (i + 1) 0) 34) (λ e. refl)
    (λ e. by_test NoString (eqb (get_or w (i + 1) 0) 96) (λ e. refl)
    (λ e. by_test NoString (eqb (get_or w (i + 1) 0) 92)
    (λ e. by_test NoString (eqb (get_or w (i + 2) 0) 96 && eqb (get_or w (i + 3) 0) 34) (λ e. refl)
    (λ e. by_test NoString m.marks (λ e. refl)
    (λ e. by_test NoString (eqb (span_end true true w (i + 2)).end (i + 2)) (λ e. refl) (λ e. refl))))
    (λ e. refl))))

module _ (w : List ℕ) (i : ℕ) (xs : List ℕ) (d : drop i w ≡ 96 ∷ xs) where
  grave_at : (m : Mode) → token_at m w i ≡ grave_token m w i
  unfolding token_at sign_token
  grave_at m = rw (lt-leb (length w) i (goes_on w i 96 xs d), byte_at w i (96 ∷ xs) d)

  -- in a default it is bad
  held_meets : (ks : List ℕ) → verdict (start (under ks)) (96 ∷ xs) ≡ told w (under ks) (grave_token (mode_of (under ks)) w i)
  unfolding holds
  held_meets ks =
      let h : Hold = under ks in
      let m : Mode = mode_of (under ks) in
      let t : Token = grave_token m w i in
      let a : t.at ≡ i = ap (λ (t : Token). t.at) (sym (grave_at m)) ∙ token-at m w i in
      let e : i < t.end = rw (← grave_at m) (token_ends m w i (goes_on w i 96 xs d)) in
      let z : is_accented w t ≡ true = rw (grave_kind m w i, a, part_first w i 96 xs d t.end e) in
      goes (start h) (bare Bad h) 96 xs (barred h Start false [] refl 96 refl)
      ∙ (bad_stays h xs ∙ rw (z, or_true (is_unfit w false t)))

-- a name that is not empty
some_name : (w : List ℕ) (i y : ℕ) (ys : List ℕ) → drop i w ≡ y ∷ ys → (e : ℕ) → i < e → is_open (part w i e) ≡ true
some_name w i y ys d e l = rw (part_from w i y ys d e l)

module _ (w : List ℕ) (i : ℕ) (b : Bool) where
  abbrev h : Hold
  h = quoted b

  -- a name behind a grave accent
  named_told : (e : ℕ) → eqb (get_or w (i + 1) 0) 92 ≡ false → is_open (part w (i + 1) e) ≡ true
      → (ltb 1024 (e - (i + 1)) || (spoils true (part w (i + 1) e) || verdict (start h) (drop e w))) ≡ told w h (named Grave i (i + 1) e 0)
  named_told e n o = go (ltb 1024 (e - (i + 1))) (bars_text (part w (i + 1) e)) refl refl
    where
      go : (a c : Bool) → ltb 1024 (e - (i + 1)) ≡ a → bars_text (part w (i + 1) e) ≡ c
          → (a || ((not (is_open (part w (i + 1) e)) || c) || verdict (start h) (drop e w))) ≡ told w h (named Grave i (i + 1) e 0)
      go true c p q = sym (told_bad w h (named Grave i (i + 1) e 0) (rw p))
      go false true p q = rw (o, p, n, q)
      go false false p q = rw (o, p, n, q)

module _ (w : List ℕ) (trimmed : trim_right w ≡ w) (i : ℕ) (b : Bool) where
  abbrev q : Hold
  q = quoted b

  -- a name
  module _ (y : ℕ) (ys : List ℕ) (d : drop i w ≡ 96 ∷ y ∷ ys) where
    r1 : drop (i + 1) w ≡ y ∷ ys
    r1 = rest_one w i 96 (y ∷ ys) d

    word_meets : is_start y ≡ true → verdict (bare Accent q) (y ∷ ys) ≡ told w q (named Grave i (i + 1) (run_end 36 w (i + 2)) 0)
    unfolding run_end outside in_short in_marked in_accent
    word_meets e =
        let p2 : drop (i + 2) w ≡ ys = rest_two w i 96 y ys d in
        let k : ℕ = run_from 36 (i + 2) ys in
        let l : i + 2 ≤ k = run_past 36 (i + 2) ys in
        let a : Reads w (i + 1) (i + 2) (y ∷ []) ys = record { here = p2; name = sym r1; long = omega arith } in
        let n : eqb (get_or w (i + 1) 0) 92 ≡ false = rw (byte_at w (i + 1) (y ∷ ys) r1) (apart is_start y 92 e refl) in
        goes (bare Accent q) (standing Word q true (y ∷ [])) y ys (letter_next q Accent false [] refl y e ∙ rw e)
        ∙ (word_reads w q true (i + 1) (i + 2) (y ∷ []) ys a (omega arith)
        ∙ rw p2 (named_told w i b k n (some_name w (i + 1) y ys r1 k (omega arith))))

    accented : (s t u v : Bool) → is_start y ≡ s → eqb y 34 ≡ t → eqb y 96 ≡ u → eqb y 92 ≡ v
        → verdict (bare Accent q) (y ∷ ys) ≡ told w q (grave_token (mode_of q) w i)
    unfolding grave_token outside in_short in_marked in_accent
    accented true t u v e1 e2 e3 e4 =
        let k : grave_token (mode_of q) w i ≡ named Grave i (i + 1) (run_end 36 w (i + 2)) 0 = rw (byte_at w (i + 1) (y ∷ ys) r1, e1) in
        word_meets e1 ∙ ap (told w q) (sym k)
    accented false true u v e1 e2 e3 e4 =
        let k : grave_token (mode_of q) w i ≡ plain Quote i (i + 2) 0 = rw (byte_at w (i + 1) (y ∷ ys) r1, e1, e2) in
        goes (bare Accent q) (start (quoted (not b))) y ys (rw (eqb-true y 34 e2) (passed q Accent false [] refl 34 refl))
        ∙ sym (ap (told w q) k ∙ rw (rest_two w i 96 y ys d))
    accented false false true v e1 e2 e3 e4 =
        let k : grave_token (mode_of q) w i ≡ plain Joiner i (i + 2) 0 = rw (byte_at w (i + 1) (y ∷ ys) r1, e1, e2, e3) in
        goes (bare Accent q) (start q) y ys (rw (eqb-true y 96 e3) (passed q Accent false [] refl 96 refl))
        ∙ sym (ap (told w q) k ∙ rw (rest_two w i 96 y ys d))
    accented false false false true e1 e2 e3 e4 =
        let k : grave_token (mode_of q) w i ≡ escaped_grave (mode_of q) w i = rw (byte_at w (i + 1) (y ∷ ys) r1, e1, e2, e3, e4) in
        let d2 : drop i w ≡ 96 ∷ 92 ∷ ys = rw (← eqb-true y 92 e4) d in
        goes (bare Accent q) (bare Slanted q) y ys (rw (eqb-true y 92 e4) (passed q Accent false [] refl 92 refl))
        ∙ (slanted_meets w trimmed i ys d2 b ∙ ap (told w q) (sym k))
    accented false false false false e1 e2 e3 e4 =
        let k : grave_token (mode_of q) w i ≡ plain Byte i (i + 1) 4 = rw (byte_at w (i + 1) (y ∷ ys) r1, e1, e2, e3, e4) in
        spoilt_next q Accent false [] refl y ys (rw (e1, e2, e3, e4)) ∙ sym (ap (told w q) k ∙ told_bad w q (plain Byte i (i + 1) 4) refl)

  accent_meets : (xs : List ℕ) → drop i w ≡ 96 ∷ xs → verdict (bare Accent q) xs ≡ told w q (grave_token (mode_of q) w i)
  unfolding grave_token reading ended leaves
  accent_meets [] d =
      let k : grave_token (mode_of q) w i ≡ plain Byte i (i + 1) 4 = rw (byte_at w (i + 1) [] (rest_one w i 96 [] d)) in
      or_true b ∙ sym (ap (told w q) k ∙ told_bad w q (plain Byte i (i + 1) 4) refl)
  accent_meets (y ∷ ys) d = accented y ys d (is_start y) (eqb y 34) (eqb y 96) (eqb y 92) refl refl refl refl

pub grave_meets : (w : List ℕ) → trim_right w ≡ w → (h : Hold) (i : ℕ) (xs : List ℕ) → drop i w ≡ 96 ∷ xs
    → verdict (start h) (96 ∷ xs) ≡ told w h (grave_token (mode_of h) w i)
unfolding outside fresh
grave_meets w trimmed (quoted b) i xs d =
    goes (start (quoted b)) (bare Accent (quoted b)) 96 xs (passed (quoted b) Start false [] refl 96 refl) ∙ accent_meets w trimmed i b xs d
grave_meets w trimmed (under ks) i xs d = held_meets w i xs d ks
