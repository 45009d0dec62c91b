-- Where the token at a position starts and ends: it is not empty, it lies within the text, and its name lies in it.
-- Assumes nothing.
use Prim.Native.Nat.{ℕ, suc, ◌+◌, ◌<◌, ◌≤◌}
use mathlib.Core.Bool.{Bool, true, false, not, ◌&&◌}
use mathlib.Core.List.{List, [], ◌∷◌}
use mathlib.Core.Path.{◌≡◌, refl}
use native.Mathlib.Omega.{arith}
use lib.Dec.{eqb, leb}
use lib.ListN.{length, get_or, drop, length-drop}
use borrow.Author.Tests.{le-leb, lt-leb, leb-true, leb-false}
use Rattle.lex.specs.declared.Mode.{Mode}
use Rattle.lex.specs.declared.Scan.{Scan}
use Rattle.lex.specs.declared.Token.{Token}
use Rattle.lex.specs.Classes.{is_white, is_digit, is_start, is_run, is_sign, is_base, is_legal, is_span}
use Rattle.lex.specs.Scans.{run_from, run_end, span_from, span_end, string_from, string_end, block_from, block_end}
use Rattle.lex.specs.Tokens.{String, LineComment, BlockComment, Name, Dollar, Escaped, Number, Based, Quote, EscapedQuote, Joiner, Grave, Byte, White, Newline, Continuation, End, is, mark_bar, plain, named, escaped_or, string_token, slash_token, backslash_token, digits_token, based_token, escaped_grave, grave_token, sign_token, token_at}
use Rattle.lex.proofs.Tests.{by_test, and_right, read_within}

-- e lies in the n bytes from i on, or just past them
record Between (i n e : ℕ) : Type 0 where
  past : i ≤ e
  within : e ≤ i + n

-- a scan from i that ends in the n bytes from there on
abbrev Ends : ℕ → ℕ → Scan → Type 0
Ends i n r = Between i n r.end

here : (i n : ℕ) → Between i n i
here i n = record { past = omega arith; within = omega arith }

one : (i n : ℕ) → Between i (suc n) (suc i)
one i n = record { past = omega arith; within = omega arith }

later : (i n e : ℕ) → Between (suc i) n e → Between i (suc n) e
later i n e h = record { past = omega arith; within = omega arith }

run-from : (more i : ℕ) (xs : List ℕ) → Between i (length xs) (run_from more i xs)
unfolding run_from
run-from more i [] = here i 0
run-from more i (x ∷ xs) =
    by_test (Between i (suc (length xs))) (is_run more x) (λ e. later i _ _ (run-from more (suc i) xs)) (λ e. here i _)

span-from : (solid stops ok : Bool) (i : ℕ) (xs : List ℕ) → Ends i (length xs) (span_from solid stops ok i xs)
unfolding span_from
span-from solid stops ok i [] = here i 0
span-from solid stops ok i (x ∷ xs) =
    by_test (Ends i (suc (length xs))) (not (is_span solid x)) (λ e. here i _)
    (λ e. by_test (Ends i (suc (length xs))) (stops && (eqb x 92 && eqb (get_or xs 0 0) 10)) (λ d. here i _)
    (λ d. later i _ _ (span-from solid stops (ok && is_legal x) (suc i) xs)))

string-from : (esc ok : Bool) (i : ℕ) (xs : List ℕ) → Ends i (length xs) (string_from esc ok i xs)
unfolding string_from
string-from true ok i [] = here i 0
string-from false ok i [] = here i 0
string-from true ok i (x ∷ xs) = later i _ _ (string-from false (ok && is_legal x) (suc i) xs)
string-from false ok i (x ∷ xs) =
    by_test (Ends i (suc (length xs))) (eqb x 34) (λ e. one i _)
    (λ e. by_test (Ends i (suc (length xs))) (eqb x 10) (λ d. here i _)
    (λ d. later i _ _ (string-from (eqb x 92) (ok && is_legal x) (suc i) xs)))

block-from : (star ok : Bool) (i : ℕ) (xs : List ℕ) → Ends i (length xs) (block_from star ok i xs)
unfolding block_from
block-from star ok i [] = here i 0
block-from star ok i (x ∷ xs) =
    by_test (Ends i (suc (length xs))) (star && eqb x 47) (λ e. one i _)
    (λ e. later i _ _ (block-from (eqb x 42) (ok && is_legal x) (suc i) xs))

-- e lies in the text s from i on, or at its end
pub record Inside (s : List ℕ) (i e : ℕ) : Type 0 where
  pub past : i ≤ e
  pub within : e ≤ length s

inside : (s : List ℕ) (i e : ℕ) → i ≤ length s → Between i (length (drop i s)) e → Inside s i e
inside s i e l h = record { past = h.past; within = omega (arith, length-drop i s) }

module _ (s : List ℕ) (i : ℕ) (l : i ≤ length s) where
  pub run_inside : (more : ℕ) → Inside s i (run_end more s i)
  unfolding run_end
  run_inside more = inside s i _ l (run-from more i (drop i s))

  pub span_inside : (solid stops : Bool) → Inside s i (span_end solid stops s i).end
  unfolding span_end
  span_inside solid stops = inside s i _ l (span-from solid stops true i (drop i s))

  pub string_inside : Inside s i (string_end s i).end
  unfolding string_end
  string_inside = inside s i _ l (string-from false true i (drop i s))

  pub block_inside : Inside s i (block_end s i).end
  unfolding block_end
  block_inside = inside s i _ l (block-from false true i (drop i s))

-- a token of the text s that starts at i
pub record Sound (s : List ℕ) (i : ℕ) (t : Token) : Type 0 where
  pub starts : t.at ≡ i
  pub ends : i < t.end
  pub within : t.end ≤ length s
  pub from_past : i ≤ t.from
  pub from_within : t.from ≤ t.end
  pub some : is End t ≡ false

module _ (s : List ℕ) (i : ℕ) where
  plain_sound : (k e n : ℕ) → eqb k End ≡ false → i < e → e ≤ length s → Sound s i (plain k i e n)
  plain_sound k e n q h g =
      record { starts = refl; ends = h; within = g; from_past = omega arith; from_within = omega arith; some = q }

  named_sound : (k from e n : ℕ) → eqb k End ≡ false → i < e → i ≤ from → Inside s from e → Sound s i (named k i from e n)
  named_sound k from e n q h g f =
      record { starts = refl; ends = h; within = f.within; from_past = g; from_within = f.past; some = q }

  escaped_sound : (k from n : ℕ) (r : Scan) → eqb k End ≡ false → i < length s → i < from → Inside s from r.end → Sound s i (escaped_or k i from n r)
  escaped_sound k from n r q h g f =
      by_test (Sound s i) (eqb r.end from) (λ e. plain_sound Byte (i + 1) n refl (omega arith) (omega arith))
      (λ e. named_sound k from r.end r.bar q (omega arith) (omega arith) f)

  -- what lies from a place past i on
  inside_sound : (k j e n : ℕ) → eqb k End ≡ false → i < j → Inside s j e → Sound s i (plain k i e n)
  inside_sound k j e n q h f = plain_sound k e n q (omega arith) f.within

  -- up to a byte that is read
  read_sound : (k e n j b : ℕ) → eqb k End ≡ false → eqb 0 b ≡ false → i < e → e ≤ j + 1 → eqb (get_or s j 0) b ≡ true → Sound s i (plain k i e n)
  read_sound k e n j b q z h g d =
      let l : j < length s = read_within (λ x. eqb x b) z s j d in
      plain_sound k e n q h (omega arith)

  module _ (h : i < length s) where
    byte_sound : (k n : ℕ) → eqb k End ≡ false → Sound s i (plain k i (i + 1) n)
    byte_sound k n q = plain_sound k (i + 1) n q (omega arith) (omega arith)

    string_sound : Sound s i (string_token s i)
    unfolding string_token
    string_sound =
        by_test (Sound s i) (eqb (get_or s (i + 1) 0) 34 && eqb (get_or s (i + 2) 0) 34)
        (λ e. read_sound String (i + 3) 5 (i + 2) 34 refl refl (omega arith) (omega arith) (and_right (eqb (get_or s (i + 1) 0) 34) (eqb (get_or s (i + 2) 0) 34) e))
        (λ e. inside_sound String (i + 1) _ _ refl (omega arith) (string_inside s (i + 1) (omega arith)))

    slash_sound : (m : Mode) → Sound s i (slash_token m s i)
    unfolding slash_token
    slash_sound m =
        by_test (Sound s i) m.marks (λ e. byte_sound Byte 0 refl)
        (λ e. by_test (Sound s i) (eqb (get_or s (i + 1) 0) 47)
        (λ e. let l : i + 1 < length s = read_within (λ b. eqb b 47) refl s (i + 1) e in
        inside_sound LineComment (i + 2) _ _ refl (omega arith) (span_inside s (i + 2) (omega arith) false m.define))
        (λ e. by_test (Sound s i) (eqb (get_or s (i + 1) 0) 42)
        (λ e. let l : i + 1 < length s = read_within (λ b. eqb b 42) refl s (i + 1) e in
        inside_sound BlockComment (i + 2) _ _ refl (omega arith) (block_inside s (i + 2) (omega arith)))
        (λ e. byte_sound Byte 0 refl)))

    backslash_sound : (m : Mode) → Sound s i (backslash_token m s i)
    unfolding backslash_token
    backslash_sound m =
        by_test (Sound s i) (m.define && eqb (get_or s (i + 1) 0) 10)
        (λ e. read_sound Continuation (i + 2) 0 (i + 1) 10 refl refl (omega arith) (omega arith) (and_right m.define (eqb (get_or s (i + 1) 0) 10) e))
        (λ e. by_test (Sound s i) m.marks (λ e. byte_sound Byte 0 refl)
        (λ e. escaped_sound Escaped (i + 1) 0 (span_end true true s (i + 1)) refl h (omega arith) (span_inside s (i + 1) (omega arith) true true)))

    digits_sound : (j : ℕ) → i < j → Sound s i (digits_token s i j)
    unfolding digits_token
    digits_sound j g =
        by_test (Sound s i) (is_base (get_or s j 0))
        (λ e. let l : j < length s = read_within (λ b. is_base b) refl s j e in
        inside_sound Based (j + 1) _ 0 refl (omega arith) (run_inside s (j + 1) (omega arith) 63))
        (λ e. byte_sound Byte 0 refl)

    based_sound : Sound s i (based_token s i)
    unfolding based_token
    based_sound =
        by_test (Sound s i) (is_sign (get_or s (i + 1) 0)) (λ e. digits_sound (i + 2) (omega arith))
        (λ e. digits_sound (i + 1) (omega arith))

    escaped_grave_sound : (m : Mode) → i + 1 < length s → Sound s i (escaped_grave m s i)
    unfolding escaped_grave
    escaped_grave_sound m l =
        by_test (Sound s i) (eqb (get_or s (i + 2) 0) 96 && eqb (get_or s (i + 3) 0) 34)
        (λ e. read_sound EscapedQuote (i + 4) (mark_bar m) (i + 3) 34 refl refl (omega arith) (omega arith) (and_right (eqb (get_or s (i + 2) 0) 96) (eqb (get_or s (i + 3) 0) 34) e))
        (λ e. by_test (Sound s i) m.marks (λ e. byte_sound Byte 4 refl)
        (λ e. escaped_sound Grave (i + 2) 4 (span_end true true s (i + 2)) refl h (omega arith) (span_inside s (i + 2) (omega arith) true true)))

    grave_sound : (m : Mode) → Sound s i (grave_token m s i)
    unfolding grave_token
    grave_sound m =
        by_test (Sound s i) (is_start (get_or s (i + 1) 0))
        (λ e. let l : i + 1 < length s = read_within (λ b. is_start b) refl s (i + 1) e in
        let f = run_inside s (i + 2) (omega arith) 36 in
        named_sound Grave (i + 1) _ 0 refl (omega arith) (omega arith) (record { past = omega arith; within = f.within }))
        (λ e. by_test (Sound s i) (eqb (get_or s (i + 1) 0) 34) (λ e. read_sound Quote (i + 2) (mark_bar m) (i + 1) 34 refl refl (omega arith) (omega arith) e)
        (λ e. by_test (Sound s i) (eqb (get_or s (i + 1) 0) 96) (λ e. read_sound Joiner (i + 2) (mark_bar m) (i + 1) 96 refl refl (omega arith) (omega arith) e)
        (λ e. by_test (Sound s i) (eqb (get_or s (i + 1) 0) 92)
        (λ e. escaped_grave_sound m (read_within (λ b. eqb b 92) refl s (i + 1) e)) (λ e. byte_sound Byte 4 refl))))

    sign_sound : (m : Mode) (b : ℕ) → Sound s i (sign_token m s i b)
    unfolding sign_token
    sign_sound m b =
        by_test (Sound s i) (eqb b 34) (λ e. string_sound)
        (λ e. by_test (Sound s i) (eqb b 47) (λ e. slash_sound m)
        (λ e. by_test (Sound s i) (eqb b 92) (λ e. backslash_sound m)
        (λ e. by_test (Sound s i) (eqb b 39) (λ e. based_sound)
        (λ e. by_test (Sound s i) (eqb b 96) (λ e. grave_sound m) (λ e. byte_sound Byte _ refl)))))

    name_sound : Sound s i (named Name i i (run_end 36 s (i + 1)) 0)
    name_sound =
        let f = run_inside s (i + 1) (omega arith) 36 in
        named_sound Name i _ 0 refl (omega arith) (omega arith) (record { past = omega arith; within = f.within })

    word_sound : (k : ℕ) → eqb k End ≡ false → Sound s i (plain k i (run_end 36 s (i + 1)) 0)
    word_sound k q = inside_sound k (i + 1) _ 0 q (omega arith) (run_inside s (i + 1) (omega arith) 36)

    first_sound : (m : Mode) → Sound s i (token_at m s i)
    unfolding token_at
    first_sound m =
        rw (lt-leb (length s) i h)
        (by_test (Sound s i) (is_white (get_or s i 0)) (λ e. byte_sound White 0 refl)
        (λ e. by_test (Sound s i) (is_start (get_or s i 0)) (λ e. name_sound)
        (λ e. by_test (Sound s i) (is_digit (get_or s i 0)) (λ e. word_sound Number refl)
        (λ e. by_test (Sound s i) (eqb (get_or s i 0) 10) (λ e. byte_sound Newline 0 refl)
        (λ e. by_test (Sound s i) (eqb (get_or s i 0) 36) (λ e. word_sound Dollar refl) (λ e. sign_sound m (get_or s i 0)))))))

module _ (m : Mode) (s : List ℕ) (i : ℕ) where
  -- past the text there is no token
  pub token_past : length s ≤ i → token_at m s i ≡ plain End i i 0
  unfolding token_at
  token_past h = rw (le-leb (length s) i h)

  module _ (h : i < length s) where
    pub token_sound : Sound s i (token_at m s i)
    token_sound = first_sound s i h m

    -- a token is not empty
    pub token_ends : i < (token_at m s i).end
    token_ends = token_sound.ends

    -- it ends within the text
    pub token_within : (token_at m s i).end ≤ length s
    token_within = token_sound.within

    -- a token's name lies in it
    pub token_from : i ≤ (token_at m s i).from
    token_from = token_sound.from_past

    pub token_from_end : (token_at m s i).from ≤ (token_at m s i).end
    token_from_end = token_sound.from_within

    -- the text does not end here
    pub token_some : is End (token_at m s i) ≡ false
    token_some = token_sound.some

pub token-at : (m : Mode) (s : List ℕ) (i : ℕ) → (token_at m s i).at ≡ i
token-at m s i = go (leb (length s) i) refl
  where
    go : (b : Bool) → leb (length s) i ≡ b → (token_at m s i).at ≡ i
    go true e = rw (token_past m s i (leb-true (length s) i e))
    go false e = (token_sound m s i (leb-false (length s) i e)).starts
