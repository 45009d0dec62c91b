-- Newlines in tokens: outside definitions a token that is no newline, string or block comment holds none, and a newline is one byte.
-- Assumes nothing.
use Prim.Native.Nat.{ℕ, suc, ◌+◌, ◌-◌, ◌<◌, ◌≤◌}
use mathlib.Core.Bool.{Bool, true, false, not, ◌&&◌}
use mathlib.Core.List.{List, [], ◌∷◌}
use mathlib.Core.Path.{◌≡◌, refl, sym, ap, ◌∙◌}
use native.Mathlib.Numerals.{add-one}
use native.Mathlib.Omega.{arith}
use lib.Dec.{eqb, leb}
use lib.ListN.{length, get_or, take, drop, drop_of_length-le}
use lib.Seq.{drop-cons, take-nil}
use borrow.Author.Tests.{eq-eqb, eqb-true, ne_eqb, lt-leb, leb-true, leb-false, not-false}
use Rattle.text.specs.Bytes.{part}
use Rattle.lex.specs.declared.Mode.{Mode}
use Rattle.lex.specs.declared.Scan.{Scan}
use Rattle.lex.specs.declared.Token.{Token}
use Rattle.lex.specs.Classes.{is_white, is_digit, is_start, is_run, is_sign, is_base, is_legal, is_span}
use Rattle.lex.specs.Scans.{run_from, run_end, span_from, span_end}
use Rattle.lex.specs.Tokens.{in_file, White, Newline, BlockComment, String, Escaped, Grave, Byte, is, plain, escaped_or, string_token, slash_token, backslash_token, digits_token, based_token, escaped_grave, grave_token, sign_token, token_at}
use Rattle.lex.proofs.Tests.{by_test, and_left, and_right, true_false}
use Rattle.places.specs.Places.{newlines}

-- a byte that passes a test that a newline does not is no newline
no_newline : (p : ℕ → Bool) → p 10 ≡ false → (x : ℕ) → p x ≡ true → eqb x 10 ≡ false
no_newline p z x e = ne_eqb x 10 (λ q. true_false (p 10) (ap p (sym q) ∙ e) z)

-- ---- stretches without a newline

-- e lies at i or past it, and no newline stands before e in the bytes from i on
record Calm (i : ℕ) (xs : List ℕ) (e : ℕ) : Type 0 where
  past : i ≤ e
  none : newlines (take (e - i) xs) ≡ 0

calm_here : (i : ℕ) (xs : List ℕ) → Calm i xs i
unfolding newlines
calm_here i xs =
    let z : i - i ≡ 0 = omega arith in
    record { past = omega arith; none = rw z }

calm_out : (i e : ℕ) → i ≤ e → Calm i [] e
unfolding newlines
calm_out i e h = record { past = h; none = rw (take-nil) }

calm_next : (i x : ℕ) (xs : List ℕ) (e : ℕ) → eqb x 10 ≡ false → Calm (suc i) xs e → Calm i (x ∷ xs) e
unfolding newlines
calm_next i x xs e n h =
    let l : suc i ≤ e = h.past in
    let z : e - i ≡ suc (e - suc i) = omega arith in
    record { past = omega arith; none = rw (z, n) h.none }

-- the same of a text
abbrev Still : List ℕ → ℕ → ℕ → Type 0
Still s i e = Calm i (drop i s) e

still_next : (s : List ℕ) (i e : ℕ) → eqb (get_or s i 0) 10 ≡ false → Still s (i + 1) e → Still s i e
still_next s i e n h = go (leb (length s) i) refl
  where
    go : (b : Bool) → leb (length s) i ≡ b → Still s i e
    go true q = rw (drop_of_length-le s (leb-true (length s) i q)) (calm_out i e (omega (arith, h.past)))
    go false q =
        let l : i < length s = leb-false (length s) i q in
        rw (drop-cons s i 0 l) (calm_next i _ _ e n (rw (add-one i) at h))

still_one : (s : List ℕ) (i : ℕ) → eqb (get_or s i 0) 10 ≡ false → Still s i (i + 1)
still_one s i n = still_next s i (i + 1) n (calm_here _ _)

-- a byte that passes a test, and a stretch past it
still_past : (p : ℕ → Bool) → p 10 ≡ false → (s : List ℕ) (i j e : ℕ) → j ≡ i + 1 → p (get_or s i 0) ≡ true → Still s j e → Still s i e
still_past p z s i j e q t h = still_next s i e (no_newline p z _ t) (rw q at h)

-- ---- scans

run_calm : (more : ℕ) → is_run more 10 ≡ false → (i : ℕ) (xs : List ℕ) → Calm i xs (run_from more i xs)
unfolding run_from
run_calm more z i [] = calm_here i []
run_calm more z i (x ∷ xs) =
    by_test (Calm i (x ∷ xs)) (is_run more x) (λ e. calm_next i x xs _ (no_newline (is_run more) z x e) (run_calm more z (suc i) xs))
    (λ e. calm_here i _)

span_calm : (solid stops ok : Bool) (i : ℕ) (xs : List ℕ) → Calm i xs (span_from solid stops ok i xs).end
unfolding span_from
span_calm solid stops ok i [] = calm_here i []
span_calm solid stops ok i (x ∷ xs) =
    by_test (λ (r : Scan). Calm i (x ∷ xs) r.end) (not (is_span solid x)) (λ e. calm_here i _)
    (λ e. by_test (λ (r : Scan). Calm i (x ∷ xs) r.end) (stops && (eqb x 92 && eqb (get_or xs 0 0) 10)) (λ d. calm_here i _)
    (λ d. calm_next i x xs _ (no_newline (is_span solid) refl x (not-false _ e)) (span_calm solid stops (ok && is_legal x) (suc i) xs)))

run_still : (more : ℕ) → is_run more 10 ≡ false → (s : List ℕ) (i : ℕ) → Still s i (run_end more s i)
unfolding run_end
run_still more z s i = run_calm more z i (drop i s)

span_still : (solid stops : Bool) (s : List ℕ) (i : ℕ) → Still s i (span_end solid stops s i).end
unfolding span_end
span_still solid stops s i = span_calm solid stops true i (drop i s)

-- ---- tokens

-- what is known of the newlines of a token of the text s at i
record Lined (s : List ℕ) (i : ℕ) (t : Token) : Type 0 where
  calm : is Newline t ≡ false → is String t ≡ false → is BlockComment t ≡ false → Still s i t.end
  end : is Newline t ≡ true → t.end ≡ i + 1
  byte : is Newline t ≡ true → get_or s i 0 ≡ 10

module _ (s : List ℕ) (i : ℕ) where
  lined_calm : (t : Token) → is Newline t ≡ false → Still s i t.end → Lined s i t
  lined_calm t n h = record { calm = λ a b c. h; end = λ e. true_false _ e n; byte = λ e. true_false _ e n }

  lined_string : (t : Token) → is Newline t ≡ false → is String t ≡ true → Lined s i t
  lined_string t n k = record { calm = λ a b c. true_false _ k b; end = λ e. true_false _ e n; byte = λ e. true_false _ e n }

  lined_block : (t : Token) → is Newline t ≡ false → is BlockComment t ≡ true → Lined s i t
  lined_block t n k = record { calm = λ a b c. true_false _ k c; end = λ e. true_false _ e n; byte = λ e. true_false _ e n }

  lined_newline : eqb (get_or s i 0) 10 ≡ true → Lined s i (plain Newline i (i + 1) 0)
  lined_newline e = record { calm = λ a b c. true_false true refl a; end = λ d. refl; byte = λ d. eqb-true _ _ e }

  -- a token whose first byte is no newline
  module _ (h : eqb (get_or s i 0) 10 ≡ false) where
    lined_byte : (k n : ℕ) → eqb k Newline ≡ false → Lined s i (plain k i (i + 1) n)
    lined_byte k n q = lined_calm _ q (still_one s i h)

    -- past it a run or a span
    lined_next : (t : Token) → is Newline t ≡ false → Still s (i + 1) t.end → Lined s i t
    lined_next t q g = lined_calm t q (still_next s i _ h g)

    lined_run : (t : Token) → is Newline t ≡ false → t.end ≡ run_end 36 s (i + 1) → Lined s i t
    lined_run t q e = lined_next t q (rw e (run_still 36 refl s (i + 1)))

    string_lined : Lined s i (string_token s i)
    unfolding string_token
    string_lined =
        by_test (Lined s i) (eqb (get_or s (i + 1) 0) 34 && eqb (get_or s (i + 2) 0) 34) (λ e. lined_string _ refl refl)
        (λ e. lined_string _ refl refl)

    slash_lined : (m : Mode) → Lined s i (slash_token m s i)
    unfolding slash_token
    slash_lined m =
        by_test (Lined s i) m.marks (λ e. lined_byte Byte 0 refl)
        (λ e. by_test (Lined s i) (eqb (get_or s (i + 1) 0) 47)
        (λ e. lined_next _ refl (still_past (λ b. eqb b 47) refl s (i + 1) (i + 2) _ (omega arith) e (span_still false m.define s (i + 2))))
        (λ e. by_test (Lined s i) (eqb (get_or s (i + 1) 0) 42) (λ e. lined_block _ refl refl) (λ e. lined_byte Byte 0 refl)))

    escaped_lined : (k from n : ℕ) (r : Scan) → eqb k Newline ≡ false → Still s (i + 1) r.end → Lined s i (escaped_or k i from n r)
    escaped_lined k from n r q g =
        by_test (Lined s i) (eqb r.end from) (λ e. lined_byte Byte n refl) (λ e. lined_next _ q g)

    backslash_lined : (m : Mode) → m.define ≡ false → Lined s i (backslash_token m s i)
    unfolding backslash_token
    backslash_lined m d =
        by_test (Lined s i) (m.define && eqb (get_or s (i + 1) 0) 10) (λ e. true_false _ (and_left _ _ e) d)
        (λ e. by_test (Lined s i) m.marks (λ e. lined_byte Byte 0 refl)
        (λ e. escaped_lined Escaped (i + 1) 0 (span_end true true s (i + 1)) refl (span_still true true s (i + 1))))

    digits_lined : (j : ℕ) → ((e : ℕ) → Still s j e → Still s (i + 1) e) → Lined s i (digits_token s i j)
    unfolding digits_token
    digits_lined j f =
        by_test (Lined s i) (is_base (get_or s j 0))
        (λ e. lined_next _ refl (f _ (still_past (λ b. is_base b) refl s j (j + 1) _ refl e (run_still 63 refl s (j + 1)))))
        (λ e. lined_byte Byte 0 refl)

    based_lined : Lined s i (based_token s i)
    unfolding based_token
    based_lined =
        by_test (Lined s i) (is_sign (get_or s (i + 1) 0)) (λ e. digits_lined (i + 2) (λ n g. still_past (λ b. is_sign b) refl s (i + 1) (i + 2) n (omega arith) e g))
        (λ e. digits_lined (i + 1) (λ n g. g))

    -- past a `\` at i + 1
    escaped_grave_lined : (m : Mode) → eqb (get_or s (i + 1) 0) 92 ≡ true → Lined s i (escaped_grave m s i)
    unfolding escaped_grave
    escaped_grave_lined m h1 =
        by_test (Lined s i) (eqb (get_or s (i + 2) 0) 96 && eqb (get_or s (i + 3) 0) 34)
        (λ e. lined_next _ refl (slanted _ (still_past (λ b. eqb b 96) refl s (i + 2) (i + 3) _ (omega arith) (and_left _ _ e)
        (still_past (λ b. eqb b 34) refl s (i + 3) (i + 4) _ (omega arith) (and_right (eqb (get_or s (i + 2) 0) 96) _ e) (calm_here _ _)))))
        (λ e. by_test (Lined s i) m.marks (λ e. lined_byte Byte 4 refl)
        (λ e. escaped_lined Grave (i + 2) 4 (span_end true true s (i + 2)) refl (slanted _ (span_still true true s (i + 2)))))
      where
        slanted : (e : ℕ) → Still s (i + 2) e → Still s (i + 1) e
        slanted e g = still_past (λ b. eqb b 92) refl s (i + 1) (i + 2) e (omega arith) h1 g

    grave_lined : (m : Mode) → Lined s i (grave_token m s i)
    unfolding grave_token
    grave_lined m =
        by_test (Lined s i) (is_start (get_or s (i + 1) 0))
        (λ e. lined_next _ refl (still_past (λ b. is_start b) refl s (i + 1) (i + 2) _ (omega arith) e (run_still 36 refl s (i + 2))))
        (λ e. by_test (Lined s i) (eqb (get_or s (i + 1) 0) 34)
        (λ e. lined_next _ refl (still_past (λ b. eqb b 34) refl s (i + 1) (i + 2) _ (omega arith) e (calm_here _ _)))
        (λ e. by_test (Lined s i) (eqb (get_or s (i + 1) 0) 96)
        (λ e. lined_next _ refl (still_past (λ b. eqb b 96) refl s (i + 1) (i + 2) _ (omega arith) e (calm_here _ _)))
        (λ e. by_test (Lined s i) (eqb (get_or s (i + 1) 0) 92) (λ e. escaped_grave_lined m e) (λ e. lined_byte Byte 4 refl))))

    sign_lined : (m : Mode) → m.define ≡ false → (b : ℕ) → Lined s i (sign_token m s i b)
    unfolding sign_token
    sign_lined m d b =
        by_test (Lined s i) (eqb b 34) (λ e. string_lined)
        (λ e. by_test (Lined s i) (eqb b 47) (λ e. slash_lined m)
        (λ e. by_test (Lined s i) (eqb b 92) (λ e. backslash_lined m d)
        (λ e. by_test (Lined s i) (eqb b 39) (λ e. based_lined)
        (λ e. by_test (Lined s i) (eqb b 96) (λ e. grave_lined m) (λ e. lined_byte Byte _ refl)))))

  token_lined : (m : Mode) → m.define ≡ false → i < length s → Lined s i (token_at m s i)
  unfolding token_at
  token_lined m d h =
      rw (lt-leb (length s) i h)
      (by_test (Lined s i) (is_white (get_or s i 0)) (λ e. lined_byte (no_newline (λ b. is_white b) refl (get_or s i 0) e) White 0 refl)
      (λ e. by_test (Lined s i) (is_start (get_or s i 0)) (λ e. lined_run (no_newline (λ b. is_start b) refl (get_or s i 0) e) _ refl refl)
      (λ e. by_test (Lined s i) (is_digit (get_or s i 0)) (λ e. lined_run (no_newline (λ b. is_digit b) refl (get_or s i 0) e) _ refl refl)
      (λ e. by_test (Lined s i) (eqb (get_or s i 0) 10) (λ e. lined_newline e)
      (λ n. by_test (Lined s i) (eqb (get_or s i 0) 36) (λ e. lined_run n _ refl refl) (λ e. sign_lined n m d (get_or s i 0)))))))

-- ---- what callers cite, of any text that is no definition

module _ (m : Mode) (d : m.define ≡ false) (s : List ℕ) (i : ℕ) (h : i < length s) where
  pub outside_flat : is Newline (token_at m s i) ≡ false → is String (token_at m s i) ≡ false → is BlockComment (token_at m s i) ≡ false
      → newlines (part s i (token_at m s i).end) ≡ 0
  outside_flat a b c = ((token_lined s i m d h).calm a b c).none

  pub outside_newline_end : (token_at m s i).kind ≡ Newline → (token_at m s i).end ≡ i + 1
  outside_newline_end e = (token_lined s i m d h).end (eq-eqb _ _ e)

  pub outside_newline : (token_at m s i).kind ≡ Newline → newlines (part s i (token_at m s i).end) ≡ 1
  unfolding newlines
  outside_newline e =
      let z : i + 1 - i ≡ 1 = omega arith in
      let q : get_or s i 0 ≡ 10 = (token_lined s i m d h).byte (eq-eqb _ _ e) in
      rw (outside_newline_end e, z, drop-cons s i 0 h, q)

-- ---- and of a file

module _ (s : List ℕ) (i : ℕ) (h : i < length s) where
  -- what bars a token plays no part
  pub token_flat : (token_at in_file s i).bar ≡ 0 → eqb (token_at in_file s i).kind Newline ≡ false → eqb (token_at in_file s i).kind String ≡ false
      → eqb (token_at in_file s i).kind BlockComment ≡ false → newlines (part s i (token_at in_file s i).end) ≡ 0
  token_flat n a b c = outside_flat in_file refl s i h a b c

  pub newline_end : (token_at in_file s i).kind ≡ Newline → (token_at in_file s i).end ≡ i + 1
  newline_end e = outside_newline_end in_file refl s i h e

  pub newline_token : (token_at in_file s i).kind ≡ Newline → newlines (part s i (token_at in_file s i).end) ≡ 1
  newline_token e = outside_newline in_file refl s i h e
