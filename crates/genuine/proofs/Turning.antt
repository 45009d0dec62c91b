-- The token of a text at i, if it is fit, and that of its spelling at j: both are the same, or the latter is an escaped
-- name that takes in the `\` behind.
-- Assumes nothing.
use Prim.Native.Nat.{ℕ, ◌+◌, ◌-◌, ◌<◌, ◌≤◌}
use mathlib.Core.Bool.{Bool, true, false, cond, not, ◌&&◌, ◌||◌}
use mathlib.Core.List.{List, ◌∷◌}
use mathlib.Core.Path.{◌≡◌, refl, sym, ap, ◌∙◌}
use native.Mathlib.Omega.{arith}
use lib.Dec.{eqb, leb, ltb}
use lib.ListN.{length, get_or}
use borrow.Author.Tests.{eqb-true, eqb-false, eq-eqb, ne_eqb, lt-leb, leb-false, le-ltb, not-false}
use Rattle.text.specs.Bytes.{holds, part}
use Rattle.text.proofs.Matching.{part_more}
use Rattle.lex.specs.Classes.{is_white, is_digit, is_start, is_run, is_sign, is_base, is_legal}
use Rattle.lex.specs.Scans.{run_end, span_end, string_end}
use Rattle.lex.specs.Tokens.{in_definition, between, Newline, LineComment, BlockComment, String, Name, Dollar, Escaped, Number, Based, Quote, EscapedQuote, Joiner, Grave, Byte, White, Continuation, is, is_mark, plain, named, escaped_or, string_token, slash_token, backslash_token, digits_token, based_token, escaped_grave, grave_token, sign_token, token_at}
use Rattle.lex.specs.declared.Mode.{Mode}
use Rattle.lex.specs.declared.Scan.{Scan}
use Rattle.lex.specs.declared.Token.{Token}
use Rattle.lex.proofs.Tests.{by_test, and_left, and_right, true_false}
use Rattle.lex.proofs.Progress.{string_inside}
use Rattle.storing.specs.Stored.{joined_from, piece}
use Rattle.afresh.specs.Unfit.{is_slanted, is_crowded, is_unfit}
use Rattle.genuine.proofs.Tests.{or_left, or_right, and_false, and_first, and_second, and_alike}
use Rattle.genuine.proofs.Parts.{holds_parted}
use Rattle.genuine.proofs.Aligning.{Aligned, Clear, clear_end, clear_newline, test_alike, never_newline, Along, along_one, along_passed, passed_alike, along_join, byte_alike, byte_within}
use Rattle.genuine.proofs.Pacing.{run_along, Spanned, level, over, span_along, span_slash_end}
use Rattle.genuine.proofs.Closing.{Closed, string_along}

-- what a token that is not unfit is
pub record Fit (w : List ℕ) (u : Token) : Type 0 where
  pub free : u.bar ≡ 0
  pub no_line : is LineComment u ≡ false
  pub no_block : is BlockComment u ≡ false
  pub whole : is String u ≡ true → holds 10 (part w u.at u.end) ≡ false
  pub room : is_crowded w u ≡ false

pub fit_of : (w : List ℕ) (odd : Bool) (u : Token) → is_unfit w odd u ≡ false → Fit w u
fit_of w odd u e =
    let a = not (eqb u.bar 0) in
    let c = is LineComment u || is BlockComment u in
    let n = is Newline u && odd in
    let b = is String u && holds 10 (part w u.at u.end) in
    let k = is_crowded w u in
    let p : (c || (n || (b || k))) ≡ false = or_right a (c || (n || (b || k))) e in
    let q : (b || k) ≡ false = or_right n (b || k) (or_right c (n || (b || k)) p) in
    let d : c ≡ false = or_left c (n || (b || k)) p in
    record {
      free = eqb-true u.bar 0 (not-false (eqb u.bar 0) (or_left a (c || (n || (b || k))) e));
      no_line = or_left (is LineComment u) (is BlockComment u) d;
      no_block = or_right (is LineComment u) (is BlockComment u) d;
      whole = λ h. and_second (is String u) (holds 10 (part w u.at u.end)) h (or_left b k q);
      room = or_right b k q;
    }

-- a token that is not stored as it stands, or may not be
abbrev pub is_aside : Token → Bool
is_aside t = is Newline t || (is LineComment t || (is BlockComment t || (is String t || is Continuation t)))

-- the token t of the spelling at j stands for w from i to before e; x: in macro text; b: between quote marks
pub record Taken (s w tail : List ℕ) (x b : Bool) (i j e : ℕ) (t : Token) : Type 0 where
  pub unbarred : t.bar ≡ 0
  pub going : is Newline t ≡ false
  pub gives : piece s b t ≡ part w i e
  pub along : Along s w tail i j e t.end
  pub unmarked : (is_mark t && not x) ≡ false

-- t takes in the `\` behind u, which stands before a newline
pub record Overs (w : List ℕ) (i : ℕ) (t u : Token) : Type 0 where
  pub slash : get_or w u.end 0 ≡ 92
  pub newline : get_or w (u.end + 1) 0 ≡ 10
  pub no_quote : is Quote t ≡ false
  pub no_byte : is Byte t ≡ false
  pub unquoted : is Quote u ≡ false
  pub no_string : is String u ≡ false
  pub led : is Byte u ≡ true → get_or w i 0 ≡ 92

pub data Turn (s w tail : List ℕ) (x b : Bool) (i j : ℕ) (t u : Token) : Type 0 where
  same : t.kind ≡ u.kind → Taken s w tail x b i j u.end t → Turn s w tail x b i j t u
  longer : Overs w i t u → Taken s w tail x b i j (u.end + 1) t → Turn s w tail x b i j t u

-- a text, read afresh
abbrev pub afresh : Bool → Bool → Mode
afresh x b = record { text = x; define = false; marks = b }

-- what holds of two tokens by one test
by_both : (P : Token → Token → Type 0) (c d : Bool) {t t' u u' : Token} → c ≡ d → (d ≡ true → P t u) → (d ≡ false → P t' u') → P (cond c t t') (cond d u u')
by_both P true true e f g = f refl
by_both P false false e f g = g refl
by_both P true false e f g = true_false true refl e
by_both P false true e f g = true_false true refl (sym e)

-- and by a test that may fail on the former, where the latter is then of no account
by_latter : (P : Token → Token → Type 0) (c d : Bool) {t u u' : Token} (t' : Token) → (d ≡ true → c ≡ true) → (d ≡ true → P t u) → (d ≡ false → (t : Token) → P t u') → P (cond c t t') (cond d u u')
by_latter P true true t' e f g = f refl
by_latter P false true t' e f g = true_false false (e refl) refl
by_latter P true false {t} t' e f g = g refl t
by_latter P false false t' e f g = g refl t'

-- a name's bar
named_free : (m n : ℕ) → m ≡ 0 → n ≤ 1024 → ◌≡◌ {A = ℕ} (cond (eqb m 0) (cond (ltb 1024 n) 6 0) m) 0
named_free m n e h = rw (e, le-ltb 1024 n h)

named_clean : (m y : ℕ) → cond (eqb m 0) y m ≡ 0 → m ≡ 0
named_clean m y e = go (eqb m 0) refl e
  where
    go : (b : Bool) → eqb m 0 ≡ b → cond b y m ≡ 0 → m ≡ 0
    go true q e = eqb-true m 0 q
    go false q e = e

textual : (x : Bool) → ◌≡◌ {A = ℕ} (cond x 0 4) 0 → not x ≡ false
textual true e = refl
textual false e = absurd (omega arith)

-- past a byte that passes a test
module _ {s w tail : List ℕ} {i j : ℕ} (a : Aligned s w tail i j) (i' j' : ℕ) (e : i' ≡ i + 1) (f : j' ≡ j + 1) where
  passed_to : (p : ℕ → Bool) → p 0 ≡ false → p 10 ≡ false → p (get_or w i 0) ≡ true → Along s w tail i j i' j'
  passed_to p z n h = rw (e, f) (along_passed a p z n h)

  pair_alike : (y z : ℕ) → Clear (λ (b : ℕ). eqb b y) → Clear (λ (b : ℕ). eqb b z)
      → (eqb (get_or s j 0) y && eqb (get_or s j' 0) z) ≡ (eqb (get_or w i 0) y && eqb (get_or w i' 0) z)
  pair_alike y z p q =
      and_alike (eqb (get_or s j 0) y) (eqb (get_or s j' 0) z) (eqb (get_or w i 0) y) (eqb (get_or w i' 0) z) (test_alike a (λ b. eqb b y) p)
      (λ h. test_alike (passed_to (λ b. eqb b y) (clear_end (λ b. eqb b y) p) (clear_newline (λ b. eqb b y) p) h).aligned (λ b. eqb b z) q)

module _ (s : List ℕ) (b : Bool) (t : Token) (e : is_aside t ≡ false) where
  solid_piece : piece s b t ≡ part s t.at t.end
  unfolding piece
  solid_piece =
      let l = is LineComment t in
      let k = is BlockComment t in
      let d = is String t in
      let c = is Continuation t in
      let p : (l || (k || (d || c))) ≡ false = or_right (is Newline t) (l || (k || (d || c))) e in
      let q : (k || (d || c)) ≡ false = or_right l (k || (d || c)) p in
      let r : (d || c) ≡ false = or_right k (d || c) q in
      rw (or_left l (k || (d || c)) p, or_left k (d || c) q, or_right d c r, or_left d c r)

module _ {s w tail : List ℕ} (x b : Bool) (i j : ℕ) (a : Aligned s w tail i j) (l : i < length w) (n : eqb (get_or w i 0) 10 ≡ false) where
  abbrev Alike : Token → Token → Type 0
  Alike t u = Fit w u → Turn s w tail x b i j t u

  taken : (t : Token) (e : ℕ) → t.at ≡ j → is_aside t ≡ false → (is_mark t && not x) ≡ false → t.bar ≡ 0 → Along s w tail i j e t.end → Taken s w tail x b i j e t
  taken t e p q r z o =
      record {
        unbarred = z;
        going = or_left (is Newline t) (is LineComment t || (is BlockComment t || (is String t || is Continuation t))) q;
        gives = solid_piece s b t q ∙ (rw p o.same);
        along = o;
        unmarked = r;
      }

  one : Along s w tail i j (i + 1) (j + 1)
  one = along_one a l n

  next : Aligned s w tail (i + 1) (j + 1)
  next = one.aligned

  -- with one bar
  plain_alike : (k m e f : ℕ) → is_aside (plain k j f m) ≡ false → (is_mark (plain k j f m) && not x) ≡ false → Along s w tail i j e f → Alike (plain k j f m) (plain k i e m)
  plain_alike k m e f p q o h = same refl (taken (plain k j f m) e refl p q h.free o)

  byte_alike_token : (k m : ℕ) → is_aside (plain k j (j + 1) m) ≡ false → (is_mark (plain k j (j + 1) m) && not x) ≡ false → Alike (plain k j (j + 1) m) (plain k i (i + 1) m)
  byte_alike_token k m p q = plain_alike k m (i + 1) (j + 1) p q one

  named_alike : (k m c d e f : ℕ) → is_aside (plain k j f m) ≡ false → (is_mark (plain k j f m) && not x) ≡ false → f - d ≡ e - c → Along s w tail i j e f → Alike (named k j d f m) (named k i c e m)
  named_alike k m c d e f p q z o h =
      same refl (taken (named k j d f m) e refl p q (ap (λ (y : ℕ). cond (eqb m 0) (cond (ltb 1024 y) 6 0) m) z ∙ h.free) o)

  run_token : (k c d more : ℕ) → Clear (is_run more) → is_aside (plain k j (run_end more s d) 0) ≡ false → (is_mark (plain k j (run_end more s d) 0) && not x) ≡ false → Along s w tail i j c d → Alike (plain k j (run_end more s d) 0) (plain k i (run_end more w c) 0)
  run_token k c d more z p q o = plain_alike k 0 (run_end more w c) (run_end more s d) p q (along_join o (run_along more z o.within o.aligned))

  name_token : Alike (named Name j j (run_end 36 s (j + 1)) 0) (named Name i i (run_end 36 w (i + 1)) 0)
  name_token =
      let o : Along s w tail i j (run_end 36 w (i + 1)) (run_end 36 s (j + 1)) = along_join one (run_along 36 refl one.within next) in
      named_alike Name 0 i j (run_end 36 w (i + 1)) (run_end 36 s (j + 1)) refl refl (omega (arith, o.even, o.past)) o

  -- three `"`, or a string
  string-token : get_or w i 0 ≡ 34 → Alike (string_token s j) (string_token w i)
  unfolding string_token piece joined_from
  string-token q =
      by_both Alike (eqb (get_or s (j + 1) 0) 34 && eqb (get_or s (j + 2) 0) 34) (eqb (get_or w (i + 1) 0) 34 && eqb (get_or w (i + 2) 0) 34)
      (pair_alike next (i + 2) (j + 2) (omega arith) (omega arith) 34 34 refl refl)
      (λ e h. absurd (omega (arith, h.free)))
      (λ e h.
      let r = string_end w (i + 1) in
      let c : i + 1 ≤ r.end = (string_inside w (i + 1) one.within).past in
      let d : Closed s w tail false (i + 1) (j + 1) r (string_end s (j + 1)) = string_along next h.free (or_right (eqb (get_or w i 0) 10) (holds 10 (part w (i + 1) r.end)) (holds_parted w i r.end l c (h.whole refl))) in
      let o : Along s w tail i j r.end (string_end s (j + 1)).end = along_join one d.along in
      let g : get_or s j 0 ≡ 34 = byte_alike a l n ∙ q in
      let m : part s j (string_end s (j + 1)).end ≡ 34 ∷ part s (j + 1) (string_end s (j + 1)).end = part_more s j (string_end s (j + 1)).end (omega (arith, d.along.past, d.along.even)) (byte_within a l n) ∙ ap (λ (y : ℕ). y ∷ part s (j + 1) (string_end s (j + 1)).end) g in
      same refl (record {
        unbarred = d.free;
        going = refl;
        gives = ap (joined_from false) m ∙ (ap (λ (y : List ℕ). 34 ∷ y) d.whole ∙ (sym m ∙ o.same));
        along = o;
        unmarked = refl;
      }))

  slash-token : Alike (slash_token (between in_definition b) s j) (slash_token (afresh x b) w i)
  unfolding slash_token
  slash-token =
      by_both Alike b b refl (λ e. byte_alike_token Byte 0 refl refl)
      (λ e. by_both Alike (eqb (get_or s (j + 1) 0) 47) (eqb (get_or w (i + 1) 0) 47) (test_alike next (λ y. eqb y 47) refl) (λ e h. true_false true refl h.no_line)
      (λ e. by_both Alike (eqb (get_or s (j + 1) 0) 42) (eqb (get_or w (i + 1) 0) 42) (test_alike next (λ y. eqb y 42) refl) (λ e h. true_false true refl h.no_block)
      (λ e. byte_alike_token Byte 0 refl refl)))

  digits-token : (c d : ℕ) → Along s w tail i j c d → Alike (digits_token s j d) (digits_token w i c)
  unfolding digits_token
  digits-token c d o =
      by_both Alike (is_base (get_or s d 0)) (is_base (get_or w c 0)) (test_alike o.aligned (λ y. is_base y) refl)
      (λ e. run_token Based (c + 1) (d + 1) 63 refl refl refl (along_join o (along_passed o.aligned (λ y. is_base y) refl refl e)))
      (λ e. byte_alike_token Byte 0 refl refl)

  based-token : Alike (based_token s j) (based_token w i)
  unfolding based_token
  based-token =
      by_both Alike (is_sign (get_or s (j + 1) 0)) (is_sign (get_or w (i + 1) 0)) (test_alike next (λ y. is_sign y) refl)
      (λ e. digits-token (i + 2) (j + 2) (along_join one (passed_to next (i + 2) (j + 2) (omega arith) (omega arith) (λ y. is_sign y) refl refl e)))
      (λ e. digits-token (i + 1) (j + 1) one)

  -- an escaped name from c on, also behind a grave accent
  module _ (k m c d : ℕ) (o : Along s w tail i j c d) (p : is_aside (plain k j d m) ≡ false) (q : (is_mark (plain k j d m) && not x) ≡ false) where
    module _ (g : Along s w tail c d (span_end true true w c).end (span_end true true s d).end) (z : (span_end true true s d).bar ≡ (span_end true true w c).bar) where
      level_end : eqb (span_end true true s d).end d ≡ eqb (span_end true true w c).end c
      level_end = go (eqb (span_end true true w c).end c) refl
        where
          go : (y : Bool) → eqb (span_end true true w c).end c ≡ y → eqb (span_end true true s d).end d ≡ y
          go true e =
              let f : (span_end true true w c).end ≡ c = eqb-true (span_end true true w c).end c e in
              eq-eqb (span_end true true s d).end d (omega (arith, g.even))
          go false e = ne_eqb (span_end true true s d).end d (λ h. eqb-false (span_end true true w c).end c e (omega (arith, g.even)))

      level_token : Alike (escaped_or k j d m (span_end true true s d)) (escaped_or k i c m (span_end true true w c))
      level_token =
          by_both Alike (eqb (span_end true true s d).end d) (eqb (span_end true true w c).end c) level_end
          (λ e. byte_alike_token Byte m refl refl)
          (λ e. rw z (named_alike k (span_end true true w c).bar c d (span_end true true w c).end (span_end true true s d).end p q (omega (arith, g.even, g.past)) (along_join o g)))

    module _ (no_byte : eqb k Byte ≡ false) (no_quote : eqb k Quote ≡ false) (no_string : eqb k String ≡ false) (slanted : is_slanted w (named k i c (span_end true true w c).end (span_end true true w c).bar) ≡ true) (short : m ≡ 0 → c ≡ i + 1) (lead : m ≡ 0 → get_or w i 0 ≡ 92) where
      module _ (h : c ≤ (span_end true true w c).end) (y : get_or w (span_end true true w c).end 0 ≡ 92) (v : get_or w ((span_end true true w c).end + 1) 0 ≡ 10) (g : Along s w tail c d ((span_end true true w c).end + 1) (span_end true true s d).end) (z : (span_end true true s d).bar ≡ (span_end true true w c).bar) where
        over_taken : (e : ℕ) → e ≡ (span_end true true w c).end + 1 → (span_end true true w c).bar ≡ 0 → (span_end true true w c).end - c < 1024 → Taken s w tail x b i j e (named k j d (span_end true true s d).end (span_end true true s d).bar)
        over_taken e f u r =
            taken (named k j d (span_end true true s d).end (span_end true true s d).bar) e refl p q
            (named_free (span_end true true s d).bar ((span_end true true s d).end - d) (z ∙ u) (omega (arith, g.even)))
            (rw f (along_join o g))

        -- a single `\`, and another before the newline
        over_byte : (span_end true true w c).end ≡ c → Alike (named k j d (span_end true true s d).end (span_end true true s d).bar) (plain Byte i (i + 1) m)
        over_byte e f =
            let t : (span_end true true w c).end ≡ i + 1 = e ∙ short f.free in
            let u : (span_end true true w c).bar ≡ 0 = ap (λ (r : Scan). r.bar) (span_slash_end w c (rw e at y) (rw e at v)) in
            longer
            (record { slash = rw t at y; newline = rw t at v; no_quote = no_quote; no_byte = no_byte; unquoted = refl; no_string = refl; led = λ _. lead f.free })
            (over_taken (i + 1 + 1) (rw t) u (omega arith))

        over_name : Alike (named k j d (span_end true true s d).end (span_end true true s d).bar) (named k i c (span_end true true w c).end (span_end true true w c).bar)
        over_name f =
            let e = (span_end true true w c).end in
            let r : (leb 1024 (e - c) && eqb (get_or w e 0) 92) ≡ false = and_second (is_slanted w (named k i c e (span_end true true w c).bar)) (leb 1024 (e - c) && eqb (get_or w e 0) 92) slanted f.room in
            let u : leb 1024 (e - c) ≡ false = and_first (leb 1024 (e - c)) (eqb (get_or w e 0) 92) (eq-eqb (get_or w e 0) 92 y) r in
            longer
            (record { slash = y; newline = v; no_quote = no_quote; no_byte = no_byte; unquoted = no_quote; no_string = no_string; led = λ r. true_false (eqb k Byte) r no_byte })
            (over_taken (e + 1) refl (named_clean (span_end true true w c).bar (cond (ltb 1024 (e - c)) 6 0) f.free) (leb-false 1024 (e - c) u))

        over_token : Alike (escaped_or k j d m (span_end true true s d)) (escaped_or k i c m (span_end true true w c))
        over_token =
            by_test (λ (t : Token). Alike t (escaped_or k i c m (span_end true true w c))) (eqb (span_end true true s d).end d)
            (λ e. absurd (let f : (span_end true true s d).end ≡ d = eqb-true (span_end true true s d).end d e in omega (arith, g.even)))
            (λ e. by_test (λ (u : Token). Alike (named k j d (span_end true true s d).end (span_end true true s d).bar) u) (eqb (span_end true true w c).end c)
            (λ f. over_byte (eqb-true (span_end true true w c).end c f)) (λ f. over_name))

      escaped_token : Alike (escaped_or k j d m (span_end true true s d)) (escaped_or k i c m (span_end true true w c))
      escaped_token = go (span_along o.within o.aligned)
        where
          go : Spanned s w tail c d (span_end true true w c) (span_end true true s d) → Alike (escaped_or k j d m (span_end true true s d)) (escaped_or k i c m (span_end true true w c))
          go (level g z) = level_token g z
          go (over h y v g z) = over_token h y v g z

  backslash-token : get_or w i 0 ≡ 92 → Alike (backslash_token (between in_definition b) s j) (backslash_token (afresh x b) w i)
  unfolding backslash_token
  backslash-token q =
      rw (never_newline next)
      (by_both Alike b b refl (λ e. byte_alike_token Byte 0 refl refl)
      (λ e. escaped_token Escaped 0 (i + 1) (j + 1) one refl refl refl refl refl refl (λ z. refl) (λ z. q)))

  -- a quote mark or joiner, which bars outside macro text
  mark_token : (k e f : ℕ) → is_aside (plain k j f 0) ≡ false → Along s w tail i j e f → Alike (plain k j f 0) (plain k i e (cond x 0 4))
  mark_token k e f p o h = same refl (taken (plain k j f 0) e refl p (and_false (is_mark (plain k j f 0)) (not x) (textual x h.free)) refl o)

  -- past "`\"
  escaped_grave_token : get_or w (i + 1) 0 ≡ 92 → Alike (escaped_grave (between in_definition b) s j) (escaped_grave (afresh x b) w i)
  unfolding escaped_grave
  escaped_grave_token q =
      let o : Along s w tail (i + 1) (j + 1) (i + 2) (j + 2) = passed_to next (i + 2) (j + 2) (omega arith) (omega arith) (λ y. eqb y 92) refl refl (eq-eqb (get_or w (i + 1) 0) 92 q) in
      by_both Alike (eqb (get_or s (j + 2) 0) 96 && eqb (get_or s (j + 3) 0) 34) (eqb (get_or w (i + 2) 0) 96 && eqb (get_or w (i + 3) 0) 34)
      (pair_alike o.aligned (i + 3) (j + 3) (omega arith) (omega arith) 96 34 refl refl)
      (λ e.
      let f : Along s w tail (i + 2) (j + 2) (i + 3) (j + 3) = passed_to o.aligned (i + 3) (j + 3) (omega arith) (omega arith) (λ y. eqb y 96) refl refl (and_left (eqb (get_or w (i + 2) 0) 96) (eqb (get_or w (i + 3) 0) 34) e) in
      let g : Along s w tail (i + 3) (j + 3) (i + 4) (j + 4) = passed_to f.aligned (i + 4) (j + 4) (omega arith) (omega arith) (λ y. eqb y 34) refl refl (and_right (eqb (get_or w (i + 2) 0) 96) (eqb (get_or w (i + 3) 0) 34) e) in
      mark_token EscapedQuote (i + 4) (j + 4) refl (along_join one (along_join o (along_join f g))))
      (λ e. by_both Alike b b refl (λ e. byte_alike_token Byte 4 refl refl)
      (λ e. escaped_token Grave 4 (i + 2) (j + 2) (along_join one o) refl refl refl refl refl (eq-eqb (get_or w (i + 1) 0) 92 q) (λ z. absurd (omega arith)) (λ z. absurd (omega arith))))

  grave-token : Alike (grave_token (between in_definition b) s j) (grave_token (afresh x b) w i)
  unfolding grave_token
  grave-token =
      by_both Alike (is_start (get_or s (j + 1) 0)) (is_start (get_or w (i + 1) 0)) (test_alike next (λ y. is_start y) refl)
      (λ e.
      let o : Along s w tail (i + 1) (j + 1) (i + 2) (j + 2) = passed_to next (i + 2) (j + 2) (omega arith) (omega arith) (λ y. is_start y) refl refl e in
      let f : Along s w tail (i + 1) (j + 1) (run_end 36 w (i + 2)) (run_end 36 s (j + 2)) = along_join o (run_along 36 refl o.within o.aligned) in
      named_alike Grave 0 (i + 1) (j + 1) (run_end 36 w (i + 2)) (run_end 36 s (j + 2)) refl refl (omega (arith, f.even, f.past)) (along_join one f))
      (λ e. by_both Alike (eqb (get_or s (j + 1) 0) 34) (eqb (get_or w (i + 1) 0) 34) (test_alike next (λ y. eqb y 34) refl)
      (λ e. mark_token Quote (i + 2) (j + 2) refl (along_join one (passed_to next (i + 2) (j + 2) (omega arith) (omega arith) (λ y. eqb y 34) refl refl e)))
      (λ e. by_both Alike (eqb (get_or s (j + 1) 0) 96) (eqb (get_or w (i + 1) 0) 96) (test_alike next (λ y. eqb y 96) refl)
      (λ e. mark_token Joiner (i + 2) (j + 2) refl (along_join one (passed_to next (i + 2) (j + 2) (omega arith) (omega arith) (λ y. eqb y 96) refl refl e)))
      (λ e. by_latter Alike (eqb (get_or s (j + 1) 0) 92) (eqb (get_or w (i + 1) 0) 92) (plain Byte j (j + 1) 4)
      (λ e. ap (λ (y : ℕ). eqb y 92) (passed_alike next (λ y. eqb y 92) refl refl e) ∙ e)
      (λ e. escaped_grave_token (eqb-true (get_or w (i + 1) 0) 92 e))
      (λ e t h. absurd (omega (arith, h.free))))))

  sign-token : Alike (sign_token (between in_definition b) s j (get_or s j 0)) (sign_token (afresh x b) w i (get_or w i 0))
  unfolding sign_token
  sign-token =
      let c : get_or s j 0 ≡ get_or w i 0 = byte_alike a l n in
      by_both Alike (eqb (get_or s j 0) 34) (eqb (get_or w i 0) 34) (ap (λ (y : ℕ). eqb y 34) c) (λ e. string-token (eqb-true (get_or w i 0) 34 e))
      (λ e. by_both Alike (eqb (get_or s j 0) 47) (eqb (get_or w i 0) 47) (ap (λ (y : ℕ). eqb y 47) c) (λ e. slash-token)
      (λ e. by_both Alike (eqb (get_or s j 0) 92) (eqb (get_or w i 0) 92) (ap (λ (y : ℕ). eqb y 92) c) (λ e. backslash-token (eqb-true (get_or w i 0) 92 e))
      (λ e. by_both Alike (eqb (get_or s j 0) 39) (eqb (get_or w i 0) 39) (ap (λ (y : ℕ). eqb y 39) c) (λ e. based-token)
      (λ e. by_both Alike (eqb (get_or s j 0) 96) (eqb (get_or w i 0) 96) (ap (λ (y : ℕ). eqb y 96) c) (λ e. grave-token)
      (λ e. rw c (byte_alike_token Byte (cond (is_legal (get_or w i 0)) 0 2) refl refl))))))

  pub token_turn : Fit w (token_at (afresh x b) w i) → Turn s w tail x b i j (token_at (between in_definition b) s j) (token_at (afresh x b) w i)
  unfolding token_at
  token_turn =
      let c : get_or s j 0 ≡ get_or w i 0 = byte_alike a l n in
      by_both Alike (leb (length s) j) (leb (length w) i) (lt-leb (length s) j (byte_within a l n) ∙ sym (lt-leb (length w) i l))
      (λ e. true_false (leb (length w) i) e (lt-leb (length w) i l))
      (λ e. by_both Alike (is_white (get_or s j 0)) (is_white (get_or w i 0)) (ap (λ (y : ℕ). is_white y) c) (λ e. byte_alike_token White 0 refl refl)
      (λ e. by_both Alike (is_start (get_or s j 0)) (is_start (get_or w i 0)) (ap (λ (y : ℕ). is_start y) c) (λ e. name_token)
      (λ e. by_both Alike (is_digit (get_or s j 0)) (is_digit (get_or w i 0)) (ap (λ (y : ℕ). is_digit y) c) (λ e. run_token Number (i + 1) (j + 1) 36 refl refl refl one)
      (λ e. by_both Alike (eqb (get_or s j 0) 10) (eqb (get_or w i 0) 10) (ap (λ (y : ℕ). eqb y 10) c) (λ e. true_false (eqb (get_or w i 0) 10) e n)
      (λ e. by_both Alike (eqb (get_or s j 0) 36) (eqb (get_or w i 0) 36) (ap (λ (y : ℕ). eqb y 36) c) (λ e. run_token Dollar (i + 1) (j + 1) 36 refl refl refl one)
      (λ e. sign-token))))))
