-- The name of a start macro, without a leading `\`, is fit for a macro.
-- Assumes nothing.
use Prim.Native.Nat.{ℕ, ◌+◌, ◌-◌, ◌<◌, ◌≤◌}
use native.Mathlib.Omega.{arith}
use mathlib.Core.Bool.{Bool, true, false, cond, not, ◌&&◌, ◌||◌}
use mathlib.Core.List.{List, [], ◌∷◌}
use mathlib.Core.Path.{◌≡◌, refl, sym, ap, ◌∙◌, subst}
use lib.Dec.{eqb, leb, ltb}
use lib.ListN.{length, get_or}
use lib.Seq.{take_all}
use borrow.Author.Tests.{eqb-true, not-true, leb-true}
use Rattle.text.specs.Bytes.{part}
use Rattle.lex.specs.Classes.{is_white, is_digit, is_start, is_sign, is_base}
use Rattle.lex.specs.Scans.{span_end}
use Rattle.lex.specs.Tokens.{in_file, Name, Escaped, is, string_token, slash_token, digits_token, based_token, escaped_grave, grave_token, sign_token, token_at, name_of}
use Rattle.lex.specs.declared.Mode.{Mode}
use Rattle.lex.specs.declared.Token.{Token}
use Rattle.lex.proofs.Tests.{by_test, and_left, and_right, true_false}
use Rattle.names.specs.Names.{is_directive}
use Rattle.definition.proofs.Formals.{kind_inside}
use Rattle.genuine.specs.Fitness.{is_short, all_solid, fit_name}
use Rattle.definition.proofs.Seeing.{Seen, one, word, slanted, other, token_seen}
use Rattle.genuine.proofs.Naming.{Solid, formal_solid, word_fit, slanted_fit}
use Rattle.macros.specs.Looking.{plainly}
use Rattle.macros.specs.Starting.{is_start_name}

-- only a `\` begins an escaped name
module _ (m : Mode) (s : List ℕ) (i : ℕ) where
  abbrev Other : Token → Type 0
  Other t = is Escaped t ≡ false

  string_other : Other (string_token s i)
  unfolding string_token
  string_other = by_test Other (eqb (get_or s (i + 1) 0) 34 && eqb (get_or s (i + 2) 0) 34) (λ e. refl) (λ e. refl)

  slash_other : Other (slash_token m s i)
  unfolding slash_token
  slash_other =
      by_test Other m.marks (λ e. refl)
      (λ e. by_test Other (eqb (get_or s (i + 1) 0) 47) (λ e. refl)
      (λ e. by_test Other (eqb (get_or s (i + 1) 0) 42) (λ e. refl) (λ e. refl)))

  digits_other : (j : ℕ) → Other (digits_token s i j)
  unfolding digits_token
  digits_other j = by_test Other (is_base (get_or s j 0)) (λ e. refl) (λ e. refl)

  based_other : Other (based_token s i)
  unfolding based_token
  based_other = by_test Other (is_sign (get_or s (i + 1) 0)) (λ e. digits_other (i + 2)) (λ e. digits_other (i + 1))

  escaped_grave_other : Other (escaped_grave m s i)
  unfolding escaped_grave
  escaped_grave_other =
      by_test Other (eqb (get_or s (i + 2) 0) 96 && eqb (get_or s (i + 3) 0) 34) (λ e. refl)
      (λ e. by_test Other m.marks (λ e. refl)
      (λ e. by_test Other (eqb (span_end true true s (i + 2)).end (i + 2)) (λ e. refl) (λ e. refl)))

  grave_other : Other (grave_token m s i)
  unfolding grave_token
  grave_other =
      by_test Other (is_start (get_or s (i + 1) 0)) (λ e. refl)
      (λ e. by_test Other (eqb (get_or s (i + 1) 0) 34) (λ e. refl)
      (λ e. by_test Other (eqb (get_or s (i + 1) 0) 96) (λ e. refl)
      (λ e. by_test Other (eqb (get_or s (i + 1) 0) 92) (λ e. escaped_grave_other) (λ e. refl))))

  module _ (h : eqb (get_or s i 0) 92 ≡ false) where
    sign_other : Other (sign_token m s i (get_or s i 0))
    unfolding sign_token
    sign_other =
        by_test Other (eqb (get_or s i 0) 34) (λ e. string_other)
        (λ e. by_test Other (eqb (get_or s i 0) 47) (λ e. slash_other)
        (λ e. by_test Other (eqb (get_or s i 0) 92) (λ e. true_false (eqb (get_or s i 0) 92) e h)
        (λ e. by_test Other (eqb (get_or s i 0) 39) (λ e. based_other)
        (λ e. by_test Other (eqb (get_or s i 0) 96) (λ e. grave_other) (λ e. refl)))))

    not_escaped : Other (token_at m s i)
    unfolding token_at
    not_escaped =
        by_test Other (leb (length s) i) (λ e. refl)
        (λ e. by_test Other (is_white (get_or s i 0)) (λ e. refl)
        (λ e. by_test Other (is_start (get_or s i 0)) (λ e. refl)
        (λ e. by_test Other (is_digit (get_or s i 0)) (λ e. refl)
        (λ e. by_test Other (eqb (get_or s i 0) 10) (λ e. refl)
        (λ e. by_test Other (eqb (get_or s i 0) 36) (λ e. refl) (λ e. sign_other))))))

-- where a name begins, and that no `\` begins a plain one
word_from : {s : List ℕ} {i : ℕ} {t : Token} → Seen s i t → is Name t ≡ true → (t.from ≡ i) × (is_start (get_or s i 0) ≡ true)
word_from (one k n p q) e = true_false (eqb k Name) e p
word_from (word h) e = (refl, h)
word_from (slanted h) e = true_false false e refl
word_from (other t f g h k) e = true_false (is Name t) e h

escaped_from : {s : List ℕ} {i : ℕ} {t : Token} → Seen s i t → is Escaped t ≡ true → t.from ≡ i + 1
escaped_from (one k n p q) e = true_false (eqb k Escaped) e q
escaped_from (word h) e = true_false false e refl
escaped_from (slanted h) e = refl
escaped_from (other t f g h k) e = true_false (is Escaped t) e k

plain_word : (w : List ℕ) → is_start (get_or w 0 0) ≡ true → plainly w ≡ part w 0 (length w)
plain_word [] h = refl
plain_word (x ∷ w) h = go (eqb x 92) refl
  where
    go : (b : Bool) → eqb x 92 ≡ b → cond b w (x ∷ w) ≡ part (x ∷ w) 0 (length (x ∷ w))
    go true e = true_false (is_start x) h (ap is_start (eqb-true x 92 e))
    go false e = sym (take_all (length (x ∷ w) - 0) (x ∷ w) (omega arith))

plain_escaped : (w : List ℕ) → eqb (get_or w 0 0) 92 ≡ true → plainly w ≡ part w 1 (length w)
plain_escaped [] h = refl
plain_escaped (x ∷ w) h = rw h (sym (take_all (length (x ∷ w) - 1) w (omega arith)))

module _ (w : List ℕ) where
  abbrev t : Token
  t = token_at in_file w 0

  word_plain : is Name t ≡ true → t.bar ≡ 0 → t.end ≡ length w → Solid (plainly w)
  word_plain e z l =
      let h : 0 < length w = kind_inside in_file w 0 Name refl e in
      let g = word_from (token_seen w 0 in_file h) e in
      let q : name_of w t ≡ plainly w = ap (part w t.from) l ∙ ap (λ (i : ℕ). part w i (length w)) g.0 ∙ sym (plain_word w g.1) in
      subst Solid q (formal_solid (name_of w t) (word_fit h (token_seen w 0 in_file h) e z))

  escaped_plain : is Escaped t ≡ true → t.bar ≡ 0 → t.end ≡ length w → Solid (plainly w)
  escaped_plain e z l =
      let h : 0 < length w = kind_inside in_file w 0 Escaped refl e in
      let g : t.from ≡ 1 = escaped_from (token_seen w 0 in_file h) e in
      let q : name_of w t ≡ plainly w = ap (part w t.from) l ∙ ap (λ (i : ℕ). part w i (length w)) g ∙ sym (plain_escaped w (first (eqb (get_or w 0 0) 92) refl)) in
      subst Solid q (slanted_fit h (token_seen w 0 in_file h) e z)
    where
      first : (b : Bool) → eqb (get_or w 0 0) 92 ≡ b → eqb (get_or w 0 0) 92 ≡ true
      first true p = p
      first false p = true_false (is Escaped t) e (not_escaped in_file w 0 p)

  named_plain : (b c : Bool) → is Name t ≡ b → is Escaped t ≡ c → (b || c) ≡ true → t.bar ≡ 0 → t.end ≡ length w → Solid (plainly w)
  named_plain true c p q e = word_plain p
  named_plain false true p q e = escaped_plain q
  named_plain false false p q e = true_false false e refl

  pub start_name_fit : is_start_name w ≡ true → fit_name (plainly w) ≡ true
  unfolding is_start_name fit_name
  start_name_fit e =
      let n = is Name t || is Escaped t in
      let c = eqb t.bar 0 && eqb t.end (length w) in
      let p : (n && c) ≡ true = and_left (n && c) (not (is_directive (plainly w))) e in
      let d : is_directive (plainly w) ≡ false = not-true (is_directive (plainly w)) (and_right (n && c) (not (is_directive (plainly w))) e) in
      let q : c ≡ true = and_right n c p in
      let h : Solid (plainly w) =
      named_plain (is Name t) (is Escaped t) refl refl (and_left n c p) (eqb-true t.bar 0 (and_left (eqb t.bar 0) (eqb t.end (length w)) q))
      (eqb-true t.end (length w) (and_right (eqb t.bar 0) (eqb t.end (length w)) q)) in
      rw (h.short, h.solid, d)

-- "name 1,024 bytes"
pub fit_short : (n : List ℕ) → fit_name n ≡ true → length n ≤ 1024
unfolding fit_name
fit_short n e =
    let s : is_short n ≡ true = and_left (is_short n) (all_solid n && not (is_directive n)) e in
    leb-true (length n) 1024 (and_right (ltb 0 (length n)) (leb (length n) 1024) s)
