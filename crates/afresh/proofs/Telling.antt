-- What a token makes of a text, as the judging of tokens has it; what follows the token is read byte by byte.
-- Assumes nothing.
use Prim.Native.Nat.{ℕ, ◌+◌, ◌-◌, ◌<◌}
use mathlib.Core.Bool.{Bool, true, false, cond, not, ◌||◌}
use mathlib.Core.List.{List, ◌∷◌}
use mathlib.Core.Path.{◌≡◌, refl, ap, sym, ◌∙◌}
use native.Mathlib.Numerals.{add-one}
use native.Mathlib.Omega.{arith}
use lib.Dec.{eqb, ltb}
use lib.ListN.{drop}
use Rattle.text.specs.Bytes.{holds, part}
use Rattle.text.proofs.Matching.{part_none}
use Rattle.lex.specs.Tokens.{String, Name, Grave, Byte, Quote, is, marks_after, plain, named, scanned}
use Rattle.lex.specs.declared.Mode.{Mode}
use Rattle.lex.specs.declared.Scan.{Scan}
use Rattle.lex.specs.declared.Token.{Token}
use Rattle.brackets.specs.Steps.{Step, on, done, torn, step_of}
use Rattle.afresh.specs.Judging.{barred_grave}
use Rattle.afresh.specs.Unfit.{is_accented, held_by, unless, is_unfit}
use Rattle.afresh.specs.States.{by_bracket, single}
use Rattle.afresh.proofs.Going.{Hold, quoted, under, is_text, marks_of, start, verdict, bad_stays}
use Rattle.afresh.proofs.Placing.{byte_at, rest_at, part_from}

pub either : {A : Type 0} (b : Bool) (a : A) → cond b a a ≡ a
either true a = refl
either false a = refl

-- a byte that is no bracket and no comma
pub single_on : (h : Hold) (x : ℕ) → ((ks : List ℕ) → step_of x ks ≡ on ks) → single (start h) x ≡ start h
single_on (quoted b) x e = refl
single_on (under ks) x e = rw (e ks)

-- how a text or a default is read between two tokens
abbrev pub mode_of : Hold → Mode
mode_of h = record { text = is_text h; define = false; marks = marks_of h }

-- a token that is bad, or what comes of what follows
abbrev pub after : List ℕ → Hold → Token → (Hold → Bool) → Bool
after w (quoted b) t go = cond (is_unfit w b t || barred_grave w t) true (go (quoted (marks_after b t)))
after w (under ks) t go = cond (is_unfit w false t || is_accented w t) true (unless (held_by w t ks) (λ js. go (under js)))

abbrev pub told : List ℕ → Hold → Token → Bool
told w h t = after w h t (λ j. verdict (start j) (drop t.end w))

module _ (w : List ℕ) where
  pub told_bad : (h : Hold) (t : Token) → is_unfit w (marks_of h) t ≡ true → told w h t ≡ true
  told_bad (quoted b) t e = rw e
  told_bad (under ks) t e = rw e

  -- a token that changes nothing
  pub told_fit : (h : Hold) (t : Token) → is_unfit w (marks_of h) t ≡ false → is Grave t ≡ false → is Quote t ≡ false → is Byte t ≡ false
      → (is_text h ≡ false → is_accented w t ≡ false) → told w h t ≡ verdict (start h) (drop t.end w)
  told_fit (quoted b) t e g q s a = rw (e, g, q)
  told_fit (under ks) t e g q s a = rw (e, a refl, s)

  module _ (i x : ℕ) (xs : List ℕ) (d : drop i w ≡ x ∷ xs) where
    pub rest_one : drop (i + 1) w ≡ xs
    rest_one = ap (λ (n : ℕ). drop n w) (add-one i) ∙ rest_at w i x xs d

    pub part_first : (e : ℕ) → i < e → part w i e ≡ x ∷ part w (i + 1) e
    part_first e h = part_from w i x xs d e h ∙ ap (λ (n : ℕ). x ∷ part w n e) (sym (add-one i))

    -- no grave accent first, and none further on
    pub clean_first : eqb x 96 ≡ false → (e : ℕ) → i < e → holds 96 (part w (i + 1) e) ≡ false → holds 96 (part w i e) ≡ false
    unfolding holds
    clean_first n e h c = rw (part_first e h, n, c)

    clean_one : eqb x 96 ≡ false → holds 96 (part w i (i + 1)) ≡ false
    unfolding holds
    clean_one n = clean_first n (i + 1) (omega arith) (rw (part_none w (i + 1) (i + 1) (omega arith)))

    -- a byte that is a token
    pub told_byte : eqb x 96 ≡ false → (h : Hold) → told w h (plain Byte i (i + 1) 0) ≡ verdict (single (start h) x) xs
    told_byte n (quoted b) = rw rest_one
    told_byte n (under ks) = rw (clean_one n, byte_at w i (x ∷ xs) d, rest_one) (go (step_of x ks))
      where
        go : (s : Step) → unless s (λ js. verdict (start (under js)) xs) ≡ verdict (by_bracket (start (under ks)) s) xs
        go (on js) = refl
        go done = sym (bad_stays (under ks) xs)
        go torn = sym (bad_stays (under ks) xs)

    -- a plain name
    pub told_name : (h : Hold) (e : ℕ) → (is_text h ≡ false → holds 96 (part w i e) ≡ false)
        → told w h (named Name i i e 0) ≡ (ltb 1024 (e - i) || verdict (start h) (drop e w))
    told_name h e c = go (ltb 1024 (e - i)) refl
      where
        go : (b : Bool) → ltb 1024 (e - i) ≡ b → told w h (named Name i i e 0) ≡ (b || verdict (start h) (drop e w))
        go true q = told_bad h (named Name i i e 0) (rw q)
        go false q = told_fit h (named Name i i e 0) (rw q) refl refl refl c

    pub told_string : (h : Hold) (r : Scan)
        → told w h (scanned String i r) ≡ (not (eqb r.bar 0) || (holds 10 (part w i r.end) || verdict (start h) (drop r.end w)))
    told_string h r = go (eqb r.bar 0) (holds 10 (part w i r.end)) refl refl
      where
        go : (a b : Bool) → eqb r.bar 0 ≡ a → holds 10 (part w i r.end) ≡ b
            → told w h (scanned String i r) ≡ (not a || (b || verdict (start h) (drop r.end w)))
        go false b p q = told_bad h (scanned String i r) (rw p)
        go true true p q = told_bad h (scanned String i r) (rw (p, q))
        go true false p q = told_fit h (scanned String i r) (rw (p, q)) refl refl refl (λ t. refl)

  pub rest_two : (i x y : ℕ) (xs : List ℕ) → drop i w ≡ x ∷ y ∷ xs → drop (i + 2) w ≡ xs
  rest_two i x y xs d =
      let q : i + 2 ≡ i + 1 + 1 = omega arith in
      ap (λ (n : ℕ). drop n w) q ∙ rest_one (i + 1) y xs (rest_one i x (y ∷ xs) d)
