-- White space at the ends of a text, which changes nothing of how it ends.
-- Assumes nothing.
use Prim.Native.Nat.{ℕ, zero, suc, ◌<◌, ◌≤◌}
use mathlib.Core.Bool.{Bool, true, false, cond, not, ◌&&◌, ◌||◌}
use mathlib.Core.List.{List, [], ◌∷◌, ◌++◌}
use mathlib.Core.Path.{◌≡◌, refl, ap, sym, ◌∙◌}
use lib.Dec.{eqb, ltb}
use lib.ListN.{length}
use native.Mathlib.Omega.{arith}
use borrow.Author.Tests.{eqb-true, ne_eqb, le-leb}
use Rattle.lex.specs.Classes.{is_space, is_start, is_run, is_sign, is_base, is_legal}
use Rattle.lex.proofs.Tests.{true_false, by_test}
use Rattle.names.specs.Names.{number_in, macro_directives, state_directives, other_directives, directive_of, state_of, other_of, bars_text}
use Rattle.text.specs.Bytes.{bytes, same}
use Rattle.storing.specs.Stored.{keep, trim_left, trim_right}
use Rattle.afresh.specs.Unfit.{is_open}
use Rattle.afresh.specs.States.{State, state, at, Bad, Start, fresh, spoilt, closed, slant, in_word, in_solid, in_doubt, in_line, in_accent, in_slanted, in_twice, in_tick, in_run, in_string, in_marked, in_short, outside, next, reading, leaves, ended, begun}

pub reading_more : (q : State) (xs ys : List ℕ) → reading q (xs ++ ys) ≡ reading (reading q xs) ys
unfolding reading
reading_more q [] ys = refl
reading_more q (x ∷ xs) ys = reading_more (next q x) xs ys

-- what holds of each byte of white space
spaces : (P : ℕ → Type 0) → P 10 → P 9 → P 12 → P 32 → (x : ℕ) → is_space x ≡ true → P x
spaces P a b c d x = by (eqb x 10) (eqb x 9) (eqb x 12) (eqb x 32) refl refl refl refl
  where
    by : (p q r s : Bool) → eqb x 10 ≡ p → eqb x 9 ≡ q → eqb x 12 ≡ r → eqb x 32 ≡ s → (p || (q || (r || s))) ≡ true → P x
    by true q r s e f g h t = rw (eqb-true x 10 e) a
    by false true r s e f g h t = rw (eqb-true x 9 f) b
    by false false true s e f g h t = rw (eqb-true x 12 g) c
    by false false false true e f g h t = rw (eqb-true x 32 h) d
    by false false false false e f g h t = true_false false t refl

-- how a reading ends that its own state leaves bad or not
abbrev over : State → Bool → Bool
over q l = q.marks || (is_open q.due || l)

over_bad : (q : State) → over q true ≡ true
over_bad q = go q.marks (is_open q.due)
  where
    go : (b d : Bool) → (b || (d || true)) ≡ true
    go true d = refl
    go false true = refl
    go false false = refl

bad_ends : (q : State) → ended (at Bad q) ≡ true
unfolding ended leaves
bad_ends q = over_bad q

-- a byte of white space, between tokens and behind a name
fresh_space : (q : State) (x : ℕ) → is_space x ≡ true → ended (fresh q x) ≡ over q false
unfolding fresh ended leaves
fresh_space q = spaces (λ (x : ℕ). ended (fresh q x) ≡ over q false) (go q.marks refl) refl refl refl
  where
    go : (b : Bool) → q.marks ≡ b → ended (cond q.marks (at Bad q) (at Start q)) ≡ over q false
    go true e = rw e
    go false e = rw e

closed_space : (q : State) (x : ℕ) → is_space x ≡ true → ended (closed q x) ≡ over q (spoilt q)
unfolding closed
closed_space q x e = go (spoilt q) refl
  where
    go : (b : Bool) → spoilt q ≡ b → ended (cond (spoilt q) (at Bad q) (fresh q x)) ≡ over q (spoilt q)
    go true z = rw z (bad_ends q ∙ sym (over_bad q))
    go false z = rw z (fresh_space q x e)

-- what a byte of white space is and is not
record Space (x : ℕ) : Type 0 where
  space : is_space x ≡ true
  legal : is_legal x ≡ true
  accent : eqb x 96 ≡ false
  start : is_start x ≡ false
  name : is_run 36 x ≡ false
  number : is_run 63 x ≡ false
  base : is_base x ≡ false
  sign_of : is_sign x ≡ false
  quote : eqb x 34 ≡ false
  slash : eqb x 47 ≡ false
  star : eqb x 42 ≡ false
  solid : eqb x 92 ≡ false

space_of : (x : ℕ) → is_space x ≡ true → Space x
space_of x e =
    record {
      space = e;
      legal = told is_legal true refl refl refl refl;
      accent = told (λ x. eqb x 96) false refl refl refl refl;
      start = told is_start false refl refl refl refl;
      name = told (is_run 36) false refl refl refl refl;
      number = told (is_run 63) false refl refl refl refl;
      base = told is_base false refl refl refl refl;
      sign_of = told is_sign false refl refl refl refl;
      quote = told (λ x. eqb x 34) false refl refl refl refl;
      slash = told (λ x. eqb x 47) false refl refl refl refl;
      star = told (λ x. eqb x 42) false refl refl refl refl;
      solid = told (λ x. eqb x 92) false refl refl refl refl;
    }
  where
    told : (p : ℕ → Bool) (b : Bool) → p 10 ≡ b → p 9 ≡ b → p 12 ≡ b → p 32 ≡ b → p x ≡ b
    told p b f g h i = spaces (λ (x : ℕ). p x ≡ b) f g h i x e

-- a grave accent is no directive's name
no_directive : bars_text (96 ∷ []) ≡ false
unfolding directive_of state_of other_of number_in macro_directives state_directives other_directives bytes same
no_directive = refl

-- a byte of white space in each state
module _ (x : ℕ) (s : Space x) where
  string_space : (q : State) → ended (in_string q x) ≡ true
  unfolding in_string ended leaves
  string_space q =
      by_test (λ (r : State). ended r ≡ true) (eqb x 10) (λ e. over_bad q)
      (λ e. by_test (λ (r : State). ended r ≡ true) (eqb q.kind 8) (λ e. over_bad q) (λ e. rw (s.solid, s.quote) (over_bad q)))

  word_space : (q : State) → ended (in_word q x) ≡ over q (spoilt q)
  unfolding in_word
  word_space q = rw s.name (closed_space q x s.space)

  solid_space : (q : State) → ended (in_solid q x) ≡ over q (spoilt q)
  unfolding in_solid
  solid_space q = rw s.space (closed_space q x s.space)

  doubt_space : (q : State) → ended (in_doubt q x) ≡ over q (ltb 1024 (length q.name) || spoilt q)
  unfolding in_doubt ended leaves
  doubt_space q = go (ltb 1024 (length q.name)) refl
    where
      go : (b : Bool) → ltb 1024 (length q.name) ≡ b → ended (in_doubt q x) ≡ over q (ltb 1024 (length q.name) || spoilt q)
      go true z = rw z (bad_ends q ∙ sym (over_bad q))
      go false z =
          rw z
          (by_test (λ (r : State). ended r ≡ over q (spoilt q)) (eqb x 10) (λ e. rw z) (λ e. solid_space q))

  slanted_space : (q : State) → ended (in_slanted q x) ≡ over q true
  unfolding in_slanted
  slanted_space q =
      rw s.accent
      (by_test (λ (r : State). ended r ≡ over q true) q.marks (λ e. bad_ends q ∙ sym (over_bad q)) (λ e. solid_space (slant [] q)))

  twice_space : (q : State) → ended (in_twice q x) ≡ over q false
  unfolding in_twice
  twice_space q =
      rw s.quote
      (by_test (λ (r : State). ended r ≡ over q false) q.marks
      (λ e. bad_ends q ∙ ap (λ b. b || (is_open q.due || false)) (sym e)) (λ e. solid_space (slant (96 ∷ []) q) ∙ ap (over q) no_directive))

  no_accent : (text : Bool) → (not text && eqb x 96) ≡ false
  no_accent true = refl
  no_accent false = s.accent

  module _ (text b g : Bool) (n ks : List ℕ) where
    abbrev with : ℕ → State
    with k = state k text b g n ks

    bad_kind : (k : ℕ) → 17 ≤ k → ended (next (with k) x) ≡ ended (with k)
    unfolding next outside in_short in_marked ended leaves
    bad_kind k h =
        rw (
          s.legal,
          no_accent text,
          le-leb 17 k h,
          past 0 (omega arith),
          past 1 (omega arith),
          past 2 (omega arith),
          past 3 (omega arith),
          past 4 (omega arith),
          past 5 (omega arith),
          past 6 (omega arith),
          past 7 (omega arith),
          past 8 (omega arith),
          past 9 (omega arith),
          past 10 (omega arith),
          past 11 (omega arith),
          past 12 (omega arith),
          past 13 (omega arith),
          past 14 (omega arith),
          past 15 (omega arith),
          past 16 (omega arith),
        )
      where
        past : (j : ℕ) → j < 17 → eqb k j ≡ false
        past j l = ne_eqb k j (λ e. omega arith)

    by_kind : (k : ℕ) → ended (next (with k) x) ≡ ended (with k)
    unfolding next outside in_short in_marked in_run in_tick in_line in_accent ended leaves
    by_kind zero = rw (s.legal, no_accent text) (fresh_space (with 0) x s.space)
    by_kind (suc zero) = rw (s.legal, no_accent text) (word_space (with 1))
    by_kind (suc (suc zero)) = rw (s.legal, no_accent text, s.name) (fresh_space (with 2) x s.space)
    by_kind (suc (suc (suc zero))) = rw (s.legal, no_accent text, s.number) (fresh_space (with 3) x s.space)
    by_kind (suc (suc (suc (suc zero)))) = rw (s.legal, no_accent text, s.base, s.sign_of) (fresh_space (with 4) x s.space)
    by_kind (suc (suc (suc (suc (suc zero))))) = rw (s.legal, no_accent text, s.base) (word_space (with 5))
    by_kind (suc (suc (suc (suc (suc (suc zero)))))) = rw s.legal (string_space (with 6) ∙ sym (over_bad (with 6)))
    by_kind (suc (suc (suc (suc (suc (suc (suc zero))))))) = rw s.legal (string_space (with 7) ∙ sym (over_bad (with 7)))
    by_kind (suc (suc (suc (suc (suc (suc (suc (suc zero)))))))) = rw s.legal (string_space (with 8) ∙ sym (over_bad (with 8)))
    by_kind (suc (suc (suc (suc (suc (suc (suc (suc (suc zero))))))))) = rw (s.legal, no_accent text, s.quote) (fresh_space (with 9) x s.space)
    by_kind (suc (suc (suc (suc (suc (suc (suc (suc (suc (suc zero)))))))))) = rw (s.legal, no_accent text, s.slash, s.star) (fresh_space (with 10) x s.space)
    by_kind (suc (suc (suc (suc (suc (suc (suc (suc (suc (suc (suc zero))))))))))) = rw (s.legal, no_accent text) (solid_space (with 11))
    by_kind (suc (suc (suc (suc (suc (suc (suc (suc (suc (suc (suc (suc zero)))))))))))) = rw (s.legal, no_accent text) (doubt_space (with 12))
    by_kind (suc (suc (suc (suc (suc (suc (suc (suc (suc (suc (suc (suc (suc zero))))))))))))) = rw (s.legal, no_accent text, s.space)
    by_kind (suc (suc (suc (suc (suc (suc (suc (suc (suc (suc (suc (suc (suc (suc zero)))))))))))))) = rw (s.legal, no_accent text, s.start, s.quote, s.accent, s.solid)
    by_kind (suc (suc (suc (suc (suc (suc (suc (suc (suc (suc (suc (suc (suc (suc (suc zero))))))))))))))) = rw (s.legal, no_accent text) (slanted_space (with 15))
    by_kind (suc (suc (suc (suc (suc (suc (suc (suc (suc (suc (suc (suc (suc (suc (suc (suc zero)))))))))))))))) = rw (s.legal, no_accent text) (twice_space (with 16))
    by_kind (suc (suc (suc (suc (suc (suc (suc (suc (suc (suc (suc (suc (suc (suc (suc (suc (suc k))))))))))))))))) = bad_kind (suc (suc (suc (suc (suc (suc (suc (suc (suc (suc (suc (suc (suc (suc (suc (suc (suc k))))))))))))))))) (omega arith)

-- a byte of white space changes nothing of how a reading ends
next_space : (q : State) (x : ℕ) → is_space x ≡ true → ended (next q x) ≡ ended q
next_space q x e = by_kind x (space_of x e) q.text q.marks q.grave q.name q.due q.kind

pub space_last : (q : State) (xs : List ℕ) (x : ℕ) → is_space x ≡ true → ended (reading q (xs ++ (x ∷ []))) ≡ ended (reading q xs)
unfolding reading
space_last q xs x e = ap ended (reading_more q xs (x ∷ [])) ∙ next_space (reading q xs) x e

pub space_first : (text : Bool) (x : ℕ) (xs : List ℕ) → is_space x ≡ true → reading (begun text) (x ∷ xs) ≡ reading (begun text) xs
unfolding reading next outside fresh
space_first text x xs =
    spaces (λ (x : ℕ). reading (begun text) (x ∷ xs) ≡ reading (begun text) xs) (go text) (go text) (go text) (go text) x
  where
    go : (text : Bool) → reading (cond (not text && false) (at Bad (begun text)) (begun text)) xs ≡ reading (begun text) xs
    go true = refl
    go false = refl

ended_right : (q : State) (w : List ℕ) → ended (reading q (trim_right w)) ≡ ended (reading q w)
unfolding reading trim_right
ended_right q [] = refl
ended_right q (x ∷ xs) = go (trim_right xs) (ended_right (next q x) xs)
  where
    go : (w : List ℕ) → ended (reading (next q x) w) ≡ ended (reading (next q x) xs) → ended (reading q (keep x w)) ≡ ended (reading (next q x) xs)
    go [] ih = by_test (λ (w : List ℕ). ended (reading q w) ≡ ended (reading (next q x) xs)) (is_space x) (λ e. sym (next_space q x e) ∙ ih) (λ e. ih)
    go (y ∷ ys) ih = ih

reading_left : (text : Bool) (w : List ℕ) → reading (begun text) (trim_left w) ≡ reading (begun text) w
unfolding trim_left
reading_left text [] = refl
reading_left text (x ∷ xs) =
    by_test (λ (w : List ℕ). reading (begun text) w ≡ reading (begun text) (x ∷ xs)) (is_space x)
    (λ e. reading_left text xs ∙ sym (space_first text x xs e)) (λ e. refl)

pub trimmed : (text : Bool) (w : List ℕ) → ended (reading (begun text) (trim_right (trim_left w))) ≡ ended (reading (begun text) w)
trimmed text w = ended_right (begun text) (trim_left w) ∙ ap ended (reading_left text w)
