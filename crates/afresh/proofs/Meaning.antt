-- A stored text or default read one byte at a time is bad exactly where its tokens are.
-- Assumes nothing.
use Prim.Native.Nat.{ℕ, zero, suc, ◌+◌, ◌<◌, ◌≤◌}
use mathlib.Core.Bool.{Bool, true, false, cond, ◌||◌}
use mathlib.Core.List.{List, [], ◌∷◌}
use mathlib.Core.Path.{◌≡◌, refl, ap, sym, ◌∙◌}
use native.Mathlib.Omega.{arith}
use lib.Dec.{eqb, leb}
use lib.ListN.{length, get_or, drop, drop_of_length-le}
use lib.Seq.{drop-cons}
use borrow.Author.Tests.{leb-true, leb-false, lt-leb, eqb-true}
use Rattle.lex.specs.Classes.{is_white, is_start, is_digit, is_legal}
use Rattle.lex.specs.Tokens.{in_file, in_text, between, marks_after, sign_token, token_at, tokens}
use Rattle.lex.specs.declared.Token.{Token}
use Rattle.lex.proofs.Tests.{by_test}
use Rattle.lex.proofs.Progress.{token_ends}
use Rattle.lex.proofs.Listing.{tokens_out, file-tokens}
use Rattle.brackets.specs.Steps.{Step, on, done, torn}
use Rattle.storing.specs.Stored.{trim_right}
use Rattle.storing.proofs.Reading.{text_next}
use Rattle.afresh.specs.Judging.{barred_grave}
use Rattle.afresh.specs.Unfit.{is_open, is_accented, held_by, unless, is_unfit, unfit_in, unfit_text, unfit_held, unfit_default}
use Rattle.afresh.specs.States.{begun, reading, leaves, ended}
use Rattle.afresh.specs.Unfit.{is_unfit_as}
use Rattle.afresh.proofs.Sorts.{or_false}
use Rattle.afresh.proofs.Going.{Hold, quoted, under, start, verdict}
use Rattle.afresh.proofs.Placing.{byte_at, goes_on}
use Rattle.afresh.proofs.Telling.{mode_of, after, told}
use Rattle.afresh.proofs.Meeting.{white_meets, start_meets, digit_meets, newline_meets, dollar_meets, byte_meets}
use Rattle.afresh.proofs.Opening.{string_meets}
use Rattle.afresh.proofs.Ticking.{slash_meets, based_meets}
use Rattle.afresh.proofs.Escaping.{backslash_meets}
use Rattle.afresh.proofs.Accenting.{grave_meets}

module _ (w : List ℕ) (trimmed : trim_right w ≡ w) where
  module _ (h : Hold) (i x : ℕ) (xs : List ℕ) (d : drop i w ≡ x ∷ xs) where
    abbrev Met : Token → Type 0
    Met t = verdict (start h) (x ∷ xs) ≡ told w h t

    -- one token
    meets : Met (token_at (mode_of h) w i)
    unfolding token_at sign_token
    meets =
        rw (lt-leb (length w) i (goes_on w i x xs d), byte_at w i (x ∷ xs) d)
        (by_test Met (is_white x) (λ a1. white_meets w h i x xs d a1)
        (λ a1. by_test Met (is_start x) (λ a2. start_meets w h i x xs d a2)
        (λ a2. by_test Met (is_digit x) (λ a3. digit_meets w h i x xs d a1 a2 a3)
        (λ a3. by_test Met (eqb x 10) (λ e. let q = eqb-true x 10 e in rw q (newline_meets w h i xs (rw (← q) d)))
        (λ a4. by_test Met (eqb x 36) (λ a5. dollar_meets w h i x xs d a1 a2 a5)
        (λ a5. by_test Met (eqb x 34) (λ e. let q = eqb-true x 34 e in rw q (string_meets w h i xs (rw (← q) d)))
        (λ a6. by_test Met (eqb x 47) (λ e. let q = eqb-true x 47 e in rw q (slash_meets w h i xs (rw (← q) d)))
        (λ a7. by_test Met (eqb x 92) (λ e. let q = eqb-true x 92 e in rw q (backslash_meets w trimmed h i xs (rw (← q) d)))
        (λ a8. by_test Met (eqb x 39) (λ e. let q = eqb-true x 39 e in rw q (based_meets w h i xs (rw (← q) d)))
        (λ a9. by_test Met (eqb x 96) (λ e. let q = eqb-true x 96 e in rw q (grave_meets w trimmed h i xs (rw (← q) d)))
        (λ a10. byte_meets w h i x xs d a1 a2 a3 a4 a5 a6 a7 a8 a9 a10 (is_legal x) refl)))))))))))

  -- the tokens from i on, judged
  abbrev judged : Hold → ℕ → Bool
  judged (quoted b) i = unfit_in w b (tokens (between in_text b) w i)
  judged (under ks) i = unfit_held w ks (tokens in_file w i)

  judged_out : (h : Hold) (i : ℕ) → length w ≤ i → verdict (start h) (drop i w) ≡ judged h i
  unfolding reading ended leaves unfit_in unfit_held
  judged_out (quoted b) i l = rw (drop_of_length-le w l, tokens_out (between in_text b) w i l) (or_false b)
  judged_out (under ks) i l = rw (drop_of_length-le w l, tokens_out in_file w i l) (or_false (is_open ks))

  judged_next : (h : Hold) (i : ℕ) → i < length w → judged h i ≡ after w h (token_at (mode_of h) w i) (λ j. judged j (token_at (mode_of h) w i).end)
  unfolding unfit_in unfit_held
  judged_next (quoted b) i l = rw (text_next b (between in_text b) w i (token_at (between in_text b) w i) refl refl l)
  judged_next (under ks) i l = rw (file-tokens w i l)

  step_alike : (s : Step) (f g : List ℕ → Bool) → ((ks : List ℕ) → f ks ≡ g ks) → unless s f ≡ unless s g
  step_alike (on ks) f g e = e ks
  step_alike done f g e = refl
  step_alike torn f g e = refl

  after_alike : (h : Hold) (t : Token) (f g : Hold → Bool) → ((j : Hold) → f j ≡ g j) → after w h t f ≡ after w h t g
  after_alike (quoted b) t f g e = ap (cond (is_unfit w b t || barred_grave w t) true) (e (quoted (marks_after b t)))
  after_alike (under ks) t f g e =
      ap (cond (is_unfit w false t || is_accented w t) true) (step_alike (held_by w t ks) (λ js. f (under js)) (λ js. g (under js)) (λ js. e (under js)))

  whole : (n : ℕ) (h : Hold) (i : ℕ) → length w ≤ n + i → verdict (start h) (drop i w) ≡ judged h i
  whole zero h i l = judged_out h i (omega arith)
  whole (suc n) h i l = go (leb (length w) i) refl (λ j e p. whole n j e p)
    where
      go : (b : Bool) → leb (length w) i ≡ b → ((j : Hold) (e : ℕ) → length w ≤ n + e → verdict (start j) (drop e w) ≡ judged j e)
          → verdict (start h) (drop i w) ≡ judged h i
      go true e f = judged_out h i (leb-true (length w) i e)
      go false e f =
          let p : i < length w = leb-false (length w) i e in
          let c : drop i w ≡ get_or w i 0 ∷ drop (suc i) w = drop-cons w i 0 p in
          let k : ℕ = (token_at (mode_of h) w i).end in
          let q : i < k = token_ends (mode_of h) w i p in
          ap (verdict (start h)) c
          ∙ (meets h i (get_or w i 0) (drop (suc i) w) c
          ∙ (after_alike h (token_at (mode_of h) w i) (λ j. verdict (start j) (drop k w)) (λ j. judged j k) (λ j. f j k (omega arith))
          ∙ sym (judged_next h i p)))

pub meaning : (text : Bool) (w : List ℕ) → trim_right w ≡ w → ended (reading (begun text) w) ≡ is_unfit_as text w
unfolding unfit_text unfit_default
meaning true w e = whole w e (length w) (quoted false) 0 (omega arith)
meaning false w e = whole w e (length w) (under []) 0 (omega arith)
