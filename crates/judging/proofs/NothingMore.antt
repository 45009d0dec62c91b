-- What the reader tells of a text beside that it is bad, because no definition can store it, refuses no definition.
-- Assumes nothing.
use Prim.Native.Nat.{ℕ, zero, suc, ◌+◌, ◌<◌, ◌≤◌}
use mathlib.Core.Bool.{Bool, true, false, cond, ◌||◌}
use mathlib.Core.List.{List}
use mathlib.Core.Path.{◌≡◌, refl}
use native.Mathlib.Omega.{arith}
use lib.Dec.{leb}
use lib.ListN.{length, drop}
use borrow.Author.Tests.{leb-true, leb-false}
use Rattle.lex.specs.Tokens.{in_definition, in_text, between, marks_after, token_at, tokens}
use Rattle.lex.specs.Faults.{Unbarred}
use Rattle.lex.specs.declared.Token.{Token}
use Rattle.lex.proofs.Progress.{token_ends}
use Rattle.lex.proofs.Listing.{tokens_out}
use Rattle.storing.specs.Stored.{stored}
use Rattle.storing.proofs.Reading.{text_next}
use Rattle.afresh.specs.Judging.{is_barred, barred_grave, bad_in, bad_text}
use Rattle.afresh.specs.Unfit.{is_stray, unfit_in, unfit_text}
use Rattle.afresh.proofs.Sorts.{or_false}
use Rattle.judging.proofs.Shapes.{Made}
use Rattle.judging.proofs.Storable.{stored_made}
use Rattle.judging.proofs.Rereading.{Stepped, barred, passed, steps}

-- one token is judged alike
module _ (a c d r s : Bool) where
  pub alike_barred : a ≡ true → cond ((a || c) || d) true r ≡ cond (a || d) true s
  alike_barred e = rw e

  pub alike_passed : c ≡ false → r ≡ s → cond ((a || c) || d) true r ≡ cond (a || d) true s
  alike_passed e f = rw (e, f, or_false a)

module _ (w : List ℕ) where
  abbrev Judged : Bool → ℕ → Type 0
  Judged b i = unfit_in w b (tokens (between in_text b) w i) ≡ bad_in w b (tokens (between in_text b) w i)

  judged_next : (b : Bool) (i : ℕ) → i < length w → (t : Token) → t ≡ token_at (between in_text b) w i → Stepped w b t
      → (Made (marks_after b t) (drop t.end w) → Judged (marks_after b t) t.end) → Judged b i
  unfolding unfit_in bad_in
  judged_next b i l t q (barred e) f =
      rw (text_next b (between in_text b) w i t refl q l)
      (alike_barred (is_barred t) (is_stray w b t) (barred_grave w t) (unfit_in w (marks_after b t) (tokens (between in_text (marks_after b t)) w t.end)) (bad_in w (marks_after b t) (tokens (between in_text (marks_after b t)) w t.end)) e)
  judged_next b i l t q (passed e m) f =
      rw (text_next b (between in_text b) w i t refl q l)
      (alike_passed (is_barred t) (is_stray w b t) (barred_grave w t) (unfit_in w (marks_after b t) (tokens (between in_text (marks_after b t)) w t.end)) (bad_in w (marks_after b t) (tokens (between in_text (marks_after b t)) w t.end)) e (f m))

  judged_out : (b : Bool) (i : ℕ) → length w ≤ i → Judged b i
  unfolding unfit_in bad_in
  judged_out b i l = rw (tokens_out (between in_text b) w i l)

  judged : (n : ℕ) (b : Bool) (i : ℕ) → length w ≤ n + i → Made b (drop i w) → Judged b i
  judged zero b i h m = judged_out b i (omega arith)
  judged (suc n) b i h m = go (leb (length w) i) refl (λ c j k r. judged n c j k r)
    where
      go : (a : Bool) → leb (length w) i ≡ a → ((c : Bool) (j : ℕ) → length w ≤ n + j → Made c (drop j w) → Judged c j) → Judged b i
      go true e f = judged_out b i (leb-true (length w) i e)
      go false e f =
          let l : i < length w = leb-false (length w) i e in
          let t : Token = token_at (between in_text b) w i in
          let p : i < t.end = token_ends (between in_text b) w i l in
          judged_next b i l t refl (steps w b i (drop i w) refl l m) (λ r. f (marks_after b t) t.end (omega arith) r)

  made_judged : Made false w → unfit_text w ≡ bad_text w
  unfolding unfit_text bad_text
  made_judged m = judged (length w) false 0 (omega arith) m

pub nothing_more : (s : List ℕ) (i x : ℕ) → Unbarred (tokens in_definition s i) → unfit_text (stored s i x) ≡ bad_text (stored s i x)
nothing_more s i x u = made_judged (stored s i x) (stored_made s i x u)
