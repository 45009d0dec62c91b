-- An escaped name or a `\`: what is read of one byte by byte is what judging it has.
-- Assumes nothing.
use Prim.Native.Nat.{ℕ, ◌+◌, ◌-◌, ◌≤◌}
use mathlib.Core.Bool.{Bool, true, false, not, ◌&&◌, ◌||◌}
use mathlib.Core.List.{List, [], ◌∷◌}
use mathlib.Core.Path.{◌≡◌, refl, ap, sym, ◌∙◌}
use native.Mathlib.Omega.{arith}
use lib.Dec.{eqb, leb, ltb}
use lib.ListN.{get_or, drop}
use borrow.Author.Tests.{eqb-true}
use Rattle.text.specs.Bytes.{holds, part}
use Rattle.lex.specs.Scans.{span_from, span_end}
use Rattle.lex.specs.Tokens.{Escaped, Byte, plain, named, escaped_or, backslash_token}
use Rattle.lex.specs.declared.Scan.{Scan}
use Rattle.lex.specs.declared.Token.{Token}
use Rattle.brackets.specs.Steps.{step_of}
use Rattle.storing.specs.Stored.{trim_right}
use Rattle.afresh.specs.Unfit.{is_accented, is_unfit}
use Rattle.afresh.specs.States.{Start, Solid, State, sign, fresh, outside}
use Rattle.afresh.proofs.Sorts.{or_true}
use Rattle.afresh.proofs.Going.{Hold, quoted, under, is_text, marks_of, bare, start, verdict, goes, passed, clear}
use Rattle.afresh.proofs.Placing.{reads_first}
use Rattle.afresh.proofs.Slanting.{span_past, span_empty, slant_to, empty_to, solid_reads}
use Rattle.afresh.proofs.Telling.{either, single_on, mode_of, told, told_bad, told_fit, rest_one, part_first, told_byte}

module _ (w : List ℕ) (i : ℕ) (xs : List ℕ) (d : drop i w ≡ 92 ∷ xs) (r : Scan) (p : i + 1 ≤ r.end) where
  abbrev token : Token
  token = named Escaped i (i + 1) r.end r.bar

  accented : is_accented w token ≡ holds 96 (part w (i + 1) r.end)
  unfolding holds
  accented = rw (part_first w i 92 xs d r.end (omega arith))

  -- neither barred nor too long nor crowded
  fit_told : (h : Hold) → is_unfit w (marks_of h) token ≡ false
      → told w h token ≡ ((not (is_text h) && holds 96 (part w (i + 1) r.end)) || verdict (start h) (drop r.end w))
  fit_told (quoted b) u = told_fit w (quoted b) token u refl refl refl (λ t. cc)
  fit_told (under ks) u = go (holds 96 (part w (i + 1) r.end)) refl
    where
      go : (b : Bool) → holds 96 (part w (i + 1) r.end) ≡ b → told w (under ks) token ≡ (b || verdict (start (under ks)) (drop r.end w))
      go true e = rw (accented ∙ e, or_true (is_unfit w false token))
      go false e = told_fit w (under ks) token u refl refl refl (λ t. accented ∙ e)

  name_told : (h : Hold) → slant_to w h false (i + 1) (i + 1) r ≡ told w h token
  name_told h =
      go (eqb r.bar 0) (ltb 1024 (r.end - (i + 1))) (leb 1024 (r.end - (i + 1)) && eqb (get_or w r.end 0) 92) refl refl refl
    where
      go : (a b c : Bool) → eqb r.bar 0 ≡ a → ltb 1024 (r.end - (i + 1)) ≡ b → (leb 1024 (r.end - (i + 1)) && eqb (get_or w r.end 0) 92) ≡ c
          → (not a || (b || (c || ((not (is_text h) && holds 96 (part w (i + 1) r.end)) || verdict (start h) (drop r.end w))))) ≡ told w h token
      go false b c e f g = sym (told_bad w h token (rw (e, e)))
      go true true c e f g = sym (told_bad w h token (rw (e, f)))
      go true false true e f g = sym (told_bad w h token (rw (e, f, g)))
      go true false false e f g = sym (fit_told h (rw (e, f, g)))

module _ (w : List ℕ) (trimmed : trim_right w ≡ w) (h : Hold) (i : ℕ) (xs : List ℕ) (d : drop i w ≡ 92 ∷ xs) where
  -- a `\` by itself
  byte : told w h (plain Byte i (i + 1) 0) ≡ verdict (start h) xs
  unfolding step_of
  byte = told_byte w i 92 xs d refl h ∙ ap (λ (q : State). verdict q xs) (single_on h 92 (λ ks. refl))

  escaped_told : (b : Bool) → eqb (span_from true true true (i + 1) xs).end (i + 1) ≡ b
      → slant_to w h false (i + 1) (i + 1) (span_from true true true (i + 1) xs) ≡ told w h (escaped_or Escaped i (i + 1) 0 (span_from true true true (i + 1) xs))
  escaped_told true e =
      let r : Scan = span_from true true true (i + 1) xs in
      let q : r.end ≡ i + 1 = eqb-true r.end (i + 1) e in
      let t : escaped_or Escaped i (i + 1) 0 r ≡ plain Byte i (i + 1) 0 = rw e in
      empty_to w h false (i + 1) r q (span_empty (i + 1) xs q) ∙ (ap (verdict (start h)) (rest_one w i 92 xs d) ∙ sym (ap (told w h) t ∙ byte))
  escaped_told false e =
      let r : Scan = span_from true true true (i + 1) xs in
      let t : escaped_or Escaped i (i + 1) 0 r ≡ named Escaped i (i + 1) r.end r.bar = rw e in
      name_told w i xs d r (span_past true (i + 1) xs) h ∙ ap (told w h) (sym t)

  pub backslash_meets : verdict (start h) (92 ∷ xs) ≡ told w h (backslash_token (mode_of h) w i)
  unfolding backslash_token span_end outside fresh sign step_of
  backslash_meets = go (marks_of h) refl
    where
      go : (b : Bool) → marks_of h ≡ b → verdict (start h) (92 ∷ xs) ≡ told w h (backslash_token (mode_of h) w i)
      go true m =
          let t : backslash_token (mode_of h) w i ≡ plain Byte i (i + 1) 0 = rw m in
          goes (start h) (start h) 92 xs (passed h Start false [] refl 92 (clear h 92 refl refl) ∙ rw m (either (is_text h) _))
          ∙ sym (ap (told w h) t ∙ byte)
      go false m =
          let r : Scan = span_from true true true (i + 1) xs in
          let r1 : drop (i + 1) w ≡ xs = rest_one w i 92 xs d in
          let t : backslash_token (mode_of h) w i ≡ escaped_or Escaped i (i + 1) 0 r = rw (m, r1) in
          goes (start h) (bare Solid h) 92 xs (passed h Start false [] refl 92 (clear h 92 refl refl) ∙ rw m)
          ∙ (solid_reads w trimmed h m false (i + 1) (i + 1) [] xs (reads_first r1) (omega arith)
          ∙ (escaped_told (eqb r.end (i + 1)) refl ∙ ap (told w h) (sym t)))
