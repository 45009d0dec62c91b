-- A grave accent in a default as it stands, one token at a time.
-- Assumes nothing.
use Prim.Native.Nat.{ℕ, ◌<◌, ◌≤◌}
use mathlib.Core.Bool.{Bool, true, false, not, ◌&&◌}
use mathlib.Core.List.{List}
use mathlib.Core.Path.{◌≡◌, refl, ap, ◌∙◌}
use lib.ListN.{length}
use borrow.Author.Tests.{lt-ltb, le-ltb}
use Rattle.text.specs.Bytes.{holds, part}
use Rattle.lex.specs.Tokens.{in_definition, between, Newline, marks_after, token_at, tokens}
use Rattle.lex.specs.declared.Mode.{Mode}
use Rattle.lex.specs.declared.Token.{Token}
use Rattle.lex.proofs.Progress.{token-at}
use Rattle.lex.proofs.Listing.{tokens_out, by_tokens}
use Rattle.storing.specs.Graves.{is_free, grave_in}
use Rattle.storing.proofs.Reading.{newline_stops, define_next}

module _ (s : List ℕ) (x i : ℕ) (b : Bool) where
  pub grave_out : length s ≤ i → grave_in s x (tokens (between in_definition b) s i) ≡ false
  unfolding grave_in
  grave_out h = rw (tokens_out (between in_definition b) s i h)

  pub grave_past : x ≤ i → grave_in s x (tokens (between in_definition b) s i) ≡ false
  unfolding grave_in
  grave_past =
      by_tokens s (λ (m : Mode) (i : ℕ) (ts : List Token). x ≤ i → grave_in s x ts ≡ false) (λ m i l h. refl) (λ m i l e h. refl)
      (λ m i l e f h. rw (token-at m s i, le-ltb i x h)) (between in_definition b) i

  module _ (m : Mode) (t : Token) (p : m ≡ between in_definition b) (q : t ≡ token_at m s i) (l : i < length s) where
    pub grave_stop : t.kind ≡ Newline → grave_in s x (tokens (between in_definition b) s i) ≡ false
    unfolding grave_in
    grave_stop e = rw (newline_stops b m s i t p q l e)

    module _ (n : t.kind ≡ Newline → ⊥) (h : i < x) (f d : Bool) (g : f ≡ is_free t) (k : d ≡ holds 96 (part s t.at t.end)) where
      starts : t.at ≡ i
      starts = ap (λ (t : Token). t.at) q ∙ token-at m s i

      within : t.at < x
      within = rw starts h

      pub grave_hit : (not f && d) ≡ true → grave_in s x (tokens (between in_definition b) s i) ≡ true
      unfolding grave_in
      grave_hit e = rw (define_next b m s i t p q l n, lt-ltb t.at x within, ← g, ← k, e)

      pub grave_next : (not f && d) ≡ false → (b' : Bool) → b' ≡ marks_after b t
          → grave_in s x (tokens (between in_definition b) s i) ≡ grave_in s x (tokens (between in_definition b') s t.end)
      unfolding grave_in
      grave_next e b' z = rw (z, define_next b m s i t p q l n, lt-ltb t.at x within, ← g, ← k, e)
